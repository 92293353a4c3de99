-- What the contracts here say of the columns of L that go together in a view. Assumes nothing: these are definitions.
use Rattle.std.specs.Prelude.{Bool, List, ℕ}
use Rattle.symbolic.specs.Columns.{Column}
use Rattle.book.specs.declared.BookView.{BookView}
use Rattle.tables.specs.declared.ColumnsView.{ColumnsView}
use Rattle.updown.specs.Walks.{Columns, Parents}
use Rattle.updown.specs.Starts.{CanWalkListed, SomeWalkListed, CanWalkBooked, SomeWalkBooked}
use Rattle.updown.specs.States.{Multiplicities}

-- chains, multiplicities and parents that a view lends are those of the factor before the batch
abbrev pub ColumnsIn : ColumnsView → (m : ℕ) → (R W : List Column) → (adding : Bool) → Type 0
ColumnsIn v m R W a = Columns v.heads.now v.rows.now v.next.now m R W a

abbrev pub MultiplicitiesIn : ColumnsView → (m : ℕ) → (R W : List Column) → (adding : Bool) → Type 0
MultiplicitiesIn v m R W a = Multiplicities v.heads.now v.counts.now v.next.now m R W a

abbrev pub ParentsIn : ColumnsView → (m : ℕ) → (R W : List Column) → (adding : Bool) → Type 0
ParentsIn v m R W a = Parents v.parents.now m R W a

-- ---- what the two walks ask, of the columns and the book that views lend

abbrev pub ListedIn : ColumnsView → (work₀ work starts counts list : List ℕ) → (m flags free : ℕ) → (R W : List Column) → Type 0
ListedIn v w₀ w ss ks xs m flags free R W = CanWalkListed v.heads.now v.parents.now v.rows.now v.counts.now v.next.now w₀ w ss ks xs m flags free R W

abbrev pub SomeListedIn : ColumnsView → (work starts counts list : List ℕ) → (m flags free : ℕ) → Type 0
SomeListedIn v w ss ks xs m flags free = SomeWalkListed v.heads.now v.parents.now v.rows.now v.counts.now v.next.now w ss ks xs m flags free

abbrev pub BookedIn : ColumnsView → BookView → (work₀ work starts ids : List ℕ) → (m flags free : ℕ) → (R W : List Column) → (adding : Bool) → Type 0
BookedIn v b w₀ w ss is m flags free R W a =
    CanWalkBooked v.heads.now v.parents.now v.rows.now v.counts.now v.next.now b.heads.now b.rows.now b.next.now w₀ w ss is m flags free R W a

abbrev pub SomeBookedIn : ColumnsView → BookView → (work starts ids : List ℕ) → (m flags free : ℕ) → (adding : Bool) → Type 0
SomeBookedIn v b w ss is m flags free a =
    SomeWalkBooked v.heads.now v.parents.now v.rows.now v.counts.now v.next.now b.heads.now b.rows.now b.next.now w ss is m flags free a
