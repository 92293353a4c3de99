-- What planning a batch asks and promises: adding goes from the columns R to R ++ W, removing from R ++ W to R. A promise holds for every R and W that the
-- tables and the lists suit. Assumes nothing: these are definitions.
use Rattle.std.specs.Prelude.{◌≡◌, Bool, true, false, List, [], ◌∷◌, ◌++◌, ℕ, ◌+◌, ◌≤◌, leb, eqb, length, get_or, take, drop}
use Rattle.lists.specs.Lists.{pick, all}
use Rattle.symbolic.specs.Columns.{Column, smallest, fits_rows}
use Rattle.symbolic.specs.Factor.{factor_of, size_sum}
use Rattle.symbolic.specs.Batch.{touched, label_of}
use Rattle.symbolic.specs.Change.{Bag}
use Rattle.workspace.specs.Regions.{IsZero}
use Rattle.workspace.specs.Layout.{spare, flags_at, flag_count}
use Rattle.pool.specs.Chains.{chain}
use Rattle.book.specs.Book as book
use Rattle.tables.specs.Stored.{Stored, Sized, stored_of, is_sound_for}
use Rattle.updown.specs.Plans.{PlanIs}

-- the length of a work table that planning asks; it uses the regions before `spare` and the flags, and reads no other place
abbrev pub plan_need : (m f : ℕ) → ℕ
plan_need m f = flags_at m f + 1024

-- ---- batches, as they are lent, and by position where each column starts

-- the rows of the batch's columns stand one after another in a list, as many of them as counts say; a start of 0 says that a column counts no row, whatever rows are lent for it
unfoldable pub Listed : (starts counts list : List ℕ) → (batch : List Column) → Type 0
Listed [] [] xs [] = Unit {0}
Listed [] [] xs (w ∷ ws) = ⊥
Listed [] (k ∷ ks) xs ws = ⊥
Listed (r ∷ rs) [] xs ws = ⊥
Listed (r ∷ rs) (k ∷ ks) xs [] = ⊥
Listed (r ∷ rs) (k ∷ ks) xs (w ∷ ws) = (w.rows ≡ pick (eqb r 0) [] (take k xs)) × (smallest w ≡ r) × (k ≤ length xs) × Listed rs ks (drop k xs) ws

-- the batch's columns are those that the book has under some ids; a start of 0 says that a column counts no row, whatever rows are booked for it
unfoldable pub BookedFrom : book.Book → (starts ids : List ℕ) → (batch : List Column) → Type 0
BookedFrom b [] [] [] = Unit {0}
BookedFrom b [] [] (w ∷ ws) = ⊥
BookedFrom b [] (i ∷ is) ws = ⊥
BookedFrom b (r ∷ rs) [] ws = ⊥
BookedFrom b (r ∷ rs) (i ∷ is) [] = ⊥
BookedFrom b (r ∷ rs) (i ∷ is) (w ∷ ws) =
    (w.rows ≡ pick (eqb r 0) [] (book.column_for b i).rows) × (smallest w ≡ r) × (1 ≤ i) × (i ≤ length b.heads) × BookedFrom b rs is ws

-- ---- batches whose columns count all their rows

-- the batch's columns are, with all their rows, those that the book has under some ids
unfoldable pub Booked : book.Book → (ids : List ℕ) → (batch : List Column) → Type 0
Booked b [] [] = Unit {0}
Booked b [] (w ∷ ws) = ⊥
Booked b (i ∷ is) [] = ⊥
Booked b (i ∷ is) (w ∷ ws) = (w.rows ≡ (book.column_for b i).rows) × (1 ≤ i) × (i ≤ length b.heads) × Booked b is ws

-- where listed columns start that count all their rows, 0 for one that has none
unfoldable pub listed_starts : (counts list : List ℕ) → List ℕ
listed_starts [] xs = []
listed_starts (k ∷ ks) xs = get_or (take k xs) 0 0 ∷ listed_starts ks (drop k xs)

-- where booked columns start that count all their rows, 0 for one that has none
unfoldable pub booked_starts : book.Book → (ids : List ℕ) → List ℕ
booked_starts b [] = []
booked_starts b (i ∷ is) = smallest (book.column_for b i) ∷ booked_starts b is

-- ---- what planning asks: stored columns that are sound for columns cs, a batch, and a work table whose regions for it are zero

-- what planning asks, of an addition and of a removal alike
pub record CanPlan (s : Stored) (cs batch : List Column) (work : List ℕ) : Type 0 where
  pub sized : Sized s
  pub sound : is_sound_for cs s ≡ true
  pub batch-fits : all (fits_rows (length s.heads)) batch ≡ true
  pub some : 1 ≤ length s.heads
  pub m-bound : length s.heads ≤ 4096
  pub f-bound : length s.next ≤ 1048576
  -- a loose bound above document 01's 16,384 ids and 64 positions, which only keeps multiplicities within 16 bits
  pub few : length cs + length batch ≤ 60000
  pub positions : (1 ≤ length batch) × (length batch ≤ 64)
  pub long : plan_need (length s.heads) (length s.next) ≤ length work
  -- the regions that planning uses: up to the plan's end, and the flags; what stands between and after them is not read
  pub zero : IsZero work 0 (spare (length s.heads) (length s.next))
  pub flags-zero : IsZero work (flags_at (length s.heads) (length s.next)) flag_count

-- adding W to the columns R that the tables are sound for
pub record CanAdd (s : Stored) (starts counts list work : List ℕ) (R W : List Column) : Type 0 where
  pub can : CanPlan s R W work
  pub listed : Listed starts counts list W

-- what a caller shows: that W can be added to R, for some R and W
pub record SomeAdd (s : Stored) (starts counts list work : List ℕ) : Type 0 where
  pub R : List Column
  pub W : List Column
  pub can : CanAdd s starts counts list work R W

-- adding W, which the book has, to the columns R that the tables are sound for; the free head of b is not read, any that suits will do
pub record CanEnter (s : Stored) (b : book.Book) (starts ids work : List ℕ) (R W : List Column) : Type 0 where
  pub can : CanPlan s R W work
  pub booked : BookedFrom b starts ids W
  pub book-sized : book.Sized b
  pub book-free : ℕ
  pub book-sound : book.is_sound (length s.heads) (book.book_of b.heads b.rows b.next book-free) ≡ true

-- what a caller shows: that W, which the book has, can be added to R, for some R and W
pub record SomeEnter (s : Stored) (b : book.Book) (starts ids work : List ℕ) : Type 0 where
  pub R : List Column
  pub W : List Column
  pub can : CanEnter s b starts ids work R W

-- the same of a W that counts all its rows
pub record CanAddBooked (s : Stored) (b : book.Book) (ids work : List ℕ) (R W : List Column) : Type 0 where
  pub can : CanPlan s R W work
  pub booked : Booked b ids W
  pub book-sized : book.Sized b
  pub book-free : ℕ
  pub book-sound : book.is_sound (length s.heads) (book.book_of b.heads b.rows b.next book-free) ≡ true

-- what a caller shows: that W, which counts all its rows, can be added to R, for some R and W
pub record SomeAddBooked (s : Stored) (b : book.Book) (ids work : List ℕ) : Type 0 where
  pub R : List Column
  pub W : List Column
  pub can : CanAddBooked s b ids work R W

-- removing W, which the book has, from columns that are R and W but for their order; the free heads of s and b are not read, any that suit will do
pub record CanRemove (s : Stored) (b : book.Book) (starts ids work : List ℕ) (R W : List Column) : Type 0 where
  pub columns : List Column
  pub free : ℕ
  pub book-free : ℕ
  pub can : CanPlan (stored_of s.heads s.parents s.rows s.counts s.next free) columns W work
  pub same : Bag columns (R ++ W)
  pub booked : BookedFrom b starts ids W
  pub book-sized : book.Sized b
  pub book-sound : book.is_sound (length s.heads) (book.book_of b.heads b.rows b.next book-free) ≡ true

-- what a caller shows: that W can be removed and R stays, for some R and W
pub record SomeRemove (s : Stored) (b : book.Book) (starts ids work : List ℕ) : Type 0 where
  pub R : List Column
  pub W : List Column
  pub can : CanRemove s b starts ids work R W

-- ---- what it promises

-- from R to R ++ W: "16: the sum of all pattern sizes would exceed F" decides; where it does not fit, the work table is as lent
pub record AddPlanned (s : Stored) (R W : List Column) (before after : List ℕ) (fits : Bool) (first count entries used : ℕ) : Type 0 where
  pub fits-is : fits ≡ leb (size_sum (factor_of (length s.heads) (R ++ W))) (length s.next)
  pub plan : fits ≡ true →
      PlanIs (length s.heads) (length s.next) (length (chain s.next s.free)) (factor_of (length s.heads) R) (factor_of (length s.heads) (R ++ W))
      (label_of (factor_of (length s.heads) (R ++ W)) W) (touched (factor_of (length s.heads) (R ++ W)) W) before after first count entries used
  pub unchanged : fits ≡ false → after ≡ before

-- from R ++ W to R: it always fits, and no entry is new
pub record RemovePlanned (s : Stored) (R W : List Column) (before after : List ℕ) (fits : Bool) (first count entries used : ℕ) : Type 0 where
  pub fits-is : fits ≡ true
  pub plan :
      PlanIs (length s.heads) (length s.next) 0 (factor_of (length s.heads) (R ++ W)) (factor_of (length s.heads) R)
      (label_of (factor_of (length s.heads) (R ++ W)) W) (touched (factor_of (length s.heads) (R ++ W)) W) before after first count entries used
