-- Document 02's question for the next row, by calls: when it is accepted (`NextTaken`); what an accepted one answers, against what the tables hold (`NextStands`),
-- the parent among others (`NextIsParent`); and the walk of a column beside its reader (`WalkIsColumn`), which changes nothing (`WalkStays`) and ends
-- (`WalkEnds`). symbolic/specs/Statements.antt has the laws of the definition alone. proofs/Walking.antt has the terms.
-- Assumes nothing: these are definitions.
use Rattle.std.specs.Prelude.{◌≡◌, ◌⊎◌, true, List, [], ◌∷◌, ◌++◌, ℕ, suc, ◌+◌, ◌≤◌, ◌<◌, eqb, length, replicate}
use Rattle.lists.specs.Lists.{pick, is_in, Mem, at}
use Rattle.symbolic.specs.NextRow.{ColumnEntry, IsNext, column_entries}
use Rattle.tables.specs.Tables.{long_enough, is_sound}
use Rattle.reader.specs.Reading.{readings, end, all_given, as_read}
use Rattle.calls.specs.Refusals.{accepted, bounds, sizes_refusal, work_for}
use Rattle.calls.specs.Calls.{ask_next_row, asking, work_only}
use Rattle.calls.specs.Steps.{World, Transition}
use Rattle.history.specs.Runs.{Event, Run}
use Rattle.history.specs.Statements.{held_rows, held_counts, held_count, held_parent, Consistent, plain_of}

-- "on sound tables": a record and tables that pass 1 to 6
pub record SoundWorld (u : World) : Type 0 where
  pub in-range : sizes_refusal bounds u.state.sizes ≡ accepted
  pub long : long_enough u.state.sizes u.tables ≡ true
  pub sound : is_sound u.state u.tables ≡ true

-- ---- one question

-- on sound tables, asking for a row and a column of 1 to m is accepted, given W work places and a place within the lent list, which is 0 for this question
abbrev pub NextTaken : Type 0
NextTaken =
    (u : World) (e : Event) (v : World) (i j p : ℕ) → Transition u e.call e.answer e.left v → e.call.entry ≡ asking (ask_next_row i j) p →
    SoundWorld u → is_in 1 u.state.sizes.m i ≡ true → is_in 1 u.state.sizes.m j ≡ true →
    work_for u.state.sizes ≤ length e.call.lent.work → p ≤ length e.call.lent.list → e.answer.number ≡ 0

-- an accepted question for the next row, from row i on in column j
pub record AsksNext (e : Event) (i j : ℕ) : Type 0 where
  pub place : ℕ
  pub asks : e.call.entry ≡ asking (ask_next_row i j) place
  pub taken : e.answer.number ≡ 0

-- the row and the multiplicity that a call answers
abbrev pub entry_by : Event → ColumnEntry
entry_by e = record { row = e.answer.row; count = e.answer.value }

-- what such a question answers, against what the tables hold
pub record NextJust (u : World) (e : Event) (i j : ℕ) : Type 0 where
  -- it has passed 17: row and column are of 1 to m
  pub row : is_in 1 u.state.sizes.m i ≡ true
  pub column : is_in 1 u.state.sizes.m j ≡ true
  -- "the first row at or above i in column j and its multiplicity, both 0 if the column ends before"
  pub first : IsNext u.state.sizes.m (held_count u) i j (entry_by e)
  -- for i up to j it is the diagonal
  pub diagonal : i ≤ j → e.answer.row ≡ j
  pub list-stays : e.left.list ≡ e.call.lent.list

-- on any tables: it has passed 1 to 6, so that they are sound is a conclusion; it answers just that, and changes neither record nor tables
abbrev pub NextStands : Type 0
NextStands =
    (u : World) (e : Event) (v : World) (i j : ℕ) → Transition u e.call e.answer e.left v → AsksNext e i j →
    Consistent (plain_of u) u × (v ≡ u) × NextJust u e i j

-- "for j below m, asking for j + 1 gives j's parent"
abbrev pub NextIsParent : Type 0
NextIsParent =
    (u : World) (e : Event) (v : World) (j : ℕ) → Transition u e.call e.answer e.left v → AsksNext e (suc j) j →
    (j < u.state.sizes.m) × (e.answer.row ≡ held_parent u j)

-- ---- a walk

-- "until row m or 0": an answer that ends a walk
abbrev pub EndsWalk : (m : ℕ) → Event → Type 0
EndsWalk m e = (e.answer.row ≡ 0) ⊎ (e.answer.row ≡ m)

-- "asking from 1, then from one above each row given, until row m or 0": calls that ask so, from row i on
unfoldable pub Walks : (m j i : ℕ) → List Event → Type 0
Walks m j i [] = ⊥
Walks m j i (e ∷ es) = AsksNext e i j × ((EndsWalk m e × (es ≡ [])) ⊎ ((EndsWalk m e → ⊥) × Walks m j (suc e.answer.row) es))

-- what the calls of a walk give: row 0 is no entry
unfoldable pub walked : List Event → List ColumnEntry
walked [] = []
walked (e ∷ es) = pick (eqb e.answer.row 0) (walked es) (entry_by e ∷ walked es)

-- what a walk of column j gives, against what the tables hold and what is read of them
pub record WalkJust (u : World) (es : List Event) (j : ℕ) : Type 0 where
  -- "column j's entries": the rows of its chain with their multiplicities, in their order
  pub entries : walked es ≡ column_entries (held_rows u j) (held_counts u j)
  -- "as its reader does": readings of the tables from head j on give these, then k times the end. They are a `Reader`'s calls from there (`CallsRead`), and are
  -- column j on sound tables (`ReadsTables`, both in reader/specs/Statements.antt)
  pub reader : (k : ℕ) →
      all_given (readings (length (walked es) + k) u.tables.rows u.tables.counts u.tables.next (at u.tables.heads j)) ≡
      as_read (walked es) ++ replicate k end

-- each of some calls gets this record and these tables; what is called between them does not matter
abbrev pub CallsOn : World → List Event → Type 0
CallsOn u es = (e : Event) → Mem e es → (v : World) × Transition u e.call e.answer e.left v

-- a walk from row 1 on gives column j as its reader does
abbrev pub WalkIsColumn : Type 0
WalkIsColumn =
    (u : World) (es : List Event) (j : ℕ) → CallsOn u es → Walks u.state.sizes.m j 1 es → Consistent (plain_of u) u × WalkJust u es j

-- calls one after another that walk a column change neither record nor tables, so each gets the same
abbrev pub WalkStays : Type 0
WalkStays = (u : World) (es : List Event) (v : World) (m j i : ℕ) → Run u es v → Walks m j i es → (v ≡ u) × CallsOn u es

-- on sound tables every column has a walk, with any work table of W places: it ends, none of its calls is refused, and m + 1 is never asked
abbrev pub WalkEnds : Type 0
WalkEnds =
    (u : World) (j : ℕ) (w : List ℕ) → SoundWorld u → is_in 1 u.state.sizes.m j ≡ true → work_for u.state.sizes ≤ length w →
    (es : List Event) × (Run u es u × Walks u.state.sizes.m j 1 es × ((e : Event) → Mem e es → e.call.lent ≡ work_only w))
