-- One call: its answer, what it leaves of each lent list, and record and tables after it. The contract of an entry is `Transition` of its call and nothing else.
-- Left open are which free record a change takes and the free chains' later order: `Exchanged` says what an accepted change must leave in record and tables.
-- Assumes nothing: these are definitions.
use Rattle.std.specs.Prelude.{◌≡◌, Bool, true, false, List, [], ℕ, ◌≤◌, length}
use Rattle.lists.specs.Lists.{pick, among, over, written_at}
use Rattle.symbolic.specs.Columns.{Register}
use Rattle.symbolic.specs.Factor.{factor_of}
use Rattle.symbolic.specs.Grades.{Limits, limits_for, grade_of}
use Rattle.symbolic.specs.Change.{Bag}
use Rattle.workspace.specs.Regions.{zero_first}
use Rattle.book.specs.Book as book
use Rattle.tables.specs.Tables.{Tables, Sizes, State, stored_in, book_in, windows_in, register_of, is_sound}
use Rattle.tables.specs.Opening.{opened_state, opened_tables}
use Rattle.tables.specs.Stays.{ColumnStays, EntriesStay, MinutesStay, TailsStay}
use Rattle.calls.specs.Refusals.{Refusal, is_accepted, work_for}
use Rattle.calls.specs.Calls.{Change, Entry, opening, changing, checking, asking, Lent, with_work, Call, with_default, sizes_after}
use Rattle.calls.specs.Changes.{effect, touched_by, labels_by, entries_by}
use Rattle.calls.specs.Questions.{response}
use Rattle.calls.specs.Numbers.{call_early, refusal_of}

-- ---- the numbers that a call answers; one that a call does not have is 0

-- the number and position of a call, a change's touched columns, entries and grade, a question's row and value
pub record Answer : Type 0 where
  pub number : ℕ
  pub position : ℕ
  pub touched : ℕ
  pub entries : ℕ
  pub grade : ℕ
  pub row : ℕ
  pub value : ℕ

-- "A refusal carries the position ..; its other numbers are 0"
abbrev pub refused_by : Refusal → Answer
refused_by x = record { number = x.number; position = x.position; touched = 0; entries = 0; grade = 0; row = 0; value = 0 }

-- ---- what an accepted call answers and writes: from the register, and the grade from the limits too

-- a change's report, a question's row, value and list with the place that the list is written from on; what a call does not have is 0 or []
pub record Result : Type 0 where
  pub touched : List ℕ
  pub labels : List ℕ
  pub entries : ℕ
  pub row : ℕ
  pub value : ℕ
  pub list : List ℕ
  pub place : ℕ

-- of a call that reports nothing
abbrev pub no_result : Result
no_result = record { touched = []; labels = []; entries = 0; row = 0; value = 0; list = []; place = 0 }

-- what each kind of call answers and writes
abbrev pub result_of : Register → Entry → Result
result_of r (opening l g) = no_result
result_of r (changing c) =
    record { touched = touched_by r c; labels = labels_by r c; entries = entries_by r c; row = 0; value = 0; list = []; place = 0 }
result_of r checking = no_result
result_of r (asking q p) =
    record {
      touched = [];
      labels = [];
      entries = 0;
      row = (response r q).row;
      value = (response r q).value;
      list = (response r q).list;
      place = p;
    }

-- the answer of an accepted call: number 0, with a change's report or a question's row and value; "every grade is read from" the factor's limits, 0 for no entry
abbrev pub accepted_by : Limits → Register → Entry → Answer
accepted_by g r e =
    record {
      number = 0;
      position = 0;
      touched = length (result_of r e).touched;
      entries = (result_of r e).entries;
      grade = grade_of g (result_of r e).entries;
      row = (result_of r e).row;
      value = (result_of r e).value;
    }

-- the lists after an accepted call, with the work table as given: "the entries are written from the given place of the caller's list onward .. and the rest
-- of the list keeps its content"
abbrev pub lists_after : Register → Call → (work : List ℕ) → Lent
lists_after r k v =
    record {
      work = v;
      touched = over (result_of r k.entry).touched k.lent.touched;
      labels = over (result_of r k.entry).labels k.lent.labels;
      list = written_at (result_of r k.entry).place (result_of r k.entry).list k.lent.list;
    }

-- "nothing lent changes except that from check 6 on, the first W work places are zero. After an accepted call they are zero too."
abbrev pub work_after : Sizes → Tables → Call → List ℕ
work_after l t k =
    pick (is_accepted (call_early l t k)) (zero_first (work_for (sizes_after l k.entry)) k.lent.work) k.lent.work

-- ---- record and tables

-- the record and the tables, which a call gets "as the calls before it left them"
pub record World : Type 0 where
  pub state : State
  pub tables : Tables

-- the register that book and windows of a world hold at its clock
abbrev pub booked_in : World → Register
booked_in u = register_of u.state u.tables

-- the book's tables, its free head and the windows are as before
pub record SameBook (before after : World) : Type 0 where
  pub heads : after.tables.book_heads ≡ before.tables.book_heads
  pub rows : after.tables.book_rows ≡ before.tables.book_rows
  pub next : after.tables.book_next ≡ before.tables.book_next
  pub windows : after.tables.windows ≡ before.tables.windows
  pub free : after.state.book_free ≡ before.state.book_free

-- what an accepted change leaves: "a pattern entry that stays keeps its record and .. the tables are sound afterwards"
pub record Exchanged (before : World) (c : Change) (after : World) : Type 0 where
  pub sizes : after.state.sizes ≡ before.state.sizes
  -- "The limits stay with the factor until it is opened anew"
  pub limits : after.state.limits ≡ before.state.limits
  -- a batch leaves the clock, a clock change sets it
  pub clock : after.state.clock ≡ (effect (booked_in before) c).register.clock
  pub sound : is_sound after.state after.tables ≡ true
  -- the book's columns are those of the register after the change
  pub columns : Bag (booked_in after).columns (effect (booked_in before) c).register.columns
  -- a factor column that is not touched stays
  pub others : (j : ℕ) → 1 ≤ j → j ≤ before.state.sizes.m → among j (touched_by (booked_in before) c) ≡ false →
      ColumnStays (stored_in before.state before.tables) (stored_in after.state after.tables) j
  -- an entry that stands before, after, and for the columns that stay keeps its record
  pub entries : (j : ℕ) → 1 ≤ j → j ≤ before.state.sizes.m →
      EntriesStay (factor_of before.state.sizes.m (effect (booked_in before) c).stay) (stored_in before.state before.tables)
      (stored_in after.state after.tables) j
  -- the booked column of every other id stays
  pub book : (i : ℕ) → 1 ≤ i → i ≤ before.state.sizes.n → among i (effect (booked_in before) c).ids ≡ false →
      book.ColumnStays (book_in before.state before.tables) (book_in after.state after.tables) i
  -- and so do the minutes of every other id
  pub minutes : (i : ℕ) → 1 ≤ i → i ≤ before.state.sizes.n → among i (effect (booked_in before) c).ids ≡ false →
      MinutesStay before.state.sizes.n (windows_in before.state before.tables) (windows_in after.state after.tables) i
  -- a change that books and removes nothing leaves the book's tables as they are
  pub still : (effect (booked_in before) c).ids ≡ [] → SameBook before after
  pub tails : TailsStay before.state.sizes before.tables after.tables

-- record and tables after an accepted call
abbrev pub AcceptedWorld : World → Entry → World → Type 0
AcceptedWorld u (opening l g) v = (v.state ≡ opened_state (with_default l) (limits_for g)) × (v.tables ≡ opened_tables (with_default l) u.tables)
AcceptedWorld u (changing c) v = Exchanged u c v
AcceptedWorld u checking v = v ≡ u
AcceptedWorld u (asking q p) v = v ≡ u

-- ---- THE TRANSITION: answer, lent lists, record and tables of one call

-- taken: the accepted answer with its lists and tables; otherwise the refusal, with nothing changed but the work table
abbrev pub OutcomeFor : (is_taken : Bool) → World → Call → Answer → Lent → World → Type 0
OutcomeFor true u k a x v =
    (a ≡ accepted_by u.state.limits (booked_in u) k.entry) × (x ≡ lists_after (booked_in u) k (work_after u.state.sizes u.tables k)) × AcceptedWorld u k.entry v
OutcomeFor false u k a x v =
    (a ≡ refused_by (refusal_of u.state u.tables k)) × (x ≡ with_work k.lent (work_after u.state.sizes u.tables k)) × (v ≡ u)

-- what every public entry promises of its call: the outcome that its number decides
abbrev pub Transition : World → Call → Answer → Lent → World → Type 0
Transition u k a x v = OutcomeFor (is_accepted (refusal_of u.state u.tables k)) u k a x v
