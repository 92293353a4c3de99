-- A change of the factor: what its unchecked twin asks, and the answer with the record after it. The contract of the checked entry is `Transition` of its call,
-- that of the unchecked one `ChangeStep`: 1 to 6 are passed by its premise. Assumes nothing: these are definitions.
use Rattle.std.specs.Prelude.{◌≡◌, List, ℕ, ◌≤◌, length}
use Rattle.tables.specs.Tables.{Tables, State}
use Rattle.calls.specs.Calls.{Change, changing, Lent, call_of}
use Rattle.calls.specs.Steps.{Answer, Transition}
use Rattle.steps.specs.Outcome.{ChangeStep}
use Rattle.factor.specs.declared.Factor.{Factor}
use Rattle.admission.specs.Admission.{CanUse}
use Rattle.factor.specs.Entries.{state_of, world_of}
use Rattle.answers.specs.declared.Changed.{Changed}

-- ---- what a change asks

-- usable tables, a work table whose first W places are zero, and lists long enough for the report
pub record CanChange (s : State) (t : Tables) (work touched labels : List ℕ) : Type 0 where
  pub can-use : CanUse s t work
  pub touched-long : s.sizes.m ≤ length touched
  pub labels-long : s.sizes.m ≤ length labels

-- ---- what it answers

-- the numbers of a change's answer, without the record
abbrev pub changed_answer : Changed → Answer
changed_answer x = record { number = x.number; position = x.position; touched = x.touched; entries = x.entries; grade = x.grade; row = 0; value = 0 }

-- an answer by its numbers and its record
pub record AnswerIs (numbers : Answer) (state : State) (r : Changed) : Type 0 where
  pub numbers-are : changed_answer r ≡ numbers
  pub record_is : state_of r.factor ≡ state

-- ---- what it promises

-- a checked change: one transition of the factor's world, from its record and tables to those after it
abbrev pub ChangeTransition : Factor → (tables : Tables) → Change → (lent : Lent) → Changed → (after : Lent) → (tables' : Tables) → Type 0
ChangeTransition k t c x r y u = Transition (world_of k t) (call_of (changing c) x) (changed_answer r) y (world_of r.factor u)

-- an unchecked one
abbrev pub UncheckedChange : Factor → (tables : Tables) → Change → (lent : Lent) → Changed → (after : Lent) → (tables' : Tables) → Type 0
UncheckedChange k t c x r y u = ChangeStep (world_of k t) c x (changed_answer r) y (world_of r.factor u)
