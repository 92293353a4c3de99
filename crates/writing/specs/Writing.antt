-- An accepted batch written: its plan is reported, then plan and book are written. Stated over the change, for adding and removing alike. Assumes nothing: these are
-- definitions.
use Rattle.std.specs.Prelude.{◌≡◌, true, List, ℕ}
use Rattle.lists.specs.Lists.{over}
use Rattle.symbolic.specs.Grades.{Limits}
use Rattle.tables.specs.Tables.{Tables}
use Rattle.calls.specs.Refusals.{is_accepted}
use Rattle.calls.specs.Calls.{Change, Lent}
use Rattle.calls.specs.Changes.{touched_by, labels_by}
use Rattle.calls.specs.Steps.{World, booked_in, Exchanged}
use Rattle.updown.specs.declared.Plan.{Plan}
use Rattle.steps.specs.Outcome.{number_for, cut_world, CanStep}
use Rattle.judging.specs.Judging.{BatchPlan}
use Rattle.writing.specs.declared.FreeHeads.{FreeHeads}

-- an accepted batch with its plan in the work table
pub record CanWriteBatch (u : World) (c : Change) (before work touched labels : List ℕ) (x : Plan) : Type 0 where
  pub can : CanStep u before touched labels
  pub accepted : is_accepted (number_for u c) ≡ true
  pub plan : BatchPlan u c before work x

-- what a caller shows: such a batch, for some limits, some clock, and some work table before the plan
pub record SomePlan (t : Tables) (free book_free : ℕ) (c : Change) (work touched labels : List ℕ) (x : Plan) : Type 0 where
  pub limits : Limits
  pub clock : ℕ
  pub before : List ℕ
  pub can : CanWriteBatch (cut_world t limits clock free book_free) c before work touched labels x

-- tables and report are the change's, and the work table is as before the plan
pub record BatchWritten (u : World) (c : Change) (before touched labels : List ℕ) (v : World) (work touched' labels' : List ℕ) : Type 0 where
  pub exchanged : Exchanged u c v
  pub work-is : work ≡ before
  pub touched-is : touched' ≡ over (touched_by (booked_in u) c) touched
  pub labels-is : labels' ≡ over (labels_by (booked_in u) c) labels

-- what it promises: tables and report of the change, whatever limits, clock and work table before the plan suit
abbrev pub WritesPlan : Tables → (free book_free : ℕ) → Change → (lent : Lent) → Plan → (after : Tables) → FreeHeads → (lent' : Lent) → Type 0
WritesPlan t f g k x p u r y =
    (h : Limits) (o : ℕ) (w : List ℕ) → CanWriteBatch (cut_world t h o f g) k w x.work x.touched x.labels p →
    BatchWritten (cut_world t h o f g) k w x.touched x.labels (cut_world u h o r.free.0 r.book_free.0) y.work y.touched y.labels
