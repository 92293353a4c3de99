-- The report of a plan: the touched columns and their labels, along the planned columns of the work table. Assumes nothing: these are definitions.
use Rattle.std.specs.Prelude.{◌≡◌, true, List, [], ◌∷◌, ℕ, ◌≤◌, length}
use Rattle.lists.specs.Lists.{rises, over}
use Rattle.symbolic.specs.Factor.{FactorColumn}
use Rattle.workspace.specs.Layout.{plan_at}
use Rattle.updown.specs.Plans.{first_of, PlansFrom}

-- labels of some columns, in their order
unfoldable pub labels_for : (label : ℕ → ℕ) → (columns : List ℕ) → List ℕ
labels_for f [] = []
labels_for f (j ∷ js) = f j ∷ labels_for f js

-- a plan from L to L' in the work table, and lists for touched columns and labels with a place for each column
pub record CanReport (m : ℕ) (L L' : List FactorColumn) (label : ℕ → ℕ) (columns work touched labels : List ℕ) (first used : ℕ) : Type 0 where
  pub m-bound : m ≤ 4096
  pub rising : rises 1 m columns ≡ true
  pub first-is : first ≡ first_of columns
  pub plans : PlansFrom m L L' label work columns 0 used
  pub long : plan_at m ≤ length work
  pub touched-long : m ≤ length touched
  pub labels-long : m ≤ length labels

-- what a caller shows: that there is such a plan, from some factor to some other
pub record SomeReport (m : ℕ) (work touched labels : List ℕ) (first : ℕ) : Type 0 where
  pub L : List FactorColumn
  pub L' : List FactorColumn
  pub label : ℕ → ℕ
  pub columns : List ℕ
  pub used : ℕ
  pub can : CanReport m L L' label columns work touched labels first used

-- the lists begin with the planned columns and their labels, and stay behind them
pub record Reported (label : ℕ → ℕ) (columns touched labels touched' labels' : List ℕ) : Type 0 where
  pub touched-is : touched' ≡ over columns touched
  pub labels-is : labels' ≡ over (labels_for label columns) labels
