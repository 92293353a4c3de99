-- The plan of a batch in the work table, column by touched column: where a column's planned entries stand, its label, its new parent, the next touched
-- column. From the factor L before the batch to L' after it. What planning asks and promises: specs/Entries.antt. Assumes nothing: these are definitions.
use Rattle.std.specs.Prelude.{◌≡◌, ◌⊎◌, List, [], ◌∷◌, ℕ, ◌+◌, ◌-◌, ◌/◌, ◌%◌, ◌≤◌, ◌<◌, length, get_or}
use Rattle.lists.specs.Lists.{Mem}
use Rattle.symbolic.specs.Factor.{FactorColumn, column_at, parent_of}
use Rattle.symbolic.specs.Batch.{entries_of}
use Rattle.workspace.specs.Regions.{cell, region}
use Rattle.workspace.specs.Layout.{marks_at, starts_at, next_at, plan_at}
use Rattle.workspace.specs.Planned.{new_kind}
use Rattle.columns.specs.Plan.{planned, Suits, of_kind}

-- ---- a mark: a bit for a column where a batch column starts, its label by one weight, its new parent by another

-- in the mark of a column where a batch column starts
abbrev pub start_bit : ℕ
start_bit = 2

-- by which a label counts
abbrev pub label_weight : ℕ
label_weight = 4

-- by which a new parent counts
abbrev pub parent_weight : ℕ
parent_weight = 262144

-- the label in a mark
abbrev pub label_in : (mark : ℕ) → ℕ
label_in x = x / label_weight % 65536

-- the new parent in a mark
abbrev pub parent_in : (mark : ℕ) → ℕ
parent_in x = x / parent_weight

-- ---- the plan of column j: its entries stand from start to end

-- label, new parent and next touched column of j, and entries that make its multiplicities in L those in L'
pub record ColumnPlan (m : ℕ) (L L' : List FactorColumn) (label : ℕ → ℕ) (work : List ℕ) (j start end next : ℕ) : Type 0 where
  pub rises : start ≤ end
  pub label_is : label_in (cell work (marks_at m) (j - 1)) ≡ label j
  pub parent_is : parent_in (cell work (marks_at m) (j - 1)) ≡ parent_of L' j
  pub starts : cell work (starts_at m) (j - 1) ≡ start
  pub next-is : cell work (next_at m) (j - 1) ≡ next
  pub suits : Suits (column_at L j).counts j (region work (plan_at m + start) (end - start))
  pub becomes : planned (column_at L j).counts (region work (plan_at m + start) (end - start)) ≡ (column_at L' j).counts

-- the first of some columns, 0 if there is none
abbrev pub first_of : List ℕ → ℕ
first_of js = get_or js 0 0

-- the plans of the touched columns, one after another
unfoldable pub PlansFrom : (m : ℕ) (L L' : List FactorColumn) (label : ℕ → ℕ) (work : List ℕ) (columns : List ℕ) (start used : ℕ) → Type 0
PlansFrom m L L' label w [] start used = start ≡ used
PlansFrom m L L' label w (j ∷ js) start used =
    (end : ℕ) × (ColumnPlan m L L' label w j start end (first_of js) × PlansFrom m L L' label w js end used)

-- a place that the plan of some columns uses
abbrev pub InPlan : (m used : ℕ) (columns : List ℕ) (k : ℕ) → Type 0
InPlan m used js k =
    ((j : ℕ) × (Mem j js × ((k ≡ marks_at m + (j - 1)) ⊎ ((k ≡ starts_at m + (j - 1)) ⊎ (k ≡ next_at m + (j - 1)))))) ⊎ ((plan_at m ≤ k) × (k < plan_at m + used))

-- THE PLAN: the touched columns' plans stand in a work table that is as lent elsewhere; f is the number of records, free that of free ones
pub record PlanIs (m f free : ℕ) (L L' : List FactorColumn) (label : ℕ → ℕ) (columns : List ℕ) (before after : List ℕ) (first count entries used : ℕ) : Type 0 where
  pub same_length : length after ≡ length before
  pub plans : PlansFrom m L L' label after columns 0 used
  pub first-is : first ≡ first_of columns
  pub count-is : count ≡ length columns
  pub entries-is : entries ≡ entries_of L L' columns
  pub room : used ≤ f
  -- the new entries of all columns together have free records
  pub new-fit : of_kind new_kind (region after (plan_at m) used) ≤ free
  pub clean : (k : ℕ) → (InPlan m used columns k → ⊥) → get_or after k 0 ≡ get_or before k 0
