-- The two passes over the planned columns that write the plan: one commits each column's entries to its chain and only reads the work table, one writes
-- parents and clears the columns' places. From the factor L to L'. Assumes nothing: these are definitions.
use Rattle.std.specs.Prelude.{◌≡◌, true, List, [], ◌∷◌, ℕ, ◌+◌, ◌-◌, ◌≤◌, ◌<◌, eqb, length, set}
use Rattle.lists.specs.Lists.{pick, at, put, times, rises}
use Rattle.symbolic.specs.Factor.{FactorColumn, column_at, parent_of}
use Rattle.workspace.specs.Planned.{new_kind}
use Rattle.workspace.specs.Regions.{cell, region}
use Rattle.pool.specs.Chains.{chain}
use Rattle.tables.specs.Stored.{Stored, stored_of}
use Rattle.tables.specs.Stays.{EntriesKeep}
use Rattle.columns.specs.Plan.{of_kind}
use Rattle.columns.specs.Commit.{Holds, Ready, ChainStays}
use Rattle.updown.specs.Plans.{first_of, PlansFrom}
use Rattle.workspace.specs.Layout.{marks_at, starts_at, next_at, plan_at}

-- ---- the commits

-- where a column's plan ends: where the next column's starts, or at the end of all
abbrev pub end_of : (m : ℕ) (work : List ℕ) (next used : ℕ) → ℕ
end_of m w next used = pick (eqb next 0) used (cell w (starts_at m) (next - 1))

-- a work table with a plan start for each column, and next is a column or 0
pub record CanEnd (m : ℕ) (work : List ℕ) (next : ℕ) : Type 0 where
  pub bound : m ≤ 4096
  pub long : plan_at m ≤ length work
  pub high : next ≤ m

-- the columns hold L, the plan leads to L', and free records are enough for it
pub record CanCommitPlans (s : Stored) (L L' : List FactorColumn) (label : ℕ → ℕ) (columns work : List ℕ) (first used : ℕ) : Type 0 where
  pub ready : Ready s
  pub m-bound : length s.heads ≤ 4096
  pub rising : rises 1 (length s.heads) columns ≡ true
  pub first-is : first ≡ first_of columns
  pub plans : PlansFrom (length s.heads) L L' label work columns 0 used
  pub long : plan_at (length s.heads) + used ≤ length work
  pub room : of_kind new_kind (region work (plan_at (length s.heads)) used) ≤ length (chain s.next s.free)
  pub holds : (j : ℕ) → 1 ≤ j → j ≤ length s.heads → Holds s j (column_at L j).counts
  -- the diagonal is the first row, and stays
  pub below : (i j : ℕ) → 1 ≤ i → i < j → j ≤ length s.heads → at (column_at L j).counts i ≡ 0
  pub diagonal : (j : ℕ) → 1 ≤ j → j ≤ length s.heads → (0 < at (column_at L j).counts j) × (0 < at (column_at L' j).counts j)

-- parents are not read: any that suit will do
pub record SomeCommits (heads rows counts next : List ℕ) (free : ℕ) (work : List ℕ) (first used : ℕ) : Type 0 where
  pub parents : List ℕ
  pub L : List FactorColumn
  pub L' : List FactorColumn
  pub label : ℕ → ℕ
  pub columns : List ℕ
  pub can : CanCommitPlans (stored_of heads parents rows counts next free) L L' label columns work first used

-- planned columns hold L', with entries that stay in their records; the others stay
pub record PlansCommitted (s : Stored) (L' : List FactorColumn) (columns : List ℕ) (after : Stored) : Type 0 where
  pub ready : Ready after
  pub holds : (j : ℕ) → 1 ≤ times j columns → Holds after j (column_at L' j).counts
  pub keep : (j : ℕ) → 1 ≤ times j columns → EntriesKeep s after j
  pub others : (j : ℕ) → 1 ≤ j → j ≤ length s.heads → times j columns ≡ 0 → ChainStays s after j

-- ---- the parents

-- values of a function put at some numbers
unfoldable pub put_all : (f : ℕ → ℕ) → (numbers table : List ℕ) → List ℕ
put_all f [] xs = xs
put_all f (j ∷ js) xs = put_all f js (put xs j (f j))

-- the three places of each column cleared
unfoldable pub wiped : (m : ℕ) → (columns work : List ℕ) → List ℕ
wiped m [] w = w
wiped m (j ∷ js) w = wiped m js (set (set (set w (marks_at m + (j - 1)) 0) (starts_at m + (j - 1)) 0) (next_at m + (j - 1)) 0)

-- a plan from L to L' in the work table
pub record CanWriteParents (L L' : List FactorColumn) (label : ℕ → ℕ) (columns parents work : List ℕ) (first used : ℕ) : Type 0 where
  pub m-bound : length parents ≤ 4096
  pub rising : rises 1 (length parents) columns ≡ true
  pub first-is : first ≡ first_of columns
  pub plans : PlansFrom (length parents) L L' label work columns 0 used
  pub long : plan_at (length parents) ≤ length work

-- what a caller shows: that there is such a plan, from some factor to some other
pub record SomeParents (parents work : List ℕ) (first : ℕ) : Type 0 where
  pub L : List FactorColumn
  pub L' : List FactorColumn
  pub label : ℕ → ℕ
  pub columns : List ℕ
  pub used : ℕ
  pub can : CanWriteParents L L' label columns parents work first used

-- the planned columns have their parents of L', and zero places in the work table
pub record ParentsWritten (L' : List FactorColumn) (columns parents work parents' work' : List ℕ) : Type 0 where
  pub parents-are : parents' ≡ put_all (parent_of L') columns parents
  pub work-is : work' ≡ wiped (length parents) columns work
