-- Touched columns gathered over several plans. A place for each column, m places of the work table from a start on, has a lower part that stays and, once
-- the column is gathered, one more than its size at that time as its upper part. Assumes nothing: these are definitions.
use Rattle.std.specs.Prelude.{◌≡◌, true, List, ℕ, ◌+◌, ◌*◌, ◌-◌, ◌≤◌, ◌<◌, ltb, length}
use Rattle.lists.specs.Lists.{pick, at, times, rises}
use Rattle.symbolic.specs.Factor.{FactorColumn}
use Rattle.workspace.specs.Regions.{cell, OnlyIn}
use Rattle.workspace.specs.Layout.{spare}
use Rattle.workspace.specs.Parts.{upper_weight}
use Rattle.pool.specs.Chains.{chain, Linked}
use Rattle.updown.specs.Plans.{first_of, PlansFrom}

-- ---- a place

-- the place of column j, of those from a on
abbrev pub column_place : (work : List ℕ) → (a j : ℕ) → ℕ
column_place w a j = cell w a (j - 1)

-- the place of a column that was gathered
abbrev pub IsGathered : (place : ℕ) → Type 0
IsGathered x = upper_weight ≤ x

-- a place with a size, unless it has one
abbrev pub with_size : (place size : ℕ) → ℕ
with_size x n = pick (ltb x upper_weight) (x + upper_weight * (1 + n)) x

-- ---- what gathering asks and leaves

-- the size of column j as it is stored
abbrev pub stored_size : (heads next : List ℕ) → (j : ℕ) → ℕ
stored_size hs ns j = length (chain ns (at hs j))

-- a chain that can be counted
pub record CanCount (next : List ℕ) (head : ℕ) : Type 0 where
  pub linked : Linked next head (chain next head)
  pub short : length (chain next head) ≤ 4096

-- chains that can be counted, a plan in the work table, and behind the places that plans use a place for each column
pub record CanGatherColumns (heads next : List ℕ) (L L' : List FactorColumn) (label : ℕ → ℕ) (columns work : List ℕ) (a first used : ℕ) : Type 0 where
  pub m-bound : length heads ≤ 4096
  pub counts : (j : ℕ) → 1 ≤ j → j ≤ length heads → CanCount next (at heads j)
  pub rising : rises 1 (length heads) columns ≡ true
  pub first-is : first ≡ first_of columns
  pub plans : PlansFrom (length heads) L L' label work columns 0 used
  pub apart : spare (length heads) (length next) ≤ a
  pub long : a + length heads ≤ length work

-- what a caller shows: that there is such a plan, from some factor to some other
pub record SomeGatherColumns (heads next work : List ℕ) (a first : ℕ) : Type 0 where
  pub L : List FactorColumn
  pub L' : List FactorColumn
  pub label : ℕ → ℕ
  pub columns : List ℕ
  pub used : ℕ
  pub can : CanGatherColumns heads next L L' label columns work a first used

-- the planned columns that were not gathered have their size; every other place is as it was
pub record ColumnsGathered (heads next : List ℕ) (columns : List ℕ) (a : ℕ) (work work' : List ℕ) : Type 0 where
  pub only : OnlyIn a (length heads) work work'
  pub fresh : (j : ℕ) → 1 ≤ times j columns → column_place work a j < upper_weight →
      column_place work' a j ≡ column_place work a j + upper_weight * (1 + stored_size heads next j)
  pub kept : (j : ℕ) → 1 ≤ times j columns → IsGathered (column_place work a j) → column_place work' a j ≡ column_place work a j
  pub others : (j : ℕ) → 1 ≤ j → j ≤ length heads → times j columns ≡ 0 → column_place work' a j ≡ column_place work a j
