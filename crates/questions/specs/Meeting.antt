-- What the columns that meet a row are found by: marks in the work table, a place for each column. And where two paths join.
-- Assumes nothing: these are definitions.
use Rattle.std.specs.Prelude.{◌≡◌, ◌&&◌, not, List, ℕ, ◌≤◌, ◌<◌, eqb, length}
use Rattle.lists.specs.Lists.{one, among, at}
use Rattle.symbolic.specs.Columns.{Register}
use Rattle.symbolic.specs.Factor.{factor_for, in_pattern}
use Rattle.symbolic.specs.Batch.{passing}
use Rattle.workspace.specs.Regions.{IsZero}
use Rattle.calls.specs.Questions.{path_list}
use Rattle.questions.specs.Asked.{ColumnsFor, ParentsFor, CanAsk}

-- ---- the tables are those of a register

-- columns and parents of the same register
pub record TreeFor (heads parents rows counts next : List ℕ) (r : Register) : Type 0 where
  pub columns-are : ColumnsFor heads rows counts next r
  pub parents-are : ParentsFor parents r

-- stored columns and parents that can be read
pub record CanClimb (heads parents rows counts next : List ℕ) : Type 0 where
  pub ask : CanAsk heads rows counts next
  pub parents-are : ParentsFor parents ask.register

-- the same with a work table that has a zero place for each column
pub record CanMeet (heads parents rows counts next work : List ℕ) : Type 0 where
  pub climb : CanClimb heads parents rows counts next
  pub room : length heads ≤ length work
  pub zero : IsZero work 0 (length heads)

-- ---- marks

-- columns above j, up to i, are marked: 1 for one that holds row i, 0 for another; those from j down are not yet
pub record MarkedAbove (r : Register) (work : List ℕ) (i j : ℕ) : Type 0 where
  pub done : (k : ℕ) → j < k → k ≤ i → at work k ≡ one (in_pattern (factor_for r) i k)
  pub left : (k : ℕ) → 1 ≤ k → k ≤ j → at work k ≡ 0

-- the columns of 1 to n whose place is not 0, ascending
abbrev pub marked_to : (work : List ℕ) → (n : ℕ) → List ℕ
marked_to w n = passing (λ (k : ℕ). not (eqb (at w k) 0)) 1 n

-- ---- two paths

-- what lies on the paths of a and b is the path of x, a row of 1 to m, or 0 where they do not join
pub record PathsJoin (r : Register) (a b x : ℕ) : Type 0 where
  pub shared : (k : ℕ) → (among k (path_list r a) && among k (path_list r b)) ≡ among k (path_list r x)
  pub high : x ≤ r.m
