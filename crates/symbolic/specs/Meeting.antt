-- Which columns meet a row, and where the paths of some rows join: document 02's questions of a delivery run. The common row is also said without computing.
-- Assumes nothing: these are definitions.
use Rattle.std.specs.Prelude.{◌≡◌, ◌↔◌, Bool, List, ℕ, ◌≤◌, ◌<◌, length, get_or}
use Rattle.lists.specs.Lists.{Mem, all, among}
use Rattle.symbolic.specs.Factor.{FactorColumn, in_pattern, path_of}
use Rattle.symbolic.specs.Definition.{OnPath}
use Rattle.symbolic.specs.Batch.{passing}

-- "all factor columns whose pattern holds it, ascending": of a row of 1 to m
abbrev pub meeting : List FactorColumn → (row : ℕ) → List ℕ
meeting fs i = passing (λ (j : ℕ). in_pattern fs i j) 1 (length fs)

-- row k "lies on all their paths"
abbrev pub on_paths : List FactorColumn → (rows : List ℕ) → (k : ℕ) → Bool
on_paths fs is k = all (λ (i : ℕ). among k (path_of fs i)) is

-- "the smallest row that lies on all their paths, or 0 where there is none": of at least one row, each of 1 to m
abbrev pub common_of : List FactorColumn → (rows : List ℕ) → ℕ
common_of fs is = get_or (passing (on_paths fs is) 1 (length fs)) 0 0

-- k lies on the path of each of some rows, as parents P lead
abbrev pub OnPaths : (P : ℕ → ℕ) → (rows : List ℕ) → (k : ℕ) → Type 0
OnPaths P is k = (i : ℕ) → Mem i is → OnPath P i k

-- x is the smallest row on the paths of all of some rows, or 0 and there is none
pub record IsCommon (P : ℕ → ℕ) (rows : List ℕ) (x : ℕ) : Type 0 where
  pub lies : 0 < x → OnPaths P rows x
  pub least : (k : ℕ) → OnPaths P rows k → x ≤ k
  pub none : (x ≡ 0) ↔ ((k : ℕ) → OnPaths P rows k → ⊥)
