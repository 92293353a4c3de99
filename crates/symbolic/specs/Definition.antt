-- The factor without computing it: document 01's sentences, for all rows i and columns j of 1 to m, of any multiplicities M and parents P.
-- Assumes nothing: these are definitions.
use Rattle.std.specs.Prelude.{◌≡◌, Bool, ◌&&◌, not, ℕ, ◌+◌, ◌≤◌, ◌<◌, eqb}
use Rattle.lists.specs.Lists.{one, count}

-- c is a child of j with i in L_c
abbrev pub child_with : (M : ℕ → ℕ → ℕ) (P : ℕ → ℕ) (j i c : ℕ) → Bool
child_with M P j i c = eqb (P c) j && not (eqb (M i c) 0)

-- M i j is the multiplicity of i in L_j and P j the parent of j; S j i is the number of columns with smallest row j that hold i
pub record IsFactor (m : ℕ) (S M : ℕ → ℕ → ℕ) (P : ℕ → ℕ) : Type 0 where
  -- "The multiplicity of i in L_j is 0 for i smaller than j"
  pub below : (i j : ℕ) → 1 ≤ i → i < j → j ≤ m → M i j ≡ 0
  -- "otherwise it is the number of children c of j with i in L_c, plus the number of live columns with smallest row j that hold i, plus 1 if i = j"
  pub counted : (i j : ℕ) → 1 ≤ j → j ≤ i → i ≤ m → M i j ≡ count (child_with M P j i) m + S j i + one (eqb i j)
  -- "The parent of j is the smallest row in L_j above j": it is in L_j, above j, within m, and no row between is in L_j
  pub parent_in : (j : ℕ) → 1 ≤ j → j ≤ m → 0 < P j → (j < P j) × (P j ≤ m) × (0 < M (P j) j)
  pub parent-least : (i j : ℕ) → 1 ≤ j → j < i → i ≤ m → i < P j → M i j ≡ 0
  -- "or 0 if there is none"
  pub root : (i j : ℕ) → 1 ≤ j → j < i → i ≤ m → P j ≡ 0 → M i j ≡ 0

-- k is on the path of j
pub data OnPath (P : ℕ → ℕ) : ℕ → ℕ → Type 0 where
  here : {j : ℕ} → OnPath P j j
  up : {j k : ℕ} → 0 < P j → OnPath P (P j) k → OnPath P j k
