-- Chains of rows: document 01's "What demand 3 is about". Assumes nothing: these are definitions.
use Rattle.std.specs.Prelude.{◌≡◌, Bool, true, ◌&&◌, List, [], ◌∷◌, ◌++◌, ℕ, ◌≤◌, ◌<◌, ltb}
use Rattle.lists.specs.Lists.{is_in, all, any}
use Rattle.symbolic.specs.Columns.{Column, holds}

-- "Two rows share a live column if it holds both"
abbrev pub share : List Column → (x y : ℕ) → Bool
share cs x y = any (λ (c : Column). holds c x && holds c y) cs

-- of some rows, each two neighbours share a live column
unfoldable pub is_chain : List Column → (rows : List ℕ) → Bool
is_chain cs [] = true
is_chain cs (x ∷ []) = true
is_chain cs (x ∷ y ∷ rest) = share cs x y && is_chain cs (y ∷ rest)

-- a chain of rows leads from j to i: neighbours share a live column, and all rows between are smaller than j; "j and i alone can be a chain"
abbrev pub ChainTo : (m : ℕ) → List Column → (i j : ℕ) → Type 0
ChainTo m cs i j =
    (xs : List ℕ) × ((all (λ (x : ℕ). is_in 1 m x && ltb x j) xs ≡ true) × (is_chain cs ((j ∷ xs) ++ (i ∷ [])) ≡ true))

-- a pattern C (C i j: row i in column j) is closed: the diagonal, rows that share a live column, and row i in column k if a column below has both
pub record Closed (m : ℕ) (cs : List Column) (C : ℕ → ℕ → Type 0) : Type 0 where
  pub diagonal : (j : ℕ) → 1 ≤ j → j ≤ m → C j j
  pub shared : (i j : ℕ) → 1 ≤ j → j < i → i ≤ m → share cs j i ≡ true → C i j
  pub fill : (i k j : ℕ) → 1 ≤ j → j < k → k < i → i ≤ m → C i j → C k j → C i k
