-- Multiplicities half way through a batch, as Algorithms 3 and 4 of document 000 have them at one column: the columns and children handled so far
-- are counted anew, the others as before. Assumes nothing: these are definitions.
use Rattle.std.specs.Prelude.{◌≡◌, ◌⊎◌, ◌≢◌, Bool, true, false, ℕ, ◌+◌, ◌≤◌, eqb}
use Rattle.lists.specs.Lists.{pick, one, count}
use Rattle.symbolic.specs.Definition.{child_with}

-- H: the handled children. M, P before the batch; M', P' after it
abbrev pub child_so_far : (H : ℕ → Bool) (M : ℕ → ℕ → ℕ) (P : ℕ → ℕ) (M' : ℕ → ℕ → ℕ) (P' : ℕ → ℕ) (j i c : ℕ) → Bool
child_so_far H M P M' P' j i c = pick (H c) (child_with M' P' j i c) (child_with M P j i c)

-- s: the columns with smallest row j that hold i, counted so far
abbrev pub count_so_far : (m : ℕ) (H : ℕ → Bool) (M : ℕ → ℕ → ℕ) (P : ℕ → ℕ) (M' : ℕ → ℕ → ℕ) (P' : ℕ → ℕ) (s i j : ℕ) → ℕ
count_so_far m H M P M' P' s i j = count (child_so_far H M P M' P' j i) m + s + one (eqb i j)

-- The steps at column j, T the touched columns, by document 000's cases. A: the batch columns that start at j, which move s. B: a child of j before and
-- after. C: a child in the tree with the batch alone, gained when adding, lost when removing. D: a child in the tree without it alone, lost when adding,
-- gained when removing. Each of B to D handles one child more. Nothing handled gives the multiplicities before, every touched child handled those after
pub record StepsAt (m : ℕ) (S M : ℕ → ℕ → ℕ) (P : ℕ → ℕ) (S' M' : ℕ → ℕ → ℕ) (P' : ℕ → ℕ) (T : ℕ → Bool) (i j : ℕ) : Type 0 where
  pub start : (H : ℕ → Bool) → ((c : ℕ) → 1 ≤ c → c ≤ m → H c ≡ false) → count_so_far m H M P M' P' (S j i) i j ≡ M i j
  pub child : (H K : ℕ → Bool) (c s : ℕ) → 1 ≤ c → c ≤ m → H c ≡ false → K c ≡ true → ((d : ℕ) → d ≢ c → H d ≡ K d) →
      count_so_far m K M P M' P' s i j + one (child_with M P j i c) ≡ count_so_far m H M P M' P' s i j + one (child_with M' P' j i c)
  pub end : (H : ℕ → Bool) → ((c : ℕ) → 1 ≤ c → c ≤ m → T c ≡ true → (P c ≡ j) ⊎ (P' c ≡ j) → H c ≡ true) →
      count_so_far m H M P M' P' (S' j i) i j ≡ M' i j
