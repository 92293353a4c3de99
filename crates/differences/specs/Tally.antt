-- The differences of one column: a place for each row, 0 for a row that is not touched and otherwise 2^30 + (new − old), and the touched rows in a rising
-- list. Regions of the work table: differences at 0, list at m, buffer at 2 m, m places each; row i has place i − 1 of the differences, so it is read by
-- `at`. Assumes nothing: these are definitions.
use Rattle.std.specs.Prelude.{◌≡◌, ◌≢◌, ◌↔◌, Bool, true, false, List, ℕ, ◌+◌, ◌-◌, ◌≤◌, eqb, length}
use Rattle.lists.specs.Lists.{pick, one, among, at, rises}
use Rattle.workspace.specs.Layout.{buffer_at, marks_at}
use Rattle.workspace.specs.Regions.{region, IsZero}

-- 2^30, which stands for a difference of 0
abbrev pub base : ℕ
base = 1073741824

-- the shifted difference that a place means
abbrev pub shifted : ℕ → ℕ
shifted x = pick (eqb x 0) base x

-- the shifted difference of row i
abbrev pub difference_at : (work : List ℕ) → (row : ℕ) → ℕ
difference_at w i = shifted (at w i)

-- the n touched rows, those whose place is not 0, stand in the list, rising
pub record Touched (m : ℕ) (work : List ℕ) (n : ℕ) : Type 0 where
  pub long : marks_at m ≤ length work
  pub within : n ≤ m
  pub rising : rises 1 m (region work m n) ≡ true
  pub listed : (i : ℕ) → 1 ≤ i → i ≤ m → (among i (region work m n) ≡ true) ↔ (at work i ≢ 0)
  pub rest : IsZero work (m + n) (m - n)

-- the work table holds the shifted differences δ of rows 1 to m, with n touched rows in the list and nothing in the buffer
pub record Tally (m : ℕ) (work : List ℕ) (n : ℕ) (δ : ℕ → ℕ) : Type 0 where
  pub touched : Touched m work n
  pub values : (i : ℕ) → 1 ≤ i → i ≤ m → difference_at work i ≡ δ i
  pub buffer : IsZero work (buffer_at m) m

-- differences counted up, or down, at the rows that pass a test
abbrev pub counted : (up : Bool) → (before after : ℕ → ℕ) → (m : ℕ) → (rows : ℕ → Bool) → Type 0
counted true d e m p = (i : ℕ) → 1 ≤ i → i ≤ m → e i ≡ d i + one (p i)
counted false d e m p = (i : ℕ) → 1 ≤ i → i ≤ m → e i + one (p i) ≡ d i
