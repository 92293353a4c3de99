-- Laws of a planned entry in one place: what was packed is read back, what is read of any place is within its bounds. The parts are digits
-- (row − 1 below 4,096, multiplicity below 262,144, kind below 4), so all is linear arithmetic with division by numerals. Assumes nothing.
use mathlib.Core.Path.{◌≡◌}
use Prim.Native.Nat.{ℕ, ◌≤◌}
use native.Mathlib.Omega.{arith}
use Rattle.workspace.specs.Planned.{packed, row_of, multiplicity_of, kind_of, FitsEntry}

-- ---- packed, then read

module _ {row multiplicity kind : ℕ} (e : FitsEntry row multiplicity kind) where
  pub packed-row : row_of (packed row multiplicity kind) ≡ row
  packed-row = omega arith

  pub packed-multiplicity : multiplicity_of (packed row multiplicity kind) ≡ multiplicity
  packed-multiplicity = omega arith

  pub packed-kind : kind_of (packed row multiplicity kind) ≡ kind
  packed-kind = omega arith

-- ---- read of any place

pub row-bounds : (x : ℕ) → (1 ≤ row_of x) × (row_of x ≤ 4096)
row-bounds x = omega arith
