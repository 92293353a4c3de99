-- The loop over groups of rows: they lie in the list, and the sum of the values has room. Assumes nothing.
use Prim.Native.Nat.{ℕ, ◌+◌, ◌*◌, ◌≤◌}
use native.Mathlib.Omega.{arith}

-- ---- a question for each group of rows, or pair of row and column

-- the groups asked about lie before a place of the list, each with a number at least; a question adds at most 32 bits for each number of its group
pub record Grouping (named first done sum : ℕ) : Type 0 where
  pub within : first ≤ named
  pub some : done ≤ first
  pub room : sum ≤ first * 4294967295

pub grouped : {named first done sum v r : ℕ} → Grouping named first done sum → 1 ≤ r → first + r ≤ named → v ≤ r * 4294967295 →
    Grouping named (first + r) (done + 1) (sum + v)
grouped g o h b = record { within = h; some = omega (arith, g.some); room = omega (arith, g.room, b) }
