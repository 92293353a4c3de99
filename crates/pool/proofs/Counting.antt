-- The loop that counts a chain's records up to a bound: its invariant (so many records were counted, and the rest is linked from the next one on),
-- one more record, and its end where the chain ends before the bound. A loop that reads a chain known to be linked goes the same way.
-- Assumes nothing.
use mathlib.Core.Path.{◌≡◌, ap}
use mathlib.Core.Logic.{◌≢◌}
use mathlib.Core.List.{List}
use Prim.Native.Nat.{ℕ, ◌+◌, ◌≤◌, ◌<◌, min}
use native.Mathlib.Omega.{arith}
use lib.ListN.{length}
use Rattle.lists.specs.Lists.{at}
use Rattle.pool.specs.Chains.{chain, Linked}
use Rattle.pool.proofs.Chains.{Step, linked-step, linked-end}

-- n records were counted, and `rest` are left from r on
pub record Counting (next : List ℕ) (head bound r n : ℕ) : Type 0 where
  pub rest : List ℕ
  pub linked : Linked next r rest
  pub size : n + length rest ≡ length (chain next head)
  pub within : n ≤ bound

module _ {ns : List ℕ} {h bound r n : ℕ} (i : Counting ns h bound r n) where
  pub counting-step : r ≢ 0 → Step ns r i.rest
  counting-step p = linked-step ns r i.rest p i.linked

  pub counting-next : r ≢ 0 → n < bound → Counting ns h bound (at ns r) (n + 1)
  counting-next p more =
      let s : Step ns r i.rest = counting-step p in
      record { rest = s.rest; linked = s.next; size = omega (arith, i.size, ap length s.parts); within = omega arith }

  pub counting-ended : r ≡ 0 → n ≡ min (length (chain ns h)) bound
  counting-ended e = omega (arith, i.size, i.within, ap length (linked-end ns r i.rest e i.linked))
