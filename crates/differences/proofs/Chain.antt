-- One step along a chain that ends: the record at hand is of the pool, and what follows is the chain from its next one on (`chain-onward`), which is
-- shorter; at 0 the chain is over. A loop along a chain keeps `Linked next q (chain next q)` and has the chain's length as its measure.
-- Assumes nothing.
use mathlib.Core.Path.{◌≡◌, sym, ap, ◌∙◌}
use mathlib.Core.Logic.{◌≢◌}
use mathlib.Core.List.{List, [], ◌∷◌}
use Prim.Native.Nat.{ℕ, ◌≤◌, ◌<◌}
use native.Mathlib.Omega.{arith}
use lib.ListN.{length}
use Rattle.lists.specs.Lists.{at}
use Rattle.pool.specs.Chains.{chain, Linked}
use Rattle.pool.proofs.Chains.{Step, linked-step, linked-chain, linked-self, linked-end}

pub record Onward (next : List ℕ) (q : ℕ) : Type 0 where
  pub low : 1 ≤ q
  pub high : q ≤ length next
  pub parts : chain next q ≡ q ∷ chain next (at next q)
  pub linked : Linked next (at next q) (chain next (at next q))

pub chain-onward : (next : List ℕ) (q : ℕ) → q ≢ 0 → Linked next q (chain next q) → Onward next q
chain-onward next q z l =
    let s : Step next q (chain next q) = linked-step next q (chain next q) z l in
    let e : chain next (at next q) ≡ s.rest = linked-chain next (at next q) s.rest s.next in
    record {
      low = s.low;
      high = s.high;
      parts = s.parts ∙ ap (λ (xs : List ℕ). q ∷ xs) (sym e);
      linked = linked-self next (at next q) s.rest s.next;
    }

pub onward-less : {next : List ℕ} {q : ℕ} → Onward next q → length (chain next (at next q)) < length (chain next q)
onward-less o = omega (arith, ap length o.parts)

pub chain-over : (next : List ℕ) (q : ℕ) → q ≡ 0 → Linked next q (chain next q) → chain next q ≡ []
chain-over next q z l = linked-end next q (chain next q) z l
