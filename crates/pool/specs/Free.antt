-- What is left to show of a pool when its columns' chains were walked: they end, and their records have rows from 1 on. Then the pool is whole and its free
-- records have row 0 exactly if it is closed (proofs/Closed.antt). Assumes nothing: these are definitions.
use Rattle.std.specs.Prelude.{◌≡◌, ◌&&◌, List, [], ◌∷◌, ℕ, ◌+◌, ◌≤◌, eqb, length}
use Rattle.lists.specs.Lists.{one, at, times}
use Rattle.pool.specs.Chains.{chain, Linked}
use Rattle.pool.specs.Whole.{chains}
use Rattle.pool.specs.Ends.{last_from, lasts, NoneTwice}

-- the free chain ends after k records, and the last of them has row 0
pub record FreeHas (rows next : List ℕ) (free k : ℕ) : Type 0 where
  pub linked : Linked next free (chain next free)
  pub size : length (chain next free) ≡ k
  pub zero : 1 ≤ k → at rows (last_from next free) ≡ 0

-- the columns' last records are apart, as many records have row 0 as the columns do not have, and the free chain has so many
pub record Closed (rows next heads : List ℕ) (free : ℕ) : Type 0 where
  pub apart : NoneTwice (lasts next heads)
  pub size : times 0 rows + length (chains next heads) ≡ length next
  pub free-has : FreeHas rows next free (times 0 rows)

-- how many places have 0 in both of two lists
unfoldable pub zero_pairs : List ℕ → List ℕ → ℕ
zero_pairs [] vs = 0
zero_pairs (r ∷ rs) [] = 0
zero_pairs (r ∷ rs) (v ∷ vs) = one (eqb r 0 && eqb v 0) + zero_pairs rs vs
