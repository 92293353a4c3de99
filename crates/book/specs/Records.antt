-- Rows written along a chain: what the inner functions of an addition and a removal ask and promise.
-- Their promises are the tables exactly; what that means for the columns is in proofs/Adding.antt and proofs/Removing.antt.
-- Assumes nothing: these are definitions.
use Rattle.std.specs.Prelude.{◌≡◌, List, [], ◌∷◌, ℕ, ◌≤◌, ◌<◌, length, get_or, replicate}
use Rattle.lists.specs.Lists.{at, put}
use Rattle.pool.specs.Chains.{chain, Linked}

-- a value put at each record, as far as there are both
unfoldable pub put_all : (table records values : List ℕ) → List ℕ
put_all xs [] vs = xs
put_all xs (r ∷ rs) [] = xs
put_all xs (r ∷ rs) (v ∷ vs) = put_all (put xs r v) rs vs

-- 0 put at each record
abbrev pub clear_all : (table records : List ℕ) → List ℕ
clear_all xs rs = put_all xs rs (replicate (length rs) 0)

-- a chain that ends, in a pool whose records have rows
pub record HasChain (rows next : List ℕ) (head : ℕ) : Type 0 where
  pub sized : length rows ≡ length next
  pub linked : Linked next head (chain next head)

-- rows to be written along a chain that has enough records
pub record CanWrite (rows next list : List ℕ) (head : ℕ) : Type 0 where
  pub has : HasChain rows next head
  pub some : 1 ≤ length list
  pub room : length list ≤ length (chain next head)
  pub narrow : (i : ℕ) → get_or list i 0 < 65536

-- the rows stand at the chain's first records, and last is the record of the last of them
pub record RowsWritten (rows₀ rows next list : List ℕ) (head last : ℕ) : Type 0 where
  pub last-is : last ≡ at (chain next head) (length list)
  pub rows_are : rows ≡ put_all rows₀ (chain next head) list

-- every record of the chain has row 0, and last is the chain's last record
pub record Cleared (rows₀ rows next : List ℕ) (head last : ℕ) : Type 0 where
  pub last-is : last ≡ at (chain next head) (length (chain next head))
  pub rows_are : rows ≡ clear_all rows₀ (chain next head)
