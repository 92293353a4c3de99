-- Reading one stored column: the first record at or above a row, the last below one, a row's multiplicity, the entries as pairs; and what a chain must
-- have to be read. Laws: proofs/Search.antt, proofs/Copying.antt, and for the multiplicities that a column holds proofs/Holding.antt.
-- Assumes nothing: these are definitions.
use Rattle.std.specs.Prelude.{◌≡◌, true, List, [], ◌∷◌, ℕ, ◌*◌, ◌≤◌, ◌<◌, leb, eqb, length}
use Rattle.lists.specs.Lists.{pick, at, values_at, rises}
use Rattle.pool.specs.Chains.{chain, Linked}

-- ---- what is read

-- the first record whose row is at or above i, or 0
unfoldable pub first_at : (rows records : List ℕ) → (i : ℕ) → ℕ
first_at xs [] i = 0
first_at xs (r ∷ rs) i = pick (leb i (at xs r)) r (first_at xs rs i)

-- the last record before that one, in a chain from p on that goes on with the records given
unfoldable pub last_below : (rows : List ℕ) → (p : ℕ) → (records : List ℕ) → (i : ℕ) → ℕ
last_below xs p [] i = p
last_below xs p (r ∷ rs) i = pick (leb i (at xs r)) p (last_below xs r rs i)

-- the multiplicity of row i among records, 0 when absent
unfoldable pub count_of : (rows counts records : List ℕ) → (i : ℕ) → ℕ
count_of xs ns [] i = 0
count_of xs ns (r ∷ rs) i = pick (eqb (at xs r) i) (at ns r) (count_of xs ns rs i)

-- row then multiplicity of each record
unfoldable pub entries_at : (rows counts records : List ℕ) → List ℕ
entries_at xs ns [] = []
entries_at xs ns (r ∷ rs) = at xs r ∷ at ns r ∷ entries_at xs ns rs

-- ---- what can be read

-- a chain that ends, with a row for each of its records
pub record CanSearch (rows next : List ℕ) (head : ℕ) : Type 0 where
  pub linked : Linked next head (chain next head)
  pub rows_long : length rows ≡ length next

-- the same with a multiplicity for each of its records
pub record CanRead (rows counts next : List ℕ) (head : ℕ) : Type 0 where
  pub linked : Linked next head (chain next head)
  pub rows_long : length rows ≡ length next
  pub counts-long : length counts ≡ length next

-- the same with rows that rise, so that the first record at or above a row decides
pub record CanCount (rows counts next : List ℕ) (head : ℕ) : Type 0 where
  pub read : CanRead rows counts next head
  pub rising : rises 1 65535 (values_at rows (chain next head)) ≡ true

-- a list with two places for each record, of which there are few enough to count in 32 bits
pub record CanCopy (rows counts next list : List ℕ) (head : ℕ) : Type 0 where
  pub read : CanRead rows counts next head
  pub fits : 2 * length (chain next head) ≤ length list
  pub narrow : length (chain next head) < 4294967296
