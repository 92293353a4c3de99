-- The stored columns of L: "Factor column j is a chain: a head .., then records of row .., multiplicity .. and next .. Rows rise strictly, so the first
-- record is the diagonal." When they are those of given columns of A, as a test, column by column; proofs/Stored.antt has the same as facts.
-- Assumes nothing: these are definitions.
use Rattle.std.specs.Prelude.{◌≡◌, Bool, true, ◌&&◌, List, ℕ, zero, suc, eqb, length}
use Rattle.lists.specs.Lists.{at, values_at, all_zero, same}
use Rattle.symbolic.specs.Columns.{Column}
use Rattle.symbolic.specs.Factor.{FactorColumn, factor_of, column_at, pattern_of, multiplicities_of}
use Rattle.pool.specs.Chains.{chain}
use Rattle.pool.specs.Whole.{is_whole}

-- the tables of L, cut to their sizes (m heads and parents, F rows, multiplicities and nexts), and the free head
pub record Stored : Type 0 where
  pub heads : List ℕ
  pub parents : List ℕ
  pub rows : List ℕ
  pub counts : List ℕ
  pub next : List ℕ
  pub free : ℕ

-- five tables and a free head as one
abbrev pub stored_of : (heads parents rows counts next : List ℕ) → (free : ℕ) → Stored
stored_of hs ps rs cs ns f = record { heads = hs; parents = ps; rows = rs; counts = cs; next = ns; free = f }

-- every column has a parent, every record a row and a multiplicity
pub record Sized (s : Stored) : Type 0 where
  pub parents-long : length s.parents ≡ length s.heads
  pub rows_long : length s.rows ≡ length s.next
  pub counts-long : length s.counts ≡ length s.next

-- the records of factor column j
abbrev pub records_of : Stored → (j : ℕ) → List ℕ
records_of s j = chain s.next (at s.heads j)

-- chain j holds the rows and multiplicities of a factor column, rising, and parent j is its parent
abbrev pub holds_column : Stored → (j : ℕ) → FactorColumn → Bool
holds_column s j f =
    same (values_at s.rows (records_of s j)) (pattern_of f) && same (values_at s.counts (records_of s j)) (multiplicities_of f) &&
    eqb (at s.parents j) f.parent

-- the same of so many columns from j on, against a factor
unfoldable pub holds_from : Stored → List FactorColumn → (j : ℕ) → ℕ → Bool
holds_from s fs j zero = true
holds_from s fs j (suc n) = holds_column s j (column_at fs j) && holds_from s fs (suc j) n

-- "Unused records .. hold row and multiplicity 0"
abbrev pub free_zero : Stored → Bool
free_zero s = all_zero (values_at s.rows (chain s.next s.free)) && all_zero (values_at s.counts (chain s.next s.free))

-- the stored columns are sound for columns of A: the pool is whole, free records are zero, "the factor equals the definition above"
abbrev pub is_sound_for : List Column → Stored → Bool
is_sound_for cs s =
    is_whole s.next s.heads s.free && free_zero s && holds_from s (factor_of (length s.heads) cs) 1 (length s.heads)
