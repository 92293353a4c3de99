-- Committing a plan to one stored column: entries that stay keep their record, new ones take free records, gone ones are zeroed and given back; every
-- other column stays. First of one chain beside the free chain, as the code sees it (it has neither heads nor parents), then of the stored columns;
-- proofs/Commits.antt leads from the one to the other.
-- Assumes nothing: these are definitions.
use Rattle.std.specs.Prelude.{◌≡◌, ◌≢◌, true, List, ℕ, ◌+◌, ◌≤◌, ◌<◌, length}
use Rattle.lists.specs.Lists.{Mem, at, values_at, times}
use Rattle.symbolic.specs.Factor.{pattern_from, non_zero}
use Rattle.workspace.specs.Planned.{new_kind, gone_kind}
use Rattle.pool.specs.Chains.{chain}
use Rattle.pool.specs.Whole.{Pool}
use Rattle.pool.specs.Changes.{Beside, Changed}
use Rattle.tables.specs.Stored.{Stored, Sized, records_of, free_zero}
use Rattle.tables.specs.Stays.{EntriesKeep}
use Rattle.columns.specs.Plan.{planned, Suits, of_kind}

-- ---- one chain, beside the free chain

-- records hold the multiplicities ns of rows a on, rising
pub record HoldsFrom (xs cs : List ℕ) (a : ℕ) (ns records : List ℕ) : Type 0 where
  pub rows : values_at xs records ≡ pattern_from a ns
  pub counts : values_at cs records ≡ non_zero ns

-- records hold row and multiplicity 0
abbrev pub ZeroAt : (rows counts records : List ℕ) → Type 0
ZeroAt xs cs rs = (x : ℕ) → 1 ≤ times x rs → (at xs x ≡ 0) × (at cs x ≡ 0)

-- a chain that holds the multiplicities ns, a plan that suits them, and zero free records, enough for the new rows
pub record CanCommitChain (rows counts next : List ℕ) (head free : ℕ) (ns plan : List ℕ) : Type 0 where
  pub rows_long : length rows ≡ length next
  pub counts-long : length counts ≡ length next
  pub beside : Beside next head free (chain next head) (chain next free)
  pub zero : ZeroAt rows counts (chain next free)
  pub holds : HoldsFrom rows counts 1 ns (chain next head)
  -- there is a first row, no planned row is below it, and it stays
  pub some : 1 ≤ head
  pub suits : Suits ns (at rows head) plan
  pub stays : 0 < at (planned ns plan) (at rows head)
  pub room : of_kind new_kind plan ≤ length (chain next free)

-- what a caller shows: that the chain holds some multiplicities, which the plan suits
pub record CommitReady (rows counts next : List ℕ) (head free : ℕ) (plan : List ℕ) : Type 0 where
  pub multiplicities : List ℕ
  pub can : CanCommitChain rows counts next head free multiplicities plan

-- from the tables with index 0 one chain and the free chain changed: free records are zero, what is in neither stays, an entry that stays keeps its record
pub record Rewritten (rows₀ counts₀ next₀ : List ℕ) (head free₀ : ℕ) (rows counts next : List ℕ) (free : ℕ) (records rest : List ℕ) : Type 0 where
  pub changed : Changed next₀ next head free₀ head free records rest
  pub rows_long : length rows ≡ length rows₀
  pub counts-long : length counts ≡ length counts₀
  pub zero : ZeroAt rows counts rest
  pub frame : (x : ℕ) → 1 ≤ x → times x (chain next₀ head) + times x (chain next₀ free₀) ≡ 0 → (at rows x ≡ at rows₀ x) × (at counts x ≡ at counts₀ x)
  pub keep : (x y : ℕ) → 1 ≤ times x (chain next₀ head) → 1 ≤ times y records → at rows₀ x ≡ at rows y → x ≡ y

-- the chain holds the multiplicities as planned; new rows took free records, gone rows gave theirs back
pub record CommittedChain (rows₀ counts₀ next₀ : List ℕ) (head free₀ : ℕ) (ns plan rows counts next : List ℕ) (free : ℕ) : Type 0 where
  pub records : List ℕ
  pub rest : List ℕ
  pub rewritten : Rewritten rows₀ counts₀ next₀ head free₀ rows counts next free records rest
  pub holds : HoldsFrom rows counts 1 (planned ns plan) records
  pub free-left : length rest + of_kind new_kind plan ≡ length (chain next₀ free₀) + of_kind gone_kind plan

-- ---- the stored columns

-- chain j holds the multiplicities ns of rows 1 to m, rising
abbrev pub Holds : (s : Stored) (j : ℕ) (ns : List ℕ) → Type 0
Holds s j ns = HoldsFrom s.rows s.counts 1 ns (records_of s j)

-- a whole pool with zero free records
pub record Ready (s : Stored) : Type 0 where
  pub sized : Sized s
  pub pool : Pool s.next s.heads s.free
  pub zero : free_zero s ≡ true

-- stored column j holds the multiplicities ns, the plan suits them, and the free records are enough for the new rows
pub record CanCommit (s : Stored) (j : ℕ) (ns plan : List ℕ) : Type 0 where
  pub ready : Ready s
  pub low : 1 ≤ j
  pub high : j ≤ length s.heads
  pub holds : Holds s j ns
  -- the diagonal is the first row, and stays
  pub below : (i : ℕ) → 1 ≤ i → i < j → at ns i ≡ 0
  pub diagonal : (0 < at ns j) × (0 < at (planned ns plan) j)
  pub suits : Suits ns j plan
  pub room : of_kind new_kind plan ≤ length (chain s.next s.free)

-- the records of column l, with row, multiplicity and next, stay
pub record ChainStays (before after : Stored) (l : ℕ) : Type 0 where
  pub records : records_of after l ≡ records_of before l
  pub row : (x : ℕ) → Mem x (records_of before l) → at after.rows x ≡ at before.rows x
  pub count : (x : ℕ) → Mem x (records_of before l) → at after.counts x ≡ at before.counts x
  pub next : (x : ℕ) → Mem x (records_of before l) → at after.next x ≡ at before.next x

-- stored column j holds the multiplicities as planned; heads, parents and the chains of all other columns stay
pub record Committed (s : Stored) (j : ℕ) (ns plan : List ℕ) (after : Stored) : Type 0 where
  pub heads : after.heads ≡ s.heads
  pub parents : after.parents ≡ s.parents
  pub ready : Ready after
  pub holds : Holds after j (planned ns plan)
  pub others : (l : ℕ) → 1 ≤ l → l ≤ length s.heads → l ≢ j → ChainStays s after l
  pub keep : EntriesKeep s after j
  pub free-left : length (chain after.next after.free) + of_kind new_kind plan ≡ length (chain s.next s.free) + of_kind gone_kind plan
