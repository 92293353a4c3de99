-- One planned entry applied to a chain, from record p on: from the last record below the entry's row, the record after it gets the new multiplicity,
-- or a free record is taken in, or the record after it is zeroed and given back. Then the plan's first entry, which may be for the head's row.
-- These are raw tables, as the code writes them; proofs/Committing.antt and proofs/Turns.antt say what they mean.
-- Assumes nothing: these are definitions.
use Rattle.std.specs.Prelude.{◌≡◌, ◌≢◌, List, ℕ, ◌≤◌, ◌<◌, length, get_or}
use Rattle.lists.specs.Lists.{at, put}
use Rattle.workspace.specs.Planned.{row_of, multiplicity_of, kind_of}
use Rattle.pool.specs.Chains.{chain, Linked}
use Rattle.pool.specs.Changes.{Has, insert_after, unlink_after}
use Rattle.columns.specs.Search.{last_below}

-- the last record below an entry's row, from p on
abbrev pub record_before : (rows next : List ℕ) → (p entry : ℕ) → ℕ
record_before xs ns p e = last_below xs p (chain ns (at ns p)) (row_of e)

-- the record after it: that of the entry's row, where the chain has one
abbrev pub record_after : (rows next : List ℕ) → (p entry : ℕ) → ℕ
record_after xs ns p e = at ns (record_before xs ns p e)

-- a chain from p on that ends; a new entry has a free record to take, a changed or gone one its record in the chain
pub record CanApply (rows counts next : List ℕ) (p free entry : ℕ) : Type 0 where
  pub rows_long : length rows ≡ length next
  pub counts-long : length counts ≡ length next
  pub some : 1 ≤ p
  pub linked : Linked next p (chain next p)
  pub fits : multiplicity_of entry < 65536
  pub takes : kind_of entry ≡ 1 → Has next free
  pub finds : kind_of entry ≢ 1 → Has next (record_after rows next p entry)

-- the tables, the record that is done last, and the free head, after an entry of each kind
pub data Applied (rows₀ counts₀ next₀ : List ℕ) (p free₀ entry : ℕ) (rows counts next : List ℕ) (done free : ℕ) : Type 0 where
  recounted : kind_of entry ≡ 0 →
      rows ≡ rows₀ → counts ≡ put counts₀ (record_after rows₀ next₀ p entry) (multiplicity_of entry) → next ≡ next₀ →
      done ≡ record_after rows₀ next₀ p entry → free ≡ free₀ → Applied rows₀ counts₀ next₀ p free₀ entry rows counts next done free
  inserted : kind_of entry ≡ 1 →
      rows ≡ put rows₀ free₀ (row_of entry) → counts ≡ put counts₀ free₀ (multiplicity_of entry) →
      next ≡ insert_after next₀ (record_before rows₀ next₀ p entry) free₀ →
      done ≡ free₀ → free ≡ at next₀ free₀ → Applied rows₀ counts₀ next₀ p free₀ entry rows counts next done free
  unlinked : kind_of entry ≢ 0 → kind_of entry ≢ 1 →
      rows ≡ put rows₀ (record_after rows₀ next₀ p entry) 0 → counts ≡ put counts₀ (record_after rows₀ next₀ p entry) 0 →
      next ≡ unlink_after next₀ (record_before rows₀ next₀ p entry) (record_after rows₀ next₀ p entry) free₀ →
      done ≡ record_before rows₀ next₀ p entry → free ≡ record_after rows₀ next₀ p entry →
      Applied rows₀ counts₀ next₀ p free₀ entry rows counts next done free

-- the plan's first entry, where it is for the head's row: its multiplicity is written, and k of the plan's entries are done
pub data Begun (rows counts₀ plan : List ℕ) (head : ℕ) (counts : List ℕ) (k : ℕ) : Type 0 where
  first-planned : 1 ≤ length plan → row_of (get_or plan 0 0) ≡ at rows head → counts ≡ put counts₀ head (multiplicity_of (get_or plan 0 0)) → k ≡ 1 →
      Begun rows counts₀ plan head counts k
  first-stays : (1 ≤ length plan → row_of (get_or plan 0 0) ≢ at rows head) → counts ≡ counts₀ → k ≡ 0 → Begun rows counts₀ plan head counts k

-- the head is a record of both tables, and 16 bits hold the multiplicity of the plan's first entry
pub record CanBegin (rows counts plan : List ℕ) (head : ℕ) : Type 0 where
  pub some : 1 ≤ head
  pub in_rows : head ≤ length rows
  pub in-counts : head ≤ length counts
  pub fits : 1 ≤ length plan → multiplicity_of (get_or plan 0 0) < 65536
