-- One chain and the free chain changed: a record cut off or joined on, inserted or unlinked; what of the pool stays. Assumes nothing.
use Rattle.std.specs.Prelude.{◌≡◌, List, ℕ, ◌+◌, ◌≤◌, length}
use Rattle.lists.specs.Lists.{at, put, times}
use Rattle.pool.specs.Chains.{chain, Linked}

-- number k is a record of the pool
pub record Has (next : List ℕ) (k : ℕ) : Type 0 where
  pub low : 1 ≤ k
  pub high : k ≤ length next

-- the free record q taken in after p
abbrev pub insert_after : (next : List ℕ) → (p q : ℕ) → List ℕ
insert_after ns p q = put (put ns q (at ns p)) p q

-- the record q after p given back to the free chain
abbrev pub unlink_after : (next : List ℕ) → (p q free : ℕ) → List ℕ
unlink_after ns p q z = put (put ns p (at ns q)) q z

-- a chain and the free chain, which share no record
pub record Beside (next : List ℕ) (head free : ℕ) (records rest : List ℕ) : Type 0 where
  pub linked : Linked next head records
  pub unused : Linked next free rest
  pub once : (x : ℕ) → times x records + times x rest ≤ 1

-- from next₀ to next one chain and the free chain changed, and share out the same records; every other record keeps its next
pub record Changed (next₀ next : List ℕ) (head₀ free₀ head free : ℕ) (records rest : List ℕ) : Type 0 where
  pub same_length : length next ≡ length next₀
  pub linked : Linked next head records
  pub unused : Linked next free rest
  pub once : (x : ℕ) → times x records + times x rest ≡ times x (chain next₀ head₀) + times x (chain next₀ free₀)
  pub size : length records + length rest ≡ length (chain next₀ head₀) + length (chain next₀ free₀)
  pub frame : (x : ℕ) → 1 ≤ x → times x (chain next₀ head₀) + times x (chain next₀ free₀) ≡ 0 → at next x ≡ at next₀ x
