-- A whole pool: chains from heads and one free chain that "lie in range, end, share no record and together .. hold each record once".
-- As a test, for any contents, and as a record of facts; proofs/Whole.antt shows that they say the same. Assumes nothing: these are definitions.
use Rattle.std.specs.Prelude.{◌≡◌, Bool, ◌&&◌, List, [], ◌∷◌, ◌++◌, ℕ, ◌+◌, ◌≤◌, eqb, length}
use Rattle.lists.specs.Lists.{all, no_repeats, times}
use Rattle.pool.specs.Chains.{chain, ends, Linked}

-- the records of all chains, in the order of the heads
unfoldable pub chains : (next heads : List ℕ) → List ℕ
chains ns [] = []
chains ns (h ∷ hs) = chain ns h ++ chains ns hs

-- every chain ends, and each record stands once in the chains and the free chain
abbrev pub is_whole : (next heads : List ℕ) → (free : ℕ) → Bool
is_whole ns hs f = all (ends ns) (f ∷ hs) && eqb (length (chains ns (f ∷ hs))) (length ns) && no_repeats (chains ns (f ∷ hs))

-- the chain from each head lies in the pool and ends
unfoldable pub AllLinked : (next heads : List ℕ) → Type 0
AllLinked ns [] = Unit {0}
AllLinked ns (h ∷ hs) = Linked ns h (chain ns h) × AllLinked ns hs

-- a whole pool, as facts: chains that end, no record in them or the free chain twice, and together all records
pub record Pool (next heads : List ℕ) (free : ℕ) : Type 0 where
  pub linked : AllLinked next heads
  pub unused : Linked next free (chain next free)
  pub once : (x : ℕ) → times x (chains next heads) + times x (chain next free) ≤ 1
  pub size : length (chains next heads) + length (chain next free) ≡ length next
