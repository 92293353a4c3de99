-- Where chains end: the last record of a chain. Chains that end and share a record share all after it, so also their last one: they are apart exactly if
-- their last records are (proofs/Apart.antt). Assumes nothing: these are definitions.
use Rattle.std.specs.Prelude.{◌≡◌, ◌≢◌, Bool, true, false, List, [], ◌∷◌, ℕ, ◌+◌, ◌<◌, length, get_or, Option, Some, None}
use Rattle.pool.specs.Chains.{chain, last_of}
use Rattle.pool.specs.declared.Rec.{Rec}

-- the last record of the chain from a head, 0 where there is none
abbrev pub last_from : (next : List ℕ) → (head : ℕ) → ℕ
last_from ns h = last_of 0 (chain ns h)

-- the last records of the chains from some heads, in their order
unfoldable pub lasts : (next heads : List ℕ) → List ℕ
lasts ns [] = []
lasts ns (h ∷ hs) = last_from ns h ∷ lasts ns hs

-- no record stands at two places of a list in which 0 is none
abbrev pub NoneTwice : List ℕ → Type 0
NoneTwice es = (i k : ℕ) → i < length es → k < length es → get_or es i 0 ≢ 0 → get_or es i 0 ≡ get_or es k 0 → i ≡ k

-- the answer of the walk of one chain after some records: how many were met by its end, and its last one; or none, if it was cut short
abbrev pub chain_answer : Bool → (met : ℕ) → (next : List ℕ) → (head : ℕ) → Option (ℕ × Rec)
chain_answer true n ns h = Some (n + length (chain ns h), record { 0 = last_from ns h })
chain_answer false n ns h = None
