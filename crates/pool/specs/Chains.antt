-- Chains of records in one `next` table. A record's number is from 1; 0 is none. What a table has of record k stands at place k − 1, and a pool has as
-- many records as its `next` table has places. Assumes nothing: these are definitions.
use Rattle.std.specs.Prelude.{◌≡◌, Bool, List, [], ◌∷◌, ℕ, zero, suc, ◌≤◌, eqb, length}
use Rattle.lists.specs.Lists.{pick, is_in, at}

-- the records from one on; a chain that leaves the pool, or has more records than there are, is cut short
unfoldable pub chain_from : ℕ → (next : List ℕ) → (from : ℕ) → List ℕ
chain_from zero ns r = []
chain_from (suc n) ns r = pick (is_in 1 (length ns) r) (r ∷ chain_from n ns (at ns r)) []

-- the chain from a head
abbrev pub chain : (next : List ℕ) → (head : ℕ) → List ℕ
chain ns h = chain_from (length ns) ns h

-- the last of the records from r on; r itself where no other follows
unfoldable pub last_of : ℕ → List ℕ → ℕ
last_of r [] = r
last_of r (x ∷ xs) = last_of x xs

-- records from a head end: there is none and the head is 0, or the last one's next is 0
abbrev pub ends_after : (next : List ℕ) → (head : ℕ) → (records : List ℕ) → Bool
ends_after ns h [] = eqb h 0
ends_after ns h (r ∷ rs) = eqb (at ns (last_of r rs)) 0

-- "A next of zero ends the chain": the chain from a head lies in range and ends
abbrev pub ends : (next : List ℕ) → (head : ℕ) → Bool
ends ns h = ends_after ns h (chain ns h)

-- the chain from h runs through just the records rs, all of the pool, and ends
unfoldable pub Linked : (next : List ℕ) → (head : ℕ) → (records : List ℕ) → Type 0
Linked ns h [] = h ≡ 0
Linked ns h (r ∷ rs) = (h ≡ r) × (1 ≤ r) × (r ≤ length ns) × Linked ns (at ns r) rs
