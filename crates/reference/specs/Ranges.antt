-- What keeps an index within the tables: rows are 1 to 64, ids 1 to 256. The contracts say no more than that: the crate is safe and ends, and its
-- results are held against the product's by a program. Assumes nothing.
use Rattle.std.specs.Prelude.{◌≡◌, List, ℕ, ◌≤◌, length}

-- a row that the tables serve
abbrev pub IsRow : ℕ → Type 0
IsRow j = (1 ≤ j) × (j ≤ 64)

-- an id that the tables serve
abbrev pub IsId : ℕ → Type 0
IsId i = (1 ≤ i) × (i ≤ 256)

-- sizes that the tables serve: rows, ids
abbrev pub Served : (m n : ℕ) → Type 0
Served m n = (m ≤ 64) × (n ≤ 256)

-- an addition's counts and minutes keep step with its ids
abbrev pub InStep : (ids counts firsts seconds : List ℕ) → Type 0
InStep is ns ps qs = (length ns ≡ length is) × (length ps ≡ length is) × (length qs ≡ length is)
