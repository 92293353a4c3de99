-- Rows counted in a table of counters, a counter for each row: one more at each, how many are not 0, and what counting an id's column asks.
-- Laws: proofs/Tally.antt. Assumes nothing: these are definitions.
use Rattle.std.specs.Prelude.{List, [], ◌∷◌, ℕ, ◌+◌, ◌≤◌, ◌<◌, eqb, length, get_or}
use Rattle.lists.specs.Lists.{pick, at, put, times}
use Rattle.book.specs.Book.{tables_of, column_for}
use Rattle.book.specs.Entries.{CanCopy}

-- one more at each row
unfoldable pub tallied : (counters rows : List ℕ) → List ℕ
tallied ns [] = ns
tallied ns (x ∷ xs) = tallied (put ns x (at ns x + 1)) xs

-- how many counters are not 0
unfoldable pub filled : List ℕ → ℕ
filled [] = 0
filled (n ∷ ns) = pick (eqb n 0) 0 1 + filled ns

-- every number in a list is one of 1 to m
abbrev pub WithinRows : (m : ℕ) → List ℕ → Type 0
WithinRows m xs = (x : ℕ) → 1 ≤ times x xs → (1 ≤ x) × (x ≤ m)

-- the rows that the book has under an id
abbrev pub booked_rows : (heads rows next : List ℕ) → (id : ℕ) → List ℕ
booked_rows hs rs ns i = (column_for (tables_of hs rs ns) i).rows

-- COUNT: an id of a sound book with at most 256 rows, all of 1 to m, and 32 bits hold the counters
pub record CanCount (heads rows next counters : List ℕ) (id : ℕ) : Type 0 where
  pub m : ℕ
  pub column : CanCopy heads rows next id 256
  pub rows_in : WithinRows m (booked_rows heads rows next id)
  pub long : m ≤ length counters
  pub room : (i : ℕ) → i < m → get_or counters i 0 + 256 < 4294967296
