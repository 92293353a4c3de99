-- The next row of a column: the first at or above a given row, with its multiplicity, as it is computed and without computing; then the walk of a column from
-- row to row. Document 02's question for the next row. Assumes nothing: these are definitions.
use Rattle.std.specs.Prelude.{◌≡◌, ◌⊎◌, ◌≢◌, List, [], ◌∷◌, ℕ, suc, ◌≤◌, ◌<◌, leb}
use Rattle.lists.specs.Lists.{pick}
use Rattle.symbolic.specs.Factor.{FactorColumn, column_at, pattern_of, multiplicities_of}

-- ---- computed

-- an entry of a column: a row and its multiplicity; "both 0" for none
pub record ColumnEntry : Type 0 where
  pub row : ℕ
  pub count : ℕ

-- the first of rising rows at or above i, with what stands beside it in a list that keeps step
unfoldable pub first_from : (i : ℕ) → (rows counts : List ℕ) → ColumnEntry
first_from i [] ns = record { row = 0; count = 0 }
first_from i (x ∷ xs) [] = record { row = 0; count = 0 }
first_from i (x ∷ xs) (n ∷ ns) = pick (leb i x) (record { row = x; count = n }) (first_from i xs ns)

-- the same of a factor column
abbrev pub next_in : FactorColumn → (i : ℕ) → ColumnEntry
next_in f i = first_from i (pattern_of f) (multiplicities_of f)

-- "the first row at or above i in column j and its multiplicity, both 0 if the column ends before"
abbrev pub next_row : List FactorColumn → (i j : ℕ) → ColumnEntry
next_row fs i j = next_in (column_at fs j) i

-- ---- without computing

-- x is the next row from i on in column j, by multiplicities M of rows 1 to m
pub record IsNext (m : ℕ) (M : ℕ → ℕ → ℕ) (i j : ℕ) (x : ColumnEntry) : Type 0 where
  -- a row that is given is at or above i, stands in column j and comes with its multiplicity
  pub stands : 0 < x.row → (i ≤ x.row) × (x.row ≤ m) × (0 < x.count) × (x.count ≡ M x.row j)
  -- it is the first
  pub first : (k : ℕ) → i ≤ k → k < x.row → M k j ≡ 0
  -- "both 0 if the column ends before": row 0 comes with 0, and only then; if the column does end before, `stands` leaves no other row
  pub none : x.row ≡ 0 → (x.count ≡ 0) × ((k : ℕ) → i ≤ k → k ≤ m → M k j ≡ 0)

-- ---- a walk

-- rows with their multiplicities, entry by entry
unfoldable pub column_entries : (rows counts : List ℕ) → List ColumnEntry
column_entries [] ns = []
column_entries (x ∷ xs) [] = []
column_entries (x ∷ xs) (n ∷ ns) = record { row = x; count = n } ∷ column_entries xs ns

-- "asking from 1, then from one above each row given, until row m or 0": what a walk from row i on is given, where ask k answers for row k; a last answer of row 0
-- is no entry
unfoldable pub IsWalk : (m : ℕ) → (ask : ℕ → ColumnEntry) → (i : ℕ) → List ColumnEntry → Type 0
IsWalk m ask i [] = (ask i).row ≡ 0
IsWalk m ask i (x ∷ xs) =
    (x ≡ ask i) × (x.row ≢ 0) × (((x.row ≡ m) × (xs ≡ [])) ⊎ ((x.row ≢ m) × IsWalk m ask (suc x.row) xs))
