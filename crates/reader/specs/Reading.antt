-- Reading entries of records: what stands at a record, or the end; a run of readings, each where the one before it led; and what the readings give,
-- row and multiplicity, beside what a factor column has.
-- Assumes nothing: these are definitions.
use Rattle.std.specs.Prelude.{Bool, ◌&&◌, not, Option, Some, None, List, [], ◌∷◌, ℕ, zero, suc, leb, eqb, length}
use Rattle.lists.specs.Lists.{pick, is_in, at}
use Rattle.symbolic.specs.Factor.{FactorColumn, pattern_of, multiplicities_of}
use Rattle.symbolic.specs.NextRow.{ColumnEntry, column_entries}
use Rattle.pool.specs.declared.Rec.{Rec}
use Rattle.reader.specs.declared.Entry.{Entry}

-- ---- one reading

-- a record of all three tables, which are the slices that a reader holds, and not a free one: "Unused records .. hold row and multiplicity 0"
abbrev pub is_read : (rows counts next : List ℕ) → (r : ℕ) → Bool
is_read xs cs ns r = is_in 1 (length xs) r && leb r (length cs) && leb r (length ns) && not (eqb (at xs r) 0)

-- "a reader whose record number is 0, past its tables or a free record's gives the end"
unfoldable pub entry_at : (rows counts next : List ℕ) → (r : ℕ) → Option Entry
entry_at xs cs ns r = pick (is_read xs cs ns r) (Some (record { row = at xs r; count = at cs r; after = record { 0 = at ns r } })) None

-- where to read on
abbrev pub after : Option Entry → Rec
after (Some e) = e.after
after None = record { 0 = 0 }

-- ---- a run of readings

-- k readings, the first at record r
unfoldable pub readings : ℕ → (rows counts next : List ℕ) → (r : ℕ) → List (Option Entry)
readings zero xs cs ns r = []
readings (suc k) xs cs ns r = entry_at xs cs ns r ∷ readings k xs cs ns (after (entry_at xs cs ns r)).0

-- ---- what readings give

-- row and multiplicity, or the end
pub data Given : Type 0 where
  entry : (row count : ℕ) → Given
  end : Given

-- what a reading gives, without the record to read next
abbrev pub given : Option Entry → Given
given (Some e) = entry e.row e.count
given None = end

-- what each of some readings gives
unfoldable pub all_given : List (Option Entry) → List Given
all_given [] = []
all_given (e ∷ es) = given e ∷ all_given es

-- entries of a column as readings give them
unfoldable pub as_read : List ColumnEntry → List Given
as_read [] = []
as_read (x ∷ xs) = entry x.row x.count ∷ as_read xs

-- the entries of a factor column, "row then multiplicity", rising
abbrev pub entries_in : FactorColumn → List Given
entries_in f = as_read (column_entries (pattern_of f) (multiplicities_of f))
