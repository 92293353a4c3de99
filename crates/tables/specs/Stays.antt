-- What stays: a factor column with its head, parent and records, the record of an entry that stands before and after, the places beyond the sizes.
-- The book has its own `ColumnStays`. Both are read within the sizes, before and after one call.
-- Assumes nothing: these are definitions.
use Rattle.std.specs.Prelude.{◌≡◌, true, List, ℕ, ◌+◌, ◌*◌, length, drop}
use Rattle.lists.specs.Lists.{Mem, at}
use Rattle.symbolic.specs.Factor.{FactorColumn, in_pattern}
use Rattle.tables.specs.Stored.{Stored, records_of}
use Rattle.tables.specs.Tables.{Tables, Sizes}

-- "A factor column is altered unless its head, its parent and every record of its chain stay, each record with its number, row, multiplicity and next"
pub record ColumnStays (before after : Stored) (j : ℕ) : Type 0 where
  pub head : at after.heads j ≡ at before.heads j
  pub parent : at after.parents j ≡ at before.parents j
  pub records : records_of after j ≡ records_of before j
  pub row : (x : ℕ) → Mem x (records_of before j) → at after.rows x ≡ at before.rows x
  pub count : (x : ℕ) → Mem x (records_of before j) → at after.counts x ≡ at before.counts x
  pub next : (x : ℕ) → Mem x (records_of before j) → at after.next x ≡ at before.next x

-- "An entry that stands in a column before and after a batch keeps its record"
abbrev pub EntriesKeep : (before after : Stored) (j : ℕ) → Type 0
EntriesKeep b a j =
    (x y : ℕ) → Mem x (records_of b j) → Mem y (records_of a j) → at b.rows x ≡ at a.rows y → x ≡ y

-- the same of the entries that stand in a third factor too, that of the columns which stay while others leave and enter
abbrev pub EntriesStay : (staying : List FactorColumn) (before after : Stored) (j : ℕ) → Type 0
EntriesStay fs b a j =
    (x y : ℕ) → Mem x (records_of b j) → Mem y (records_of a j) → at b.rows x ≡ at a.rows y → in_pattern fs (at b.rows x) j ≡ true → x ≡ y

-- the minutes of an id, of n, stay
pub record MinutesStay (n : ℕ) (before after : List ℕ) (id : ℕ) : Type 0 where
  pub first : at after id ≡ at before id
  pub second : at after (n + id) ≡ at before (n + id)

-- "Table places beyond the sizes keep their content"; lengths stay
pub record Beyond (n : ℕ) (before after : List ℕ) : Type 0 where
  pub same_length : length after ≡ length before
  pub same-tail : drop n after ≡ drop n before

-- each of the nine tables keeps what stands beyond its size
pub record TailsStay (l : Sizes) (before after : Tables) : Type 0 where
  pub heads : Beyond l.m before.heads after.heads
  pub parents : Beyond l.m before.parents after.parents
  pub rows : Beyond l.f before.rows after.rows
  pub counts : Beyond l.f before.counts after.counts
  pub next : Beyond l.f before.next after.next
  pub book_heads : Beyond l.n before.book_heads after.book_heads
  pub book_rows : Beyond l.c before.book_rows after.book_rows
  pub book_next : Beyond l.c before.book_next after.book_next
  pub windows : Beyond (2 * l.n) before.windows after.windows
