-- The book of columns, as document 01's "Tables" has it: a head for each id, chains of row and next, a free chain.
-- Its contents as a list of columns, when it is sound, and what it means that a column stays. Windows stand beside it, in `windows`.
-- Assumes nothing: these are definitions.
use Rattle.std.specs.Prelude.{◌≡◌, Bool, ◌&&◌, not, List, [], ◌∷◌, ℕ, zero, suc, eqb, length}
use Rattle.lists.specs.Lists.{pick, is_in, all, at, values_at, rises, all_zero}
use Rattle.symbolic.specs.Columns.{Column, column_with}
use Rattle.pool.specs.Chains.{chain}
use Rattle.pool.specs.Whole.{is_whole}

-- the tables of the book, cut to their sizes (n heads, C rows and nexts), and its free head
pub record Book : Type 0 where
  pub heads : List ℕ
  pub rows : List ℕ
  pub next : List ℕ
  pub free : ℕ

-- a book from its tables and its free head
abbrev pub book_of : (heads rows next : List ℕ) → (free : ℕ) → Book
book_of hs rs ns f = record { heads = hs; rows = rs; next = ns; free = f }

-- the tables alone, for what does not depend on the free head: the columns
abbrev pub tables_of : (heads rows next : List ℕ) → Book
tables_of hs rs ns = book_of hs rs ns 0

-- every record has a row and a next
abbrev pub Sized : Book → Type 0
Sized b = length b.rows ≡ length b.next

-- "The book has a head for each id (0: not live)"; booked, as document 02 has it since windows
abbrev pub is_booked : (heads : List ℕ) → (id : ℕ) → Bool
is_booked hs i = not (eqb (at hs i) 0)

-- the records of an id's column
abbrev pub records_under : Book → (id : ℕ) → List ℕ
records_under b i = chain b.next (at b.heads i)

-- the column of an id: its rows; windows are not in the book's tables
abbrev pub column_for : Book → (id : ℕ) → Column
column_for b i = column_with i (values_at b.rows (records_under b i))

-- the columns of the booked ids, of so many ids from one on
unfoldable pub columns_from : Book → (id : ℕ) → ℕ → List Column
columns_from b i zero = []
columns_from b i (suc n) = pick (is_booked b.heads i) (column_for b i ∷ columns_from b (suc i) n) (columns_from b (suc i) n)

-- THE BOOK as a list of columns, by rising id
abbrev pub columns_in : Book → List Column
columns_in b = columns_from b 1 (length b.heads)

-- "book rows are within 1 to m, rise strictly, and are at most 256 a column"; a booked column has at least one
abbrev pub column_fits : (m : ℕ) → Column → Bool
column_fits m c = rises 1 m c.rows && is_in 1 256 (length c.rows)

-- SOUND: "all chains lie in range, end, share no record and together with the free chains hold each record once; free records are zero"
abbrev pub is_sound : (m : ℕ) → Book → Bool
is_sound m b =
    is_whole b.next b.heads b.free && all_zero (values_at b.rows (chain b.next b.free)) && all (column_fits m) (columns_in b)

-- the column of an id stays: its head, its records, and the row of each
pub record ColumnStays (before after : Book) (id : ℕ) : Type 0 where
  pub head : at after.heads id ≡ at before.heads id
  pub records : records_under after id ≡ records_under before id
  pub rows : values_at after.rows (records_under after id) ≡ values_at before.rows (records_under before id)
