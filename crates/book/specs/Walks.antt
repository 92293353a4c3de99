-- Walking the book's chains, for any contents: what each walk asks and answers. A chain must end, hold a column that fits, and with those before have no more
-- records than there are. Its last record is named, so that shared records show. Assumes nothing: these are definitions.
use Rattle.std.specs.Prelude.{◌≡◌, ◌≢◌, Bool, true, false, ◌&&◌, List, ℕ, suc, ◌+◌, ◌≤◌, ◌<◌, leb, length, get_or, take, Option, Some, None}
use Rattle.workspace.specs.Regions.{region}
use Rattle.pool.specs.Chains.{chain, ends}
use Rattle.pool.specs.Whole.{chains, AllLinked}
use Rattle.pool.specs.Ends.{lasts, chain_answer}
use Rattle.pool.specs.declared.Rec.{Rec}
use Rattle.ends.specs.Naming.{Named}
use Rattle.book.specs.Book.{book_of, tables_of, is_booked, column_for, column_fits, is_sound}

-- ---- one column

-- a row for every record, an id that is booked, and no more records met than there are
pub record CanWalk (heads rows next : List ℕ) (i met : ℕ) : Type 0 where
  pub sized : length rows ≡ length next
  pub inside : i < length heads
  pub booked : get_or heads i 0 ≢ 0
  pub within : met ≤ length next

-- the chain of the head at place i, which is that of id i + 1, ends with a column that fits, and there are records enough
abbrev pub column_walks : (heads rows next : List ℕ) → (i met m : ℕ) → Bool
column_walks hs rs ns i n m =
    ends ns (get_or hs i 0) && column_fits m (column_for (tables_of hs rs ns) (suc i)) && leb (n + length (chain ns (get_or hs i 0))) (length ns)

-- after the walk of one column: whether it can be walked, with the records met and its last one
abbrev pub ColumnWalked : (heads rows next : List ℕ) → (i met m : ℕ) → Option (ℕ × Rec) → Type 0
ColumnWalked hs rs ns i n m a = a ≡ chain_answer (column_walks hs rs ns i n m) n ns (get_or hs i 0)

-- ---- all columns

-- a row for every record, a place of scratch for every record and every id, and sizes that 32 bits hold with room
pub record CanReadThrough (heads rows next scratch : List ℕ) : Type 0 where
  pub sized : length rows ≡ length next
  pub room : length next + length heads ≤ length scratch
  pub few-records : length next ≤ 1073741824
  pub few-ids : length heads < 4294967295

-- the columns of the first k ids were walked: their chains end, met is the number of their records, booked columns fit, last records are named
pub record Walked (heads rows next scratch : List ℕ) (m met k : ℕ) : Type 0 where
  pub linked : AllLinked next (take k heads)
  pub counted : met ≡ length (chains next (take k heads))
  pub within : met ≤ length next
  pub fits : (i : ℕ) → 1 ≤ i → i ≤ k → is_booked heads i ≡ true → column_fits m (column_for (tables_of heads rows next) i) ≡ true
  pub lasts_are : region scratch (length next) k ≡ lasts next (take k heads)
  pub named : Named scratch (length next) k 0 (length next)

-- after the walk of all columns: none, a cut, means that the book is not sound, whatever its free head
pub record ColumnsWalked (heads rows next scratch : List ℕ) (m : ℕ) (a : Option ℕ) : Type 0 where
  pub cut : a ≡ None → (free : ℕ) → is_sound m (book_of heads rows next free) ≡ false
  pub walked : (n : ℕ) → a ≡ Some n → Walked heads rows next scratch m n (length heads)
