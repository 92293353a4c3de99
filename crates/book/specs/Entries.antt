-- What each entry of the book asks and promises. A premise names the number of rows m that the book is sound for; a promise holds for every m.
-- Which free record is taken, and the free chain's later order, are left open.
-- Assumes nothing: these are definitions.
use Rattle.std.specs.Prelude.{◌≡◌, ◌≢◌, true, false, List, ℕ, ◌≤◌, ◌<◌, length, replicate}
use Rattle.lists.specs.Lists.{at}
use Rattle.symbolic.specs.Columns.{column_with, smallest}
use Rattle.pool.specs.Chains.{chain}
use Rattle.pool.specs.Opening.{opened_nexts, free_head}
use Rattle.book.specs.Book.{Book, book_of, tables_of, Sized, is_booked, column_for, column_fits, is_sound, ColumnStays}

-- OPEN: no id is booked, every record is free, and "the free chains rise"
abbrev pub opened : (n c : ℕ) → Book
opened n c = book_of (replicate n 0) (replicate c 0) (opened_nexts 0 c) (free_head 0 c)

-- a sound book and an id of it
pub record HasId (b : Book) (id : ℕ) : Type 0 where
  pub m : ℕ
  pub sized : Sized b
  pub sound : is_sound m b ≡ true
  pub low : 1 ≤ id
  pub high : id ≤ length b.heads

-- ADD: an id that is not booked, rows that fit, and enough free records
pub record CanAdd (b : Book) (id : ℕ) (rows : List ℕ) : Type 0 where
  pub has : HasId b id
  pub absent : is_booked b.heads id ≡ false
  pub fits : column_fits has.m (column_with id rows) ≡ true
  pub narrow : has.m < 65536
  pub room : length rows ≤ length (chain b.next b.free)

-- the book after an addition: still sound, with the new column under its id; every other column stays
pub record Added (b : Book) (id : ℕ) (rows : List ℕ) (after : Book) : Type 0 where
  pub sized : Sized after
  pub same-heads : length after.heads ≡ length b.heads
  pub same-records : length after.next ≡ length b.next
  pub sound : (m : ℕ) → is_sound m b ≡ true → column_fits m (column_with id rows) ≡ true → is_sound m after ≡ true
  pub booked : is_booked after.heads id ≡ true
  pub column : column_for after id ≡ column_with id rows
  pub others : (l : ℕ) → 1 ≤ l → l ≤ length b.heads → l ≢ id → ColumnStays b after l

-- REMOVE: a booked id
pub record CanRemove (b : Book) (id : ℕ) : Type 0 where
  pub has : HasId b id
  pub present : is_booked b.heads id ≡ true

-- the book after a removal: still sound, with no column under the id; every other column stays
pub record Removed (b : Book) (id : ℕ) (after : Book) : Type 0 where
  pub sized : Sized after
  pub same-heads : length after.heads ≡ length b.heads
  pub same-records : length after.next ≡ length b.next
  pub sound : (m : ℕ) → is_sound m b ≡ true → is_sound m after ≡ true
  pub absent : is_booked after.heads id ≡ false
  pub others : (l : ℕ) → 1 ≤ l → l ≤ length b.heads → l ≢ id → ColumnStays b after l

-- COPY: room for the column's rows
pub record CanCopy (heads rows next : List ℕ) (id room : ℕ) : Type 0 where
  pub free : ℕ
  pub has : HasId (book_of heads rows next free) id
  pub fits : length (column_for (tables_of heads rows next) id).rows ≤ room

-- THE SMALLEST ROW: an id whose head is 0 or a record
pub record HasHead (heads rows : List ℕ) (id : ℕ) : Type 0 where
  pub low : 1 ≤ id
  pub high : id ≤ length heads
  pub within : at heads id ≤ length rows

-- a row is the smallest of the id's column, 0 where the id is not booked; nexts are not read, so it is so for any that suit
abbrev pub StartsAt : (heads rows : List ℕ) → (id row : ℕ) → Type 0
StartsAt hs rs i r = (next : List ℕ) → length rs ≡ length next → r ≡ smallest (column_for (tables_of hs rs next) i)
