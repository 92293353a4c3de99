-- The columns of a batch enter the book or leave it: what that asks of a sound book and of the lists as they are lent, and what it leaves. Places
-- of ids are from 0. Assumes nothing: these are definitions.
use Rattle.std.specs.Prelude.{◌≡◌, true, false, List, ◌++◌, ℕ, ◌≤◌, ◌<◌, length, get_or}
use Rattle.lists.specs.Lists.{all, among, no_repeats, sum_of}
use Rattle.symbolic.specs.Change.{Bag, without}
use Rattle.pool.specs.Chains.{chain}
use Rattle.book.specs.Book.{Book, Sized, is_booked, columns_in, column_fits, is_sound, ColumnStays}
use Rattle.calls.specs.Refusals.{batch_of}

-- ---- entering

-- how many rows the counts are together
abbrev pub total : (counts : List ℕ) → ℕ
total ns = sum_of (λ (n : ℕ). n) ns

-- distinct ids that are not booked, columns that fit, rows as many as the counts say, and free records for them
pub record CanEnter (m : ℕ) (b : Book) (ids counts list : List ℕ) : Type 0 where
  pub sized : Sized b
  pub sound : is_sound m b ≡ true
  pub narrow : m < 65536
  pub counted : length counts ≡ length ids
  pub distinct : no_repeats ids ≡ true
  pub named : (k : ℕ) → k < length ids → (1 ≤ get_or ids k 0) × (get_or ids k 0 ≤ length b.heads)
  pub absent : (k : ℕ) → k < length ids → is_booked b.heads (get_or ids k 0) ≡ false
  pub fits : all (column_fits m) (batch_of ids counts list) ≡ true
  pub long : total counts ≤ length list
  pub room : total counts ≤ length (chain b.next b.free)

-- what a caller shows: that the columns can enter, for some m
pub record SomeEnter (b : Book) (ids counts list : List ℕ) : Type 0 where
  pub m : ℕ
  pub can : CanEnter m b ids counts list

-- a sound book with the old columns and the batch's; the columns of all other ids stay
pub record Entered (m : ℕ) (b : Book) (ids counts list : List ℕ) (after : Book) : Type 0 where
  pub sized : Sized after
  pub sound : is_sound m after ≡ true
  pub same-heads : length after.heads ≡ length b.heads
  pub same-records : length after.next ≡ length b.next
  pub columns : Bag (columns_in after) (columns_in b ++ batch_of ids counts list)
  pub others : (l : ℕ) → 1 ≤ l → l ≤ length b.heads → among l ids ≡ false → ColumnStays b after l

-- ---- leaving

-- distinct ids that are booked
pub record CanLeave (m : ℕ) (b : Book) (ids : List ℕ) : Type 0 where
  pub sized : Sized b
  pub sound : is_sound m b ≡ true
  pub distinct : no_repeats ids ≡ true
  pub named : (k : ℕ) → k < length ids → (1 ≤ get_or ids k 0) × (get_or ids k 0 ≤ length b.heads)
  pub booked : (k : ℕ) → k < length ids → is_booked b.heads (get_or ids k 0) ≡ true

-- what a caller shows: that the ids can leave, for some m
pub record SomeLeave (b : Book) (ids : List ℕ) : Type 0 where
  pub m : ℕ
  pub can : CanLeave m b ids

-- a sound book with the old columns without the ids'; the columns of all other ids stay
pub record Left (m : ℕ) (b : Book) (ids : List ℕ) (after : Book) : Type 0 where
  pub sized : Sized after
  pub sound : is_sound m after ≡ true
  pub same-heads : length after.heads ≡ length b.heads
  pub same-records : length after.next ≡ length b.next
  pub columns : columns_in after ≡ without ids (columns_in b)
  pub others : (l : ℕ) → 1 ≤ l → l ≤ length b.heads → among l ids ≡ false → ColumnStays b after l
