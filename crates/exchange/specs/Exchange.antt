-- An exchange of the stored columns as the clock goes from one minute to another: booked columns A leave, booked columns B enter, R stay, as one change that fits or
-- leaves everything as it was. What it asks, and what it leaves: the factor of R and B; columns off the paths stay, entries that stand before, between and after keep
-- their records; which columns lie on the paths, each with its size before. Assumes nothing: these are definitions.
use Rattle.std.specs.Prelude.{◌≡◌, Bool, true, false, List, ◌++◌, ℕ, ◌+◌, ◌*◌, ◌-◌, ◌≤◌, leb, length, replicate}
use Rattle.lists.specs.Lists.{pick, over}
use Rattle.symbolic.specs.Columns.{Column}
use Rattle.symbolic.specs.Factor.{factor_of, column_at, size_of, size_sum}
use Rattle.symbolic.specs.Batch.{is_exchanged, exchanged, entries_of}
use Rattle.workspace.specs.Regions.{cell, IsZero, OnlyIn}
use Rattle.workspace.specs.Layout.{spare, flags_at, flag_count, gather_at}
use Rattle.workspace.specs.Parts.{upper_part}
use Rattle.book.specs.Book as book
use Rattle.tables.specs.Stored.{Stored, Sized, stored_of, is_sound_for}
use Rattle.tables.specs.Stays.{ColumnStays, EntriesStay}
use Rattle.updown.specs.Entries.{plan_need}
use Rattle.windows.specs.Windows.{counts_at, moves_from, stays_between}
use Rattle.windows.specs.Chosen.{chosen}

-- the columns that stay as the clock goes from one minute to another: they count at both
abbrev pub staying : book.Book → (windows : List ℕ) → (before after : ℕ) → List Column
staying b w t u = chosen b (stays_between w (length b.heads) t u)

-- those that leave: they count at the minute before and not at the one after
abbrev pub leaving : book.Book → (windows : List ℕ) → (before after : ℕ) → List Column
leaving b w t u = chosen b (moves_from w (length b.heads) t u)

-- those that enter: they count at the minute after and not at the one before
abbrev pub entering : book.Book → (windows : List ℕ) → (before after : ℕ) → List Column
entering b w t u = chosen b (moves_from w (length b.heads) u t)

-- stored columns that are sound for the columns that count at minute t, a sound book with two minutes for each id, and a work table whose places for plans are zero
pub record CanExchange (s : Stored) (b : book.Book) (windows : List ℕ) (t : ℕ) (work : List ℕ) : Type 0 where
  pub sized : Sized s
  pub sound : is_sound_for (chosen b (counts_at windows (length b.heads) t)) s ≡ true
  pub book-sized : book.Sized b
  pub book-free : ℕ
  pub book-sound : book.is_sound (length s.heads) (book.book_of b.heads b.rows b.next book-free) ≡ true
  pub some : 1 ≤ length s.heads
  pub m-bound : length s.heads ≤ 4096
  pub f-bound : length s.next ≤ 1048576
  pub few : length b.heads ≤ 16384
  pub windows-long : 2 * length b.heads ≤ length windows
  pub long : plan_need (length s.heads) (length s.next) ≤ length work
  pub zero : IsZero work 0 (spare (length s.heads) (length s.next))
  pub flags-zero : IsZero work (flags_at (length s.heads) (length s.next)) flag_count

-- of each column, whether it lies on the path of one that leaves, in the tree before, or of one that enters, in the tree after, and then its size before
abbrev pub Gathered : (m f : ℕ) (R A B : List Column) (work : List ℕ) → Type 0
Gathered m f R A B w =
    (j : ℕ) → 1 ≤ j → j ≤ m → upper_part (cell w (gather_at m f) (j - 1)) ≡ pick (is_exchanged (factor_of m (R ++ A)) (factor_of m (R ++ B)) A B j) (1 + size_of (column_at (factor_of m (R ++ A)) j)) 0

-- an exchange that fits: the columns are those of R and B, the others stay, entries that stand for R too keep their records
pub record Done (s : Stored) (R A B : List Column) (after : Stored) (work : List ℕ) : Type 0 where
  pub sized : Sized after
  pub heads : after.heads ≡ s.heads
  pub sound : is_sound_for (R ++ B) after ≡ true
  pub others : (j : ℕ) → 1 ≤ j → j ≤ length s.heads →
      is_exchanged (factor_of (length s.heads) (R ++ A)) (factor_of (length s.heads) (R ++ B)) A B j ≡ false → ColumnStays s after j
  pub entries : (j : ℕ) → 1 ≤ j → j ≤ length s.heads → EntriesStay (factor_of (length s.heads) R) s after j
  pub gathered : Gathered (length s.heads) (length s.next) R A B work

-- THE EXCHANGE: "16" decides by the columns after it; where it does not fit every table, free chains too, is as before; of the work table only places that a plan
-- does not use have changed
pub record StoredExchanged (s : Stored) (R A B : List Column) (before : List ℕ) (after : Stored) (work : List ℕ) (fits saved : Bool) : Type 0 where
  pub fits-is : fits ≡ leb (size_sum (factor_of (length s.heads) (R ++ B))) (length s.next)
  pub done : fits ≡ true → Done s R A B after work
  pub undone : fits ≡ false → after ≡ s
  pub only : OnlyIn (spare (length s.heads) (length s.next)) (3 * length s.next) before work
  -- where nobody enters no records are saved, and only the m places of the gathered columns have changed: a caller then clears m places and not 3F
  pub only-gathered : saved ≡ false → OnlyIn (gather_at (length s.heads) (length s.next)) (length s.heads) before work

-- ---- its report

-- columns gathered, and lists long enough; the tables hold the factor of R and B
pub record CanReport (s : Stored) (R A B : List Column) (work touched labels : List ℕ) : Type 0 where
  pub sized : Sized s
  pub sound : is_sound_for (R ++ B) s ≡ true
  pub m-bound : length s.heads ≤ 4096
  pub f-bound : length s.next ≤ 1048576
  pub long : plan_need (length s.heads) (length s.next) ≤ length work
  pub room : length s.heads ≤ length s.next
  pub gathered : Gathered (length s.heads) (length s.next) R A B work
  pub touched-long : length s.heads ≤ length touched
  pub labels-long : length s.heads ≤ length labels

-- what a caller shows: such tables, for some R, A and B; parents, rows, multiplicities and the free head are not read, any that suit will do
pub record SomeReport (heads next work touched labels : List ℕ) : Type 0 where
  pub parents : List ℕ
  pub rows : List ℕ
  pub counts : List ℕ
  pub free : ℕ
  pub R : List Column
  pub A : List Column
  pub B : List Column
  pub can : CanReport (stored_of heads parents rows counts next free) R A B work touched labels

-- the columns on the paths, rising, each with label 0; how many, and the sum of the larger of each one's sizes before and after
pub record Reported (m : ℕ) (R A B : List Column) (touched labels touched' labels' : List ℕ) (count entries : ℕ) : Type 0 where
  pub touched-is : touched' ≡ over (exchanged (factor_of m (R ++ A)) (factor_of m (R ++ B)) A B) touched
  pub labels-is : labels' ≡ over (replicate (length (exchanged (factor_of m (R ++ A)) (factor_of m (R ++ B)) A B)) 0) labels
  pub count-is : count ≡ length (exchanged (factor_of m (R ++ A)) (factor_of m (R ++ B)) A B)
  pub entries-is : entries ≡ entries_of (factor_of m (R ++ A)) (factor_of m (R ++ B)) (exchanged (factor_of m (R ++ A)) (factor_of m (R ++ B)) A B)
