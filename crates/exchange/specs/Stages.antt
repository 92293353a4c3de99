-- An exchange on its way: one group of columns has left or entered (`GroupDone`), some groups have, one after another, while columns R stay (`Moved`), and how the
-- columns on their paths are gathered meanwhile (`Gathers`). Laws: proofs/Stages.antt. Assumes nothing: these are definitions.
use Rattle.std.specs.Prelude.{◌≡◌, Bool, true, false, List, ◌++◌, ℕ, ◌+◌, ◌-◌, ◌≤◌, ◌<◌, leb, eqb, length, get_or}
use Rattle.lists.specs.Lists.{pick, all}
use Rattle.symbolic.specs.Columns.{Column, fits_rows}
use Rattle.symbolic.specs.Factor.{factor_of, size_sum}
use Rattle.symbolic.specs.Batch.{is_touched, is_exchanged}
use Rattle.symbolic.specs.Change.{Bag}
use Rattle.workspace.specs.Regions.{cell, IsZero, OnlyIn}
use Rattle.workspace.specs.Layout.{spare, flags_at, flag_count, gather_at, saved_at}
use Rattle.workspace.specs.Parts.{lower_part, upper_part}
use Rattle.snapshot.specs.Snapshot.{RecordsKept, ParentsKept, CanRestore, Restored}
use Rattle.book.specs.Book as book
use Rattle.tables.specs.Stored.{Stored, Sized, records_of, is_sound_for}
use Rattle.tables.specs.Stays.{ColumnStays, EntriesKeep, EntriesStay}
use Rattle.updown.specs.Entries.{plan_need, Booked, CanPlan}
use Rattle.windows.specs.Windows.{moves_from}
use Rattle.windows.specs.Chosen.{chosen_ids, CanCollect}

-- ---- gathering

-- what is gathered for column j: one more than its size, 0 where it is not gathered
abbrev pub gathered_in : (m f : ℕ) → (work : List ℕ) → (j : ℕ) → ℕ
gathered_in m f w j = upper_part (cell w (gather_at m f) (j - 1))

-- a column on a path is gathered with its size, unless it was before; the lower parts of the places stay, and all else in the work table
pub record Gathers (m f : ℕ) (touches : ℕ → Bool) (size : ℕ → ℕ) (before after : List ℕ) : Type 0 where
  pub only : OnlyIn (gather_at m f) m before after
  pub low : (i : ℕ) → i < m → lower_part (cell after (gather_at m f) i) ≡ lower_part (cell before (gather_at m f) i)
  pub counts : (j : ℕ) → 1 ≤ j → j ≤ m → gathered_in m f after j ≡ pick (eqb (gathered_in m f before j) 0) (pick (touches j) (1 + size j) 0) (gathered_in m f before j)

-- ---- one group

-- what a group W touches as it leaves the columns N, or enters beside them
abbrev pub group_touches : (m : ℕ) → (N W : List Column) → (j : ℕ) → Bool
group_touches m N W j = is_touched (factor_of m (N ++ W)) W j

-- W leaves columns that are N and W but for their order, and is in the book
pub record CanLeave (s : Stored) (b : book.Book) (ids work : List ℕ) (N W : List Column) : Type 0 where
  pub columns : List Column
  pub can : CanPlan s columns W work
  pub same : Bag columns (N ++ W)
  pub booked : Booked b ids W
  pub book-sized : book.Sized b
  pub book-free : ℕ
  pub book-sound : book.is_sound (length s.heads) (book.book_of b.heads b.rows b.next book-free) ≡ true

-- what a caller shows: that W can leave N, for some N and W
pub record SomeLeave (s : Stored) (b : book.Book) (ids work : List ℕ) : Type 0 where
  pub N : List Column
  pub W : List Column
  pub can : CanLeave s b ids work N W

-- a group that touches some columns has left or entered: sound for the columns that there are now; the others stay; entries that stay keep their record; the
-- touched columns are gathered with their sizes before
pub record GroupDone (m f : ℕ) (s : Stored) (touches : ℕ → Bool) (columns : List Column) (after : Stored) (work work' : List ℕ) : Type 0 where
  pub sized : Sized after
  pub heads : after.heads ≡ s.heads
  pub long : length after.next ≡ length s.next
  pub sound : is_sound_for columns after ≡ true
  pub others : (j : ℕ) → 1 ≤ j → j ≤ m → touches j ≡ false → ColumnStays s after j
  pub keep : (j : ℕ) → 1 ≤ j → j ≤ m → EntriesKeep s after j
  pub gathers : Gathers m f touches (λ j. length (records_of s j)) work work'

-- W, which can be planned to enter beside N (updown's `CanAddBooked`), enters if all sizes fit then, or nothing changes
pub record GroupEntered (m f : ℕ) (s : Stored) (N W : List Column) (after : Stored) (work work' : List ℕ) (fits : Bool) : Type 0 where
  pub fits-is : fits ≡ leb (size_sum (factor_of m (N ++ W))) f
  pub done : fits ≡ true → GroupDone m f s (group_touches m N W) (N ++ W) after work work'
  pub undone : fits ≡ false → after ≡ s
  pub unchanged : fits ≡ false → work' ≡ work

-- ---- some groups, one after another

-- the same of some groups, one after another, while the columns R stay: entries that stand for R keep their record
pub record Moved (m f : ℕ) (R : List Column) (s : Stored) (touches : ℕ → Bool) (columns : List Column) (after : Stored) (work work' : List ℕ) : Type 0 where
  pub sized : Sized after
  pub heads : after.heads ≡ s.heads
  pub long : length after.next ≡ length s.next
  pub sound : is_sound_for columns after ≡ true
  pub others : (j : ℕ) → 1 ≤ j → j ≤ m → touches j ≡ false → ColumnStays s after j
  pub entries : (j : ℕ) → 1 ≤ j → j ≤ m → EntriesStay (factor_of m R) s after j
  pub gathers : Gathers m f touches (λ j. length (records_of s j)) work work'

-- ---- all groups of the ids that move

-- the booked ids that count at one minute and not at another
abbrev pub moving_ids : (heads windows : List ℕ) → (minute other : ℕ) → List ℕ
moving_ids hs w t u = chosen_ids hs (moves_from w (length hs) t u)

-- stored columns, a book and a work table for groups to go through, one after another
pub record CanGo (s : Stored) (b : book.Book) (work : List ℕ) : Type 0 where
  pub sized : Sized s
  pub book-sized : book.Sized b
  pub book-free : ℕ
  pub book-sound : book.is_sound (length s.heads) (book.book_of b.heads b.rows b.next book-free) ≡ true
  pub some : 1 ≤ length s.heads
  pub m-bound : length s.heads ≤ 4096
  pub f-bound : length s.next ≤ 1048576
  pub long : plan_need (length s.heads) (length s.next) ≤ length work
  pub zero : IsZero work 0 (spare (length s.heads) (length s.next))
  pub flags-zero : IsZero work (flags_at (length s.heads) (length s.next)) flag_count

-- all columns A can leave columns that are R and A but for their order
pub record CanLeaveAll (s : Stored) (b : book.Book) (ids work : List ℕ) (R A : List Column) : Type 0 where
  pub go : CanGo s b work
  pub columns : List Column
  pub sound : is_sound_for columns s ≡ true
  pub same : Bag columns (R ++ A)
  pub fits : all (fits_rows (length s.heads)) (R ++ A) ≡ true
  pub booked : Booked b ids A
  pub few : length R + length A ≤ 50000

-- what a caller shows: that those that count at one minute and not at another are some A that can leave some R
pub record SomeLeaveAll (s : Stored) (b : book.Book) (windows : List ℕ) (minute other : ℕ) (work : List ℕ) : Type 0 where
  pub R : List Column
  pub A : List Column
  pub can : CanLeaveAll s b (moving_ids b.heads windows minute other) work R A
  pub scan : CanCollect b.heads windows 1

-- all columns B can enter beside R, so far as sizes go
pub record CanEnterAll (s : Stored) (b : book.Book) (ids work : List ℕ) (R B : List Column) : Type 0 where
  pub go : CanGo s b work
  pub sound : is_sound_for R s ≡ true
  pub fits : all (fits_rows (length s.heads)) (R ++ B) ≡ true
  pub booked : Booked b ids B
  pub few : length R + length B ≤ 50000

-- what a caller shows: that those that count at one minute and not at another are some B that can enter beside some R
pub record SomeEnterAll (s : Stored) (b : book.Book) (windows : List ℕ) (minute other : ℕ) (work : List ℕ) : Type 0 where
  pub R : List Column
  pub B : List Column
  pub can : CanEnterAll s b (moving_ids b.heads windows minute other) work R B
  pub scan : CanCollect b.heads windows 1

-- all of B have entered beside R if all sizes fit then; where they do not, what the stored columns are is left open; either way only upper parts of the places of
-- gathering changed in the work table
pub record EnteredAll (m f : ℕ) (R B : List Column) (s after : Stored) (work work' : List ℕ) (fits : Bool) : Type 0 where
  pub fits-is : fits ≡ leb (size_sum (factor_of m (R ++ B))) f
  pub done : fits ≡ true → Moved m f R s (is_touched (factor_of m (R ++ B)) B) (R ++ B) after work work'
  pub only : OnlyIn (gather_at m f) m work work'
  pub low : (i : ℕ) → i < m → lower_part (cell work' (gather_at m f) i) ≡ lower_part (cell work (gather_at m f) i)

-- ---- both ways, on kept tables

-- stored columns that are sound for R and A but for their order, a sound book that has A and B under the ids, and a work table whose places for plans are zero
pub record CanSwap (s : Stored) (b : book.Book) (leave enter work : List ℕ) (R A B : List Column) : Type 0 where
  pub columns : List Column
  pub sized : Sized s
  pub sound : is_sound_for columns s ≡ true
  pub same : Bag columns (R ++ A)
  pub fits : all (fits_rows (length s.heads)) (R ++ (A ++ B)) ≡ true
  pub leave-booked : Booked b leave A
  pub enter-booked : Booked b enter B
  pub book-sized : book.Sized b
  pub book-free : ℕ
  pub book-sound : book.is_sound (length s.heads) (book.book_of b.heads b.rows b.next book-free) ≡ true
  pub some : 1 ≤ length s.heads
  pub m-bound : length s.heads ≤ 4096
  pub f-bound : length s.next ≤ 1048576
  -- a loose bound above three times document 01's 16,384 ids, which only keeps multiplicities within 16 bits
  pub few : length R + (length A + length B) ≤ 50000
  pub long : plan_need (length s.heads) (length s.next) ≤ length work
  pub zero : IsZero work 0 (spare (length s.heads) (length s.next))
  pub flags-zero : IsZero work (flags_at (length s.heads) (length s.next)) flag_count

-- what a caller shows: that those that move between two minutes are some A and B that can be exchanged, some R staying, with records and parents kept
pub record SomeSwap (s : Stored) (b : book.Book) (windows : List ℕ) (before after : ℕ) (work : List ℕ) : Type 0 where
  pub R : List Column
  pub A : List Column
  pub B : List Column
  pub can : CanSwap s b (moving_ids b.heads windows before after) (moving_ids b.heads windows after before) work R A B
  pub scan : CanCollect b.heads windows 1
  pub small : (k : ℕ) → get_or s.counts k 0 < 65536
  pub records : RecordsKept work (saved_at (length s.heads) (length s.next)) s.rows s.counts s.next
  pub parents : ParentsKept work (gather_at (length s.heads) (length s.next)) s.parents

-- the exchange is done if all sizes fit after it, or the tables are as before
pub record Swapped (m f : ℕ) (R A B : List Column) (s after : Stored) (work work' : List ℕ) (fits : Bool) : Type 0 where
  pub fits-is : fits ≡ leb (size_sum (factor_of m (R ++ B))) f
  pub done : fits ≡ true → Moved m f R s (is_exchanged (factor_of m (R ++ A)) (factor_of m (R ++ B)) A B) (R ++ B) after work work'
  pub undone : fits ≡ false → after ≡ s
  pub only : OnlyIn (gather_at m f) m work work'

-- four tables as long as those marked ₀, which are kept: records from the places that a plan leaves free on, parents behind them
pub record CanUndo (m : ℕ) (parents rows counts next work parents₀ rows₀ counts₀ next₀ : List ℕ) : Type 0 where
  pub records : CanRestore rows counts next work (saved_at m (length next)) rows₀ counts₀ next₀
  pub parents-kept : ParentsKept work (gather_at m (length next)) parents₀
  pub parents-long : length parents ≡ length parents₀

-- what a caller shows: that some tables are kept
pub record SomeUndo (m : ℕ) (parents rows counts next work : List ℕ) : Type 0 where
  pub parents₀ : List ℕ
  pub rows₀ : List ℕ
  pub counts₀ : List ℕ
  pub next₀ : List ℕ
  pub can : CanUndo m parents rows counts next work parents₀ rows₀ counts₀ next₀

-- they are back
pub record Undone (parents₀ rows₀ counts₀ next₀ parents rows counts next : List ℕ) : Type 0 where
  pub records : Restored rows₀ counts₀ next₀ rows counts next
  pub parents-are : parents ≡ parents₀
