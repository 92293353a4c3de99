-- What the read-through of all tables asks and answers, and that of book and windows, which comes first. Assumes nothing: these are definitions.
use Rattle.std.specs.Prelude.{Bool, ◌&&◌, List, ℕ, ◌+◌, ◌*◌, ◌≤◌, length}
use Rattle.workspace.specs.Layout.{work_need, book_names}
use Rattle.workspace.specs.Regions.{IsZero, OnlyIn, cleared}
use Rattle.book.specs.Book as book
use Rattle.windows.specs.Windowed.{are_sound as windows_sound}
use Rattle.tables.specs.Stored.{Stored, Sized, is_sound_for}
use Rattle.soundness.specs.State.{live_in}

-- ---- book and windows

-- tables cut to their sizes, two minutes for each id, sizes that 32 bits hold with room, and a work table of W places
pub record CanReadBooked (b : book.Book) (windows work : List ℕ) (m f : ℕ) : Type 0 where
  pub booked : book.Sized b
  pub windows-long : 2 * length b.heads ≤ length windows
  pub m-bound : m ≤ 4096
  -- of ids: a loose bound above document 01's 16,384, which only keeps counts within 32 bits
  pub n-bound : length b.heads ≤ 200000
  pub f-bound : f ≤ 1048576
  -- of book records: a loose bound above document 01's 262,144, likewise
  pub c-bound : length b.next ≤ 4194304
  pub long : work_need m (length b.heads) f (length b.next) ≤ length work

-- book and windows are sound
abbrev pub booked_sound : (m : ℕ) → book.Book → (windows : List ℕ) → Bool
booked_sound m b w = book.is_sound m b && windows_sound b.heads w

-- the work table is the same but for the C + n places of the book
abbrev pub WithinBooked : (m f : ℕ) → book.Book → (before after : List ℕ) → Type 0
WithinBooked m f b w₀ w = OnlyIn (book_names m f) (length b.next + length b.heads) w₀ w

-- ---- all tables

-- tables cut to their sizes, two minutes for each id, sizes that 32 bits hold with room, and a work table that is ready
pub record CanReadThrough (s : Stored) (b : book.Book) (windows work : List ℕ) : Type 0 where
  pub stored : Sized s
  pub booked : book.Sized b
  pub windows-long : 2 * length b.heads ≤ length windows
  pub some : 1 ≤ length s.heads
  pub m-bound : length s.heads ≤ 4096
  -- of ids: a loose bound above document 01's 16,384, which only keeps counts within 32 bits
  pub n-bound : length b.heads ≤ 200000
  pub f-bound : length s.next ≤ 1048576
  -- of book records: a loose bound above document 01's 262,144, likewise
  pub c-bound : length b.next ≤ 4194304
  pub long : work_need (length s.heads) (length b.heads) (length s.next) (length b.next) ≤ length work
  -- counters, heads of lists, and where the rows of column 1 begin
  pub front-zero : IsZero work 0 (4 * length s.heads + 1)

-- a work table made ready, for m columns
abbrev pub made_ready : (work : List ℕ) → (m : ℕ) → List ℕ
made_ready w m = cleared w 0 (4 * m + 1)

-- what the tables hold is sound: book and windows are, and the stored columns are the definition's for the columns that count
abbrev pub are_sound : Stored → book.Book → (windows : List ℕ) → (clock : ℕ) → Bool
are_sound s b w t = booked_sound (length s.heads) b w && is_sound_for (live_in s b w t) s
