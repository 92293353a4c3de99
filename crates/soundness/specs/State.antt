-- What is known when columns 1 to j − 1 of L were read: their chains end, and their last records are named; their rows stand in the stash, the children and
-- the book's columns that count are listed, no counter is left, and each column is the definition's. What reading one column and all columns answer.
-- Assumes nothing: these are definitions.
use Rattle.std.specs.Prelude.{◌≡◌, Bool, true, false, List, ℕ, suc, ◌+◌, ◌-◌, ◌≤◌, ◌<◌, length, take, Option, Some, None}
use Rattle.lists.specs.Lists.{at, values_at}
use Rattle.workspace.specs.Layout.{work_need, child_head, child_next, column_head, stash_start, lasts_at, names_at, row_stash, column_next}
use Rattle.workspace.specs.Regions.{cell, region, IsZero, OnlyIn}
use Rattle.symbolic.specs.Columns.{Column, live}
use Rattle.symbolic.specs.Factor.{factor_of, column_at}
use Rattle.pool.specs.Whole.{chains, AllLinked}
use Rattle.pool.specs.Ends.{lasts}
use Rattle.ends.specs.Naming.{Named}
use Rattle.book.specs.Book as book
use Rattle.windows.specs.Windowed.{register_in}
use Rattle.tables.specs.Stored.{Stored, Sized, records_of, holds_column, is_sound_for}
use Rattle.counting.specs.Counting.{ListedIn, start_at}

-- the columns that count: the live ones of the register that book and windows hold at a minute
abbrev pub live_in : Stored → book.Book → (windows : List ℕ) → (clock : ℕ) → List Column
live_in s b w t = live (register_in (length s.heads) t b w)

-- tables cut to their sizes, sizes that 32 bits hold with room, and a work table of W places
pub record TablesFit (s : Stored) (b : book.Book) (work : List ℕ) : Type 0 where
  pub stored : Sized s
  pub booked : book.Sized b
  pub some : 1 ≤ length s.heads
  pub m-bound : length s.heads ≤ 4096
  -- of ids: a loose bound above document 01's 16,384, which only keeps counts within 32 bits
  pub n-bound : length b.heads ≤ 200000
  pub f-bound : length s.next ≤ 1048576
  -- of book records: a loose bound above document 01's 262,144, likewise
  pub c-bound : length b.next ≤ 4194304
  pub long : work_need (length s.heads) (length b.heads) (length s.next) (length b.next) ≤ length work

-- the heads whose chains were walked: those of columns 1 to j - 1
abbrev pub walked : Stored → (j : ℕ) → List ℕ
walked s j = take (j - 1) s.heads

-- the chains from these heads end; met is the number of their records; the last record of each is kept, and named by its column
pub record Walked (s : Stored) (work : List ℕ) (j met : ℕ) : Type 0 where
  pub linked : AllLinked s.next (walked s j)
  pub counted : met ≡ length (chains s.next (walked s j))
  pub within : met ≤ length s.next
  pub lasts_are : region work (lasts_at (length s.heads)) (j - 1) ≡ lasts s.next (walked s j)
  pub named : Named work (lasts_at (length s.heads)) (j - 1) (names_at (length s.heads)) (length s.next)

-- the stash: where each column's rows begin, and the rows
pub record Stash (s : Stored) (work : List ℕ) (j met : ℕ) : Type 0 where
  pub here : cell work (stash_start (length s.heads)) (j - 1) ≡ met
  pub start : (c : ℕ) → 1 ≤ c → c < j →
      cell work (stash_start (length s.heads)) c ≡ cell work (stash_start (length s.heads)) (c - 1) + length (records_of s c)
  pub below : (c : ℕ) → 1 ≤ c → c < j → cell work (stash_start (length s.heads)) c ≤ met
  pub rows_are : (c : ℕ) → 1 ≤ c → c < j →
      region work (row_stash (length s.heads) (length s.next) + cell work (stash_start (length s.heads)) (c - 1)) (length (records_of s c)) ≡ values_at s.rows (records_of s c)

-- all that is known before column j is read, of the columns that count by windows and clock
pub record State (s : Stored) (b : book.Book) (windows : List ℕ) (clock : ℕ) (work : List ℕ) (j met : ℕ) : Type 0 where
  pub sizes : TablesFit s b work
  pub low : 1 ≤ j
  pub high : j ≤ suc (length s.heads)
  pub sound : book.is_sound (length s.heads) b ≡ true
  pub chains-walked : Walked s work j met
  pub zero : IsZero work 0 (length s.heads)
  pub children : ListedIn work (child_head (length s.heads)) (length s.heads) (child_next (length s.heads)) (length s.heads) (at s.parents) (j - 1)
  pub columns : ListedIn work (column_head (length s.heads)) (length s.heads) (column_next (length s.heads) (length s.next) (length b.next)) (length b.heads) (start_at b windows clock) (length b.heads)
  pub stash : Stash s work j met
  pub holds : (c : ℕ) → 1 ≤ c → c < j → holds_column s c (column_at (factor_of (length s.heads) (live_in s b windows clock)) c) ≡ true

-- that for some windows and a clock
pub record SomeState (s : Stored) (b : book.Book) (work : List ℕ) (j met : ℕ) : Type 0 where
  pub windows : List ℕ
  pub clock : ℕ
  pub state : State s b windows clock work j met

-- the work table is the same but for its first W places
abbrev pub WithinWork : Stored → book.Book → (before after : List ℕ) → Type 0
WithinWork s b w₀ w = OnlyIn 0 (work_need (length s.heads) (length b.heads) (length s.next) (length b.next)) w₀ w

-- what reading column j asks
pub record CanReadColumn (s : Stored) (b : book.Book) (work : List ℕ) (j met : ℕ) : Type 0 where
  pub some : SomeState s b work j met
  pub inside : j ≤ length s.heads

-- columns j to k - 1 read: for all windows and clocks that the state was known for, none, a cut, means that the tables are not sound
pub record ColumnsRead (s : Stored) (b : book.Book) (work₀ : List ℕ) (j met : ℕ) (work : List ℕ) (k : ℕ) (a : Option ℕ) : Type 0 where
  pub only : WithinWork s b work₀ work
  pub cut : a ≡ None → (windows : List ℕ) (clock : ℕ) → State s b windows clock work₀ j met → is_sound_for (live_in s b windows clock) s ≡ false
  pub next : (n : ℕ) → a ≡ Some n → (windows : List ℕ) (clock : ℕ) → State s b windows clock work₀ j met → State s b windows clock work k n

-- ---- before the first column

-- the book is sound, its columns that count by windows and clock are listed, and what the columns of L need is zero
pub record Prepared (s : Stored) (b : book.Book) (windows : List ℕ) (clock : ℕ) (work : List ℕ) : Type 0 where
  pub sizes : TablesFit s b work
  pub sound : book.is_sound (length s.heads) b ≡ true
  pub zero : IsZero work 0 (length s.heads)
  pub heads-zero : IsZero work (child_head (length s.heads)) (length s.heads)
  pub start-zero : cell work (stash_start (length s.heads)) 0 ≡ 0
  pub columns : ListedIn work (column_head (length s.heads)) (length s.heads) (column_next (length s.heads) (length s.next) (length b.next)) (length b.heads) (start_at b windows clock) (length b.heads)

-- that for some windows and a clock
pub record SomePrepared (s : Stored) (b : book.Book) (work : List ℕ) : Type 0 where
  pub windows : List ℕ
  pub clock : ℕ
  pub prepared : Prepared s b windows clock work

-- after all columns were read: the answer is whether the stored columns are sound for those that count, by all windows and clocks that were prepared for
pub record FactorRead (s : Stored) (b : book.Book) (work₀ work : List ℕ) (a : Bool) : Type 0 where
  pub only : WithinWork s b work₀ work
  pub answer : (windows : List ℕ) (clock : ℕ) → Prepared s b windows clock work₀ → a ≡ is_sound_for (live_in s b windows clock) s
