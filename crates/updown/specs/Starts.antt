-- Where the batch's columns start: marked before the walk, and counted at their row (A); and what the two walks ask and promise, and their end. For listed
-- columns and for booked ones. Assumes nothing: these are definitions.
use Rattle.std.specs.Prelude.{◌≡◌, ◌≢◌, Bool, true, false, List, ℕ, suc, ◌+◌, ◌*◌, ◌/◌, ◌%◌, ◌≤◌, ◌<◌, length, get_or}
use Rattle.lists.specs.Lists.{at, pick, all}
use Rattle.symbolic.specs.Columns.{Column, fits_rows}
use Rattle.workspace.specs.Regions.{Outside, IsZero, OnlyIn, cleared}
use Rattle.updown.specs.Plans.{start_bit, label_weight}
use Rattle.workspace.specs.Layout.{marks_at, plan_at, flag_count}
use Rattle.book.specs.Book as book
use Rattle.updown.specs.Entries.{Listed, BookedFrom}
use Rattle.updown.specs.Marks.{Room, mark_at, Flagged}
use Rattle.updown.specs.Turns.{larger, smaller}
use Rattle.updown.specs.SoFar.{nobody, SoFar}
use Rattle.symbolic.specs.Factor.{size_sum}
use Rattle.pool.specs.Chains.{chain, Linked}
use Rattle.updown.specs.States.{start_of, Setting, Walking, Between, Halted}

-- ---- marked

-- the starts of the first positions are marked, each with the largest position there, and nothing else; a column with no row has none
pub record StartsTo (m flags : ℕ) (W : List Column) (before after : List ℕ) (positions : ℕ) : Type 0 where
  pub same_length : length after ≡ length before
  pub start : (k : ℕ) → 1 ≤ k → k ≤ positions → 1 ≤ start_of W k → k ≤ mark_at m after (start_of W k) / label_weight
  pub bit : (k : ℕ) → 1 ≤ k → k ≤ positions → 1 ≤ start_of W k → mark_at m after (start_of W k) % label_weight ≡ start_bit
  pub cause : (q : ℕ) → 1 ≤ q → q ≤ m → mark_at m after q ≢ 0 → (k : ℕ) × (1 ≤ k) × (k ≤ positions) × (start_of W k ≡ q) × (mark_at m after q ≡ label_weight * k + start_bit)
  pub flagged : Flagged m flags after 0
  pub rest : (x : ℕ) → Outside (marks_at m) m x → Outside flags flag_count x → get_or after x 0 ≡ get_or before x 0

-- where a batch's columns start, by position, and a table without marks
pub record CanMark (starts : List ℕ) (m flags : ℕ) (work : List ℕ) (W : List Column) : Type 0 where
  pub size : length W ≡ length starts
  pub starts-are : (k : ℕ) → 1 ≤ k → k ≤ length W → at starts k ≡ start_of W k
  pub fits : all (fits_rows m) W ≡ true
  pub few : length W ≤ 64
  pub room : Room m flags work
  pub bare : IsZero work (marks_at m) m

-- what a caller shows: that the starts can be marked, for some batch
pub record SomeMark (starts : List ℕ) (m flags : ℕ) (work : List ℕ) : Type 0 where
  pub W : List Column
  pub can : CanMark starts m flags work W

-- ---- counted

-- A at column j: no batch column is handled
pub record CanStart (m : ℕ) (R W : List Column) (adding : Bool) (work : List ℕ) (j : ℕ) : Type 0 where
  pub low : 1 ≤ j
  pub high : j ≤ m
  pub narrow : m ≤ 4096
  -- a loose bound above document 01's, as in Entries.antt
  pub few : length R + length W ≤ 60000
  pub fits : all (fits_rows m) W ≡ true
  pub so_far : SoFar m R W adding work 0 j 0 nobody

-- all batch columns are handled, and nothing but the differences changed
pub record Started (m : ℕ) (R W : List Column) (adding : Bool) (before after : List ℕ) (n j : ℕ) : Type 0 where
  pub so_far : SoFar m R W adding after n j (length W) nobody
  pub only : OnlyIn 0 (marks_at m) before after

-- what a caller shows: that listed columns that start at j can be counted, for some R and W
pub record SomeStart (starts counts list : List ℕ) (m : ℕ) (work : List ℕ) (j : ℕ) : Type 0 where
  pub R : List Column
  pub W : List Column
  pub listed : Listed starts counts list W
  pub can : CanStart m R W true work j

-- ---- booked columns: a sound book that has them

-- a sound book that has the batch's columns under the ids
pub record BookHolds (heads rows next starts ids : List ℕ) (m : ℕ) (W : List Column) : Type 0 where
  pub booked : BookedFrom (book.tables_of heads rows next) starts ids W
  pub sized : length rows ≡ length next
  pub free : ℕ
  pub sound : book.is_sound m (book.book_of heads rows next free) ≡ true
  pub fits : all (fits_rows m) W ≡ true

-- what a caller shows: that booked columns that start at j can be counted, for some R and W
pub record SomeStartBooked (heads rows next starts ids : List ℕ) (m : ℕ) (work : List ℕ) (j : ℕ) (adding : Bool) : Type 0 where
  pub R : List Column
  pub W : List Column
  pub holds : BookHolds heads rows next starts ids m W
  pub can : CanStart m R W adding work j

-- ---- a walk, of columns that enter or leave

-- tables that hold the factor before the batch, free records for the walk, all there are when adding, and a work table where the batch's starts are marked and no
-- turn has begun
pub record CanWalk (heads parents rows counts next work₀ work : List ℕ) (m flags free : ℕ) (R W : List Column) (adding : Bool) : Type 0 where
  pub setting : Setting heads parents rows counts next m flags R W adding (length (chain next free))
  pub walking : Walking m flags R W adding work₀ work 1 0
  pub linked : Linked next free (chain next free)
  pub size : adding ≡ true → size_sum (smaller m R) + length (chain next free) ≡ length next

-- all columns have free records, or the walk stopped at one that has not: it was adding, and the sizes exceed the records
pub record Walked (next work₀ work : List ℕ) (m flags free : ℕ) (R W : List Column) (adding fits : Bool) (first last count entries used avail : ℕ) : Type 0 where
  pub made : fits ≡ true → Between next work₀ work m flags R W adding free (suc m) first last count entries used avail
  pub halted : fits ≡ false → (adding ≡ true) × Halted m (length next) flags work₀ work used × (length next < size_sum (larger m R W))

-- listed columns that enter
pub record CanWalkListed (heads parents rows counts next work₀ work starts row_counts row_list : List ℕ) (m flags free : ℕ) (R W : List Column) : Type 0 where
  pub walk : CanWalk heads parents rows counts next work₀ work m flags free R W true
  pub listed : Listed starts row_counts row_list W
  pub fits : all (fits_rows m) W ≡ true

-- what a caller shows: that the walk can go, for some R and W
pub record SomeWalkListed (heads parents rows counts next work starts row_counts row_list : List ℕ) (m flags free : ℕ) : Type 0 where
  pub R : List Column
  pub W : List Column
  pub work₀ : List ℕ
  pub can : CanWalkListed heads parents rows counts next work₀ work starts row_counts row_list m flags free R W

-- booked columns that enter or leave
pub record CanWalkBooked (heads parents rows counts next book-heads book-rows book-next work₀ work starts ids : List ℕ) (m flags free : ℕ) (R W : List Column) (adding : Bool) : Type 0 where
  pub walk : CanWalk heads parents rows counts next work₀ work m flags free R W adding
  pub holds : BookHolds book-heads book-rows book-next starts ids m W

-- what a caller shows: that the walk can go, for some R and W
pub record SomeWalkBooked (heads parents rows counts next book-heads book-rows book-next work starts ids : List ℕ) (m flags free : ℕ) (adding : Bool) : Type 0 where
  pub R : List Column
  pub W : List Column
  pub work₀ : List ℕ
  pub can : CanWalkBooked heads parents rows counts next book-heads book-rows book-next work₀ work starts ids m flags free R W adding

-- ---- its end

-- the flags, and before them what a walk wrote
pub record CanEnd (m flags : ℕ) (work : List ℕ) (used : ℕ) : Type 0 where
  pub room : Room m flags work
  pub plan-room : plan_at m + used ≤ flags
  pub small : used ≤ 1048576

-- the flags are cleared, and where the walk stopped all else that it wrote; where it did not, its numbers are the plan's
pub record Ended (m flags : ℕ) (before after : List ℕ) (fits : Bool) (first count entries used : ℕ) (fits' : Bool) (first' count' entries' used' : ℕ) : Type 0 where
  pub table : after ≡ pick fits (cleared before flags flag_count) (cleared (cleared before flags flag_count) 0 (plan_at m + used))
  pub fits-is : fits' ≡ fits
  pub numbers : fits ≡ true → (first' ≡ first) × (count' ≡ count) × (entries' ≡ entries) × (used' ≡ used)
