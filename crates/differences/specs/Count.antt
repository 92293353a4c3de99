-- The gathered rows counted into the differences, up or down, in two steps: the differences change and the rows that were not touched before stay in the
-- buffer (Bumped); these are merged into the list and the buffer is zero again (Merged). Assumes nothing: these are definitions.
use Rattle.std.specs.Prelude.{◌≡◌, Bool, true, false, not, List, ℕ, ◌+◌, ◌-◌, ◌*◌, ◌≤◌, ◌<◌, eqb, length}
use Rattle.lists.specs.Lists.{one, among, times, at, rises}
use Rattle.workspace.specs.Layout.{buffer_at, marks_at}
use Rattle.workspace.specs.Regions.{cell, region, IsZero, OnlyIn}
use Rattle.differences.specs.Tally.{difference_at, Touched, Tally, counted}
use Rattle.differences.specs.Gather.{Buffered}

-- k rows stand in the buffer, and no place of theirs can come to 0 or leave 31 bits
pub record CanCount (m : ℕ) (work : List ℕ) (n k : ℕ) : Type 0 where
  pub touched : Touched m work n
  pub buffered : Buffered m work k
  pub ranges : (i : ℕ) → among i (region work (buffer_at m) k) ≡ true → (2 ≤ difference_at work i) × (difference_at work i < 2147483647)

-- they are counted: the list holds n touched rows, the buffer is empty
pub record Counted (m : ℕ) (before : List ℕ) (k : ℕ) (up : Bool) (after : List ℕ) (n : ℕ) : Type 0 where
  pub tally : Tally m after n (difference_at after)
  pub counted-rows : counted up (difference_at before) (difference_at after) m (λ i. among i (region before (buffer_at m) k))
  pub only : OnlyIn 0 (marks_at m) before after

-- ---- the first step

-- a shifted difference counted up or down
abbrev pub bumped_to : (up : Bool) → ℕ → ℕ
bumped_to true d = d + 1
bumped_to false d = d - 1

-- the differences are counted, the list is as before, and the buffer holds just the f touched rows that are not listed
pub record Bumped (m : ℕ) (before : List ℕ) (n k : ℕ) (up : Bool) (after : List ℕ) (f : ℕ) : Type 0 where
  pub only : OnlyIn 0 (marks_at m) before after
  pub counted-rows : counted up (difference_at before) (difference_at after) m (λ i. among i (region before (buffer_at m) k))
  pub list : (i : ℕ) → i < m → cell after m i ≡ cell before m i
  pub buffered : Buffered m after f
  pub fresh : (i : ℕ) → 1 ≤ i → i ≤ m → times i (region before m n) + times i (region after (buffer_at m) f) ≡ one (not (eqb (at after i) 0))

-- ---- the second

-- n rows in the list and f other rows in the buffer, both rising, with room for all
pub record CanMerge (m : ℕ) (work : List ℕ) (n f : ℕ) : Type 0 where
  pub long : marks_at m ≤ length work
  pub within : n + f ≤ m
  pub rising : rises 1 m (region work m n) ≡ true
  pub rest : IsZero work (m + n) (m - n)
  pub buffered : Buffered m work f
  pub apart : (i : ℕ) → times i (region work m n) + times i (region work (buffer_at m) f) ≤ 1

-- all are in the list, rising, and the buffer is empty
pub record Merged (m : ℕ) (before : List ℕ) (n f : ℕ) (after : List ℕ) : Type 0 where
  pub only : OnlyIn m (2 * m) before after
  pub rising : rises 1 m (region after m (n + f)) ≡ true
  pub members : (i : ℕ) → times i (region after m (n + f)) ≡ times i (region before m n) + times i (region before (buffer_at m) f)
  pub rest : IsZero after (m + (n + f)) (m - (n + f))
  pub buffer : IsZero after (buffer_at m) m
