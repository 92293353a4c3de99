-- The work table between two turns (Walking), and after the differences of a column became its plan (Planned). Busy are the plans so far, the marks and queues
-- of the rows to come, the flags, the differences; a walk leaves all else alone. Assumes nothing: these are definitions.
use Rattle.std.specs.Prelude.{◌≡◌, ◌⊎◌, ◌≢◌, Bool, true, List, ℕ, suc, ◌+◌, ◌-◌, ◌/◌, ◌%◌, ◌≤◌, ◌<◌, length, get_or}
use Rattle.lists.specs.Lists.{at, values_at}
use Rattle.symbolic.specs.Columns.{Column, smallest}
use Rattle.symbolic.specs.Factor.{column_at, size_of, non_zero}
use Rattle.symbolic.specs.Batch.{at_position, is_touched, size_sum_of, entries_of}
use Rattle.workspace.specs.Regions.{region, Outside, IsZero}
use Rattle.workspace.specs.Planned.{new_kind}
use Rattle.workspace.specs.Layout.{marks_at, starts_at, children_at, plan_at, spare, flag_count}
use Rattle.pool.specs.Chains.{chain, last_of, Linked}
use Rattle.columns.specs.Plan.{of_kind}
use Rattle.differences.specs.Tally.{base, Tally}
use Rattle.emission.specs.Emit as emit
use Rattle.emission.specs.declared.Emission.{Emission}
use Rattle.updown.specs.Plans.{InPlan, first_of, start_bit, label_weight}
use Rattle.updown.specs.Marks.{Room, mark_at, Flagged}
use Rattle.updown.specs.Queues.{Queues}
use Rattle.updown.specs.Turns.{larger, before, after, tree_parent, label_at, done, standing, PlansTo}
use Rattle.updown.specs.SoFar.{IsDefinition}
use Rattle.updown.specs.Walks.{Columns, Parents}

-- ---- the tables of L

-- the stored multiplicities
pub record Multiplicities (heads counts next : List ℕ) (m : ℕ) (R W : List Column) (adding : Bool) : Type 0 where
  pub long : length counts ≡ length next
  pub are : (c : ℕ) → 1 ≤ c → c ≤ m → values_at counts (chain next (at heads c)) ≡ non_zero (column_at (before adding m R W) c).counts

-- the touched columns before the batch and the free records together are no more than there are
abbrev pub Fitting : (next : List ℕ) (m : ℕ) (R W : List Column) (adding : Bool) (free : ℕ) → Type 0
Fitting next m R W adding free = (j : ℕ) → 1 ≤ j → j ≤ suc m → size_sum_of (before adding m R W) (done m R W j) + free ≤ length next

-- ---- the numbers of a walk, before the turn of j; free is the number of free records at first

-- first, last, number and entries of the done columns, and how much of plan and free records is used
pub record Numbers (next work : List ℕ) (m : ℕ) (R W : List Column) (adding : Bool) (free j first last count entries used avail : ℕ) : Type 0 where
  pub first-is : first ≡ first_of (done m R W j)
  pub last-is : last ≡ last_of 0 (done m R W j)
  pub count-is : count ≡ length (done m R W j)
  pub entries-is : entries ≡ entries_of (before adding m R W) (after adding m R W) (done m R W j)
  pub linked : Linked next avail (chain next avail)
  pub taken : of_kind new_kind (region work (plan_at m) used) + length (chain next avail) ≡ free
  pub room : used + length (chain next avail) ≤ size_sum_of (before adding m R W) (done m R W j) + free
  -- adding drops no row
  pub grown : adding ≡ true → size_sum_of (after adding m R W) (done m R W j) ≡ size_sum_of (before adding m R W) (done m R W j) + of_kind new_kind (region work (plan_at m) used)

-- ---- marks

-- the row where the batch column of a position starts, 0 for a column with no row
abbrev pub start_of : (W : List Column) (position : ℕ) → ℕ
start_of W k = smallest (at_position W k)

-- the marks of the rows from j on: where batch columns start, and the tree parents of done columns, with the largest label so far
pub record MarksHold (m : ℕ) (R W : List Column) (work : List ℕ) (j : ℕ) : Type 0 where
  pub start : (k : ℕ) → 1 ≤ k → k ≤ length W → j ≤ start_of W k → k ≤ mark_at m work (start_of W k) / label_weight
  pub bit : (k : ℕ) → 1 ≤ k → k ≤ length W → j ≤ start_of W k → mark_at m work (start_of W k) % label_weight ≡ start_bit
  pub child : (c : ℕ) → 1 ≤ c → c < j → is_touched (larger m R W) W c ≡ true → j ≤ tree_parent m R W c → label_at m R W c ≤ mark_at m work (tree_parent m R W c) / label_weight
  pub bound : (q : ℕ) → j ≤ q → q ≤ m → mark_at m work q / label_weight ≤ label_at m R W q
  pub whole : (q : ℕ) → j ≤ q → q ≤ m → mark_at m work q ≢ 0 → 4 ≤ mark_at m work q
  pub cause : (q : ℕ) → j ≤ q → q ≤ m → mark_at m work q ≢ 0 →
      ((k : ℕ) × (1 ≤ k) × (k ≤ length W) × (start_of W k ≡ q)) ⊎ ((c : ℕ) × (1 ≤ c) × (c < j) × (is_touched (larger m R W) W c ≡ true) × (tree_parent m R W c ≡ q))

-- ---- between two turns

-- a place that the walk may have written before the turn of j
pub data Busy (m flags used : ℕ) (columns : List ℕ) (j k : ℕ) : Type 0 where
  differs : k < marks_at m → Busy m flags used columns j k
  plans : InPlan m used columns k → Busy m flags used columns j k
  marks : marks_at m + (j - 1) ≤ k → k < starts_at m → Busy m flags used columns j k
  queues : children_at m + (j - 1) ≤ k → k < plan_at m → Busy m flags used columns j k
  flagged : flags ≤ k → k < flags + flag_count → Busy m flags used columns j k

-- the work table before the turn of j: plans of the done columns, marks and queues of the rows to come, no differences
pub record Walking (m flags : ℕ) (R W : List Column) (adding : Bool) (work₀ work : List ℕ) (j used : ℕ) : Type 0 where
  pub low : 1 ≤ j
  pub high : j ≤ suc m
  pub room : Room m flags work
  pub plan-room : plan_at m + used ≤ flags
  pub same_length : length work ≡ length work₀
  pub zero : IsZero work₀ 0 (plan_at m)
  pub flags-zero : IsZero work₀ flags flag_count
  pub plans : PlansTo m (before adding m R W) (after adding m R W) (label_at m R W) work (done m R W j) 0 0 used
  pub marks : MarksHold m R W work j
  pub flagged : Flagged m flags work (j - 1)
  pub queues : Queues m work j 0 (standing m R W j)
  pub tally : Tally m work 0 (λ i. base)
  pub rest : (k : ℕ) → (Busy m flags used (done m R W j) j k → ⊥) → get_or work k 0 ≡ get_or work₀ k 0

-- ---- a walk that stops since no free record is left

-- beyond the first 8 m + used places, but for the flags, the work table is as lent; f is the number of records
pub record Halted (m f flags : ℕ) (work₀ work : List ℕ) (used : ℕ) : Type 0 where
  pub plan-room : used ≤ f
  pub flags-past : spare m f ≤ flags
  pub long : flags + flag_count ≤ length work
  pub same_length : length work ≡ length work₀
  pub rest : (k : ℕ) → plan_at m + used ≤ k → Outside flags flag_count k → get_or work k 0 ≡ get_or work₀ k 0

-- ---- column j planned after D

-- its plan from before the call to after it, as emission leaves it
abbrev pub Planned : (next before-work after-work : List ℕ) (m : ℕ) (R W : List Column) (adding : Bool) (j used avail : ℕ) (e : Emission) → Type 0
Planned next w w' m R W z j used avail e = emit.Emitted next w m j used avail (column_at (before z m R W) j).counts (column_at (after z m R W) j).counts w' e

-- what a caller shows: tables that hold the factor, the definition's multiplicities of column j and room for its plan, for some R and W
pub record SomePlanned (heads rows counts next work : List ℕ) (m n j used avail : ℕ) : Type 0 where
  pub R : List Column
  pub W : List Column
  pub adding : Bool
  pub columns : Columns heads rows next m R W adding
  pub multiplicities : Multiplicities heads counts next m R W adding
  pub low : 1 ≤ j
  pub high : j ≤ m
  pub definition : IsDefinition m R W adding work n j
  pub linked : Linked next avail (chain next avail)
  pub room : used + size_of (column_at (before adding m R W) j) + length (chain next avail) ≤ length next
  pub long : plan_at m + length next ≤ length work

-- ---- the tables and numbers of a walk

-- what the tables hold, all that a walk asks of them
pub record Setting (heads parents rows counts next : List ℕ) (m flags : ℕ) (R W : List Column) (adding : Bool) (free : ℕ) : Type 0 where
  pub columns : Columns heads rows next m R W adding
  pub parents-hold : Parents parents m R W adding
  pub multiplicities : Multiplicities heads counts next m R W adding
  pub fitting : Fitting next m R W adding free
  pub fit : plan_at m + length next ≤ flags
  pub records : length next ≤ 1048576
  pub positions : length W ≤ 64
  pub starts : (k : ℕ) → 1 ≤ k → k ≤ length W → start_of W k ≤ m

-- between two turns, with the numbers
pub record Between (next work₀ work : List ℕ) (m flags : ℕ) (R W : List Column) (adding : Bool) (free j first last count entries used avail : ℕ) : Type 0 where
  pub walking : Walking m flags R W adding work₀ work j used
  pub numbers : Numbers next work m R W adding free j first last count entries used avail
