-- What B, C and D ask and promise: the tables hold the factor before the batch; the state of the work table in the turn of column j, with some children
-- handled; a promise holds for all columns R and W that the tables suit. Assumes nothing: these are definitions.
use Rattle.std.specs.Prelude.{◌≡◌, ◌≢◌, Bool, List, ℕ, ◌+◌, ◌-◌, ◌*◌, ◌≤◌, length, get_or}
use Rattle.lists.specs.Lists.{at, values_at}
use Rattle.symbolic.specs.Columns.{Column}
use Rattle.symbolic.specs.Factor.{column_at, parent_of, pattern_from}
use Rattle.workspace.specs.Regions.{cell, Outside, OnlyIn}
use Rattle.workspace.specs.Layout.{marks_at, starts_at, children_at, lost_at, plan_at}
use Rattle.pool.specs.Chains.{chain, Linked}
use Rattle.updown.specs.Queues.{Queues}
use Rattle.updown.specs.Turns.{before, after, label_at, done, waiting, PlansTo}
use Rattle.updown.specs.SoFar.{nobody, also, children, family, SoFar, IsDefinition}

-- ---- the tables

-- the chain of column c, which holds its rows before the batch
pub record ChainOf (heads rows next : List ℕ) (m c : ℕ) (old : List ℕ) : Type 0 where
  pub heads-long : length heads ≡ m
  pub rows_long : length rows ≡ length next
  pub linked : Linked next (at heads c) (chain next (at heads c))
  pub rows_are : values_at rows (chain next (at heads c)) ≡ pattern_from 1 old

-- the chains hold the rows of the factor before the batch, and rows and columns are few enough
pub record Columns (heads rows next : List ℕ) (m : ℕ) (R W : List Column) (adding : Bool) : Type 0 where
  pub narrow : m ≤ 4096
  -- a loose bound above document 01's, as in Entries.antt
  pub few : length R + length W ≤ 60000
  pub chains : (c : ℕ) → 1 ≤ c → c ≤ m → ChainOf heads rows next m c (column_at (before adding m R W) c).counts

-- the parents are those of the factor before the batch
pub record Parents (parents : List ℕ) (m : ℕ) (R W : List Column) (adding : Bool) : Type 0 where
  pub long : length parents ≡ m
  pub are : (c : ℕ) → 1 ≤ c → c ≤ m → at parents c ≡ parent_of (before adding m R W) c

-- ---- the turn of j: the plans of the columns before it, the queues but for the one that is emptied, the multiplicities so far

-- in the turn of j, after A: some children are handled, n rows are touched
pub record Turn (m : ℕ) (R W : List Column) (adding : Bool) (work : List ℕ) (j used n except : ℕ) (handled : ℕ → Bool) : Type 0 where
  pub low : 1 ≤ j
  pub high : j ≤ m
  pub long : plan_at m + used ≤ length work
  pub plans : PlansTo m (before adding m R W) (after adding m R W) (label_at m R W) work (done m R W j) 0 j used
  pub starts : cell work (starts_at m) (j - 1) ≡ used
  pub queues : Queues m work j except (waiting m R W j handled)
  pub so_far : SoFar m R W adding work n j (length W) handled

-- what B, C and D leave: all but the differences, the queues of other parents and the links, and the head of j's own queue
abbrev pub Still : (m j : ℕ) (before after : List ℕ) → Type 0
Still m j w w' = (k : ℕ) → marks_at m ≤ k → Outside (lost_at m) (2 * m) k → k ≢ children_at m + (j - 1) → get_or w' k 0 ≡ get_or w k 0

-- the turn of j goes on, with other children handled
pub record TurnTo (m : ℕ) (R W : List Column) (adding : Bool) (before after : List ℕ) (j used n : ℕ) (handled : ℕ → Bool) : Type 0 where
  pub turn : Turn m R W adding after j used n 0 handled
  pub same_length : length after ≡ length before
  pub still : Still m j before after

-- what a caller shows before B and C: tables that hold the factor and the turn of j, for some R and W
pub record SomeTurn (heads parents rows next work : List ℕ) (m j n : ℕ) (adding : Bool) : Type 0 where
  pub R : List Column
  pub W : List Column
  pub used : ℕ
  pub columns : Columns heads rows next m R W adding
  pub parents-hold : Parents parents m R W adding
  pub turn : Turn m R W adding work j used n 0 nobody

-- what a caller shows before D: the same with the children handled; parents are not read
pub record SomeTurnD (heads rows next work : List ℕ) (m j n : ℕ) (adding : Bool) : Type 0 where
  pub R : List Column
  pub W : List Column
  pub used : ℕ
  pub columns : Columns heads rows next m R W adding
  pub turn : Turn m R W adding work j used n 0 (children m R W j)

-- D is done: all children are handled, and the multiplicities so far are the definition's
pub record TurnDone (m : ℕ) (R W : List Column) (adding : Bool) (before after : List ℕ) (j used n : ℕ) : Type 0 where
  pub goes : TurnTo m R W adding before after j used n (family m R W j)
  pub definition : IsDefinition m R W adding after n j

-- ---- one child of j

-- child c waits in a queue; the contracts take one of j's, so that c is not handled: j for its children in the tree, m + j for the lost ones
pub record AtChild (work : List ℕ) (m : ℕ) (R W : List Column) (adding : Bool) (j used n queue c : ℕ) (handled : ℕ → Bool) : Type 0 where
  pub narrow : m ≤ 4096
  -- a loose bound above document 01's, as in Entries.antt
  pub few : length R + length W ≤ 60000
  pub turn : Turn m R W adding work j used n queue handled
  pub low : 1 ≤ c
  pub high : c ≤ m
  pub waits : waiting m R W j handled c ≡ queue

-- child c is handled too, and nothing but the differences changed
pub record Handled (m : ℕ) (R W : List Column) (adding : Bool) (before after : List ℕ) (n j c : ℕ) (handled : ℕ → Bool) : Type 0 where
  pub so_far : SoFar m R W adding after n j (length W) (also handled c)
  pub only : OnlyIn 0 (marks_at m) before after

-- what a caller shows before B: c waits among the children of some column j, for some R and W
pub record SomeWaiting (work : List ℕ) (m n c : ℕ) (adding : Bool) : Type 0 where
  pub R : List Column
  pub W : List Column
  pub j : ℕ
  pub used : ℕ
  pub handled : ℕ → Bool
  pub here : AtChild work m R W adding j used n j c handled

-- before C, with the queue of children of j, and before D, with that of lost ones: the same, and tables that hold the factor's columns
pub record SomeChild (heads rows next work : List ℕ) (m n c : ℕ) (adding : Bool) (queue : ℕ → ℕ) : Type 0 where
  pub R : List Column
  pub W : List Column
  pub j : ℕ
  pub used : ℕ
  pub handled : ℕ → Bool
  pub columns : Columns heads rows next m R W adding
  pub here : AtChild work m R W adding j used n (queue j) c handled
