-- Rows gathered in the buffer, rising: those that pass a test p. What a gathering needs of the work table, of the part of a plan and of the chain that it
-- reads. Assumes nothing: these are definitions.
use Rattle.std.specs.Prelude.{◌≡◌, Bool, true, false, ◌&&◌, List, [], ◌∷◌, ◌++◌, ℕ, ◌+◌, ◌-◌, ◌≤◌, ◌<◌, ltb, eqb, length}
use Rattle.lists.specs.Lists.{pick, among, rises, values_at}
use Rattle.workspace.specs.Layout.{buffer_at, marks_at, plan_at}
use Rattle.workspace.specs.Regions.{cell, region, IsZero, OnlyIn}
use Rattle.workspace.specs.Planned.{row_of, kind_of, new_kind, gone_kind}
use Rattle.pool.specs.Chains.{chain, Linked}

-- ---- plans

-- the rows of a plan's entries
unfoldable pub rows_in : (plan : List ℕ) → List ℕ
rows_in [] = []
rows_in (e ∷ es) = row_of e ∷ rows_in es

-- the rows of a plan's entries of one kind
unfoldable pub rows_of_kind : (kind : ℕ) → (plan : List ℕ) → List ℕ
rows_of_kind k [] = []
rows_of_kind k (e ∷ es) = pick (eqb (kind_of e) k) (row_of e ∷ rows_of_kind k es) (rows_of_kind k es)

-- the planned entries from one place of the plan region up to another
abbrev pub plan_part : (m : ℕ) → (work : List ℕ) → (from to : ℕ) → List ℕ
plan_part m w a e = region w (plan_at m + a) (e - a)

-- ---- what a gathering needs

-- an empty buffer
pub record CanGather (m : ℕ) (work : List ℕ) : Type 0 where
  pub long : marks_at m ≤ length work
  pub empty : IsZero work (buffer_at m) m

-- a part of the plan region, with rising rows of 1 to m
pub record PlanRises (m : ℕ) (work : List ℕ) (from to : ℕ) : Type 0 where
  pub order : from ≤ to
  pub long : plan_at m + to ≤ length work
  pub rising : rises 1 m (rows_in (plan_part m work from to)) ≡ true

-- the records from one on, with rising rows of 1 to m
pub record ChainRises (m : ℕ) (rows next : List ℕ) (from : ℕ) : Type 0 where
  pub linked : Linked next from (chain next from)
  pub rows_long : length rows ≡ length next
  pub rising : rises 1 m (values_at rows (chain next from)) ≡ true

-- a column and its plan, and no new row of the plan is in the column
pub record CanGrow (m : ℕ) (rows next work : List ℕ) (r from to : ℕ) : Type 0 where
  pub table : CanGather m work
  pub column : ChainRises m rows next r
  pub plan : PlanRises m work from to
  pub apart : (i : ℕ) → among i (values_at rows (chain next r)) ≡ true → among i (rows_of_kind new_kind (plan_part m work from to)) ≡ false

-- ---- what it leaves

-- the first k places of the buffer hold rising rows of 1 to m, the rest of it is zero
pub record Buffered (m : ℕ) (work : List ℕ) (k : ℕ) : Type 0 where
  pub within : k ≤ m
  pub rising : rises 1 m (region work (buffer_at m) k) ≡ true
  pub rest : IsZero work (buffer_at m + k) (m - k)

-- the buffer holds the rows that pass p, and nothing else changed
pub record Gathered (m : ℕ) (before after : List ℕ) (k : ℕ) (p : ℕ → Bool) : Type 0 where
  pub only : OnlyIn (buffer_at m) m before after
  pub buffered : Buffered m after k
  pub rows : (i : ℕ) → among i (region after (buffer_at m) k) ≡ p i

-- ---- one step of a gathering, over plain lists: k rows gs stand in the buffer, the rest of it is zero, and nothing else changed

-- the buffer holds the k rows gs and then zeros, and the rest of the work table is as before
pub record Gathering (m : ℕ) (before after : List ℕ) (k : ℕ) (gs : List ℕ) : Type 0 where
  pub only : OnlyIn (buffer_at m) m before after
  pub size : length gs ≡ k
  pub rows : region after (buffer_at m) k ≡ gs
  pub rest : IsZero after (buffer_at m + k) (m - k)

-- ---- a part of the plan passed up to a bound

-- a part of the plan region, within the work table
pub record CanPass (m : ℕ) (work : List ℕ) (from to : ℕ) : Type 0 where
  pub order : from ≤ to
  pub long : plan_at m + to ≤ length work

-- it is passed up to the first entry at or above the bound
pub record Passed (m : ℕ) (work : List ℕ) (from to bound stop : ℕ) : Type 0 where
  pub low : from ≤ stop
  pub high : stop ≤ to
  pub below : (i : ℕ) → among i (rows_in (plan_part m work from stop)) ≡ true → i < bound
  pub above : stop < to → bound ≤ row_of (cell work (plan_at m) stop)

-- the entry at a place of the plan, before its end, is that a row is gone
abbrev pub gone_at : (m : ℕ) → (work : List ℕ) → (place to row : ℕ) → Bool
gone_at m w a e i = ltb a e && eqb (row_of (cell w (plan_at m) a)) i && eqb (kind_of (cell w (plan_at m) a)) gone_kind

-- rows of one kind can be gathered from a part of the plan, after k others
pub record CanReach (m : ℕ) (work : List ℕ) (k from to kind : ℕ) : Type 0 where
  pub pass : CanPass m work from to
  pub long : marks_at m ≤ length work
  pub rest : IsZero work (buffer_at m + k) (m - k)
  pub room : k + length (rows_of_kind kind (plan_part m work from to)) ≤ m

-- the rows of that kind are gathered, up to a bound
pub record Reached (m : ℕ) (before after : List ℕ) (k from to kind bound k' stop : ℕ) : Type 0 where
  pub passed : Passed m before from to bound stop
  pub gathering : Gathering m before after k' (region before (buffer_at m) k ++ rows_of_kind kind (plan_part m before from stop))
