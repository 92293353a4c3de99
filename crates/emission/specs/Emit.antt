-- The plan of one column from its differences. The column's chain holds the old multiplicities, the differences say the new ones; emitting writes the plan
-- for just the rows that change, counts the column before and after and finds its parent after, and clears the differences. Assumes nothing: these are definitions.
use Rattle.std.specs.Prelude.{◌≡◌, true, List, ◌++◌, ℕ, ◌+◌, ◌-◌, ◌≤◌, ◌<◌, max, leb, length, get_or}
use Rattle.lists.specs.Lists.{at, values_at}
use Rattle.workspace.specs.Layout.{marks_at, plan_at}
use Rattle.symbolic.specs.Factor.{pattern_from, non_zero, first_above}
use Rattle.workspace.specs.Planned.{new_kind}
use Rattle.workspace.specs.Regions.{Outside}
use Rattle.pool.specs.Chains.{chain, Linked}
use Rattle.columns.specs.Plan.{planned, Suits, of_kind}
use Rattle.differences.specs.Tally.{base, difference_at, Tally}
use Rattle.differences.specs.Gather.{plan_part}
use Rattle.emission.specs.Plans.{plan_from}
use Rattle.emission.specs.declared.Emission.{Emission}

-- the chain from head holds the multiplicities old of rows 1 to m, and the n touched rows of the table make them new; both are zero below row j; the plan
-- region has room from place used on for an entry of each record and each free record
pub record CanEmit (rows counts next work : List ℕ) (m n j head used avail : ℕ) (old new : List ℕ) : Type 0 where
  pub tally : Tally m work n (difference_at work)
  pub narrow : m ≤ 4096
  pub rows_long : length rows ≡ length next
  pub counts-long : length counts ≡ length next
  pub linked : Linked next head (chain next head)
  pub free : Linked next avail (chain next avail)
  pub old-long : length old ≡ m
  pub new-long : length new ≡ m
  pub old-rows : values_at rows (chain next head) ≡ pattern_from 1 old
  pub old-counts : values_at counts (chain next head) ≡ non_zero old
  pub moved : (i : ℕ) → 1 ≤ i → i ≤ m → at new i + base ≡ at old i + difference_at work i
  pub below : (i : ℕ) → 1 ≤ i → i < j → (at old i ≡ 0) × (at new i ≡ 0)
  pub small : (i : ℕ) → at new i < 65536
  pub room : used + length (pattern_from 1 old) + length (chain next avail) ≤ length next
  pub plan-long : plan_at m + length next ≤ length work

-- the same for some multiplicities: what a call needs
pub record Ready (rows counts next work : List ℕ) (m n j head used avail : ℕ) : Type 0 where
  pub old : List ℕ
  pub new : List ℕ
  pub can : CanEmit rows counts next work m n j head used avail old new

-- the plan: just what changes, with as many free records taken as there are new rows
pub record Plan (next : List ℕ) (m j used avail : ℕ) (old new after : List ℕ) (e : Emission) : Type 0 where
  pub entries : plan_part m after used e.used ≡ plan_from 1 old new
  pub suits : Suits old j (plan_part m after used e.used)
  pub becomes : planned old (plan_part m after used e.used) ≡ new
  pub larger : e.larger ≡ max (length (pattern_from 1 old)) (length (pattern_from 1 new))
  pub parent : e.parent.0 ≡ first_above j 1 new
  pub taken : List ℕ
  pub free-parts : chain next avail ≡ taken ++ chain next e.avail.0
  pub taken-size : length taken ≡ of_kind new_kind (plan_part m after used e.used)
  pub free : Linked next e.avail.0 (chain next e.avail.0)

-- the differences are cleared, only they and the plan's places changed, and the plan fits exactly if there are free records for all new rows
pub record Emitted (next work : List ℕ) (m j used avail : ℕ) (old new after : List ℕ) (e : Emission) : Type 0 where
  pub tally : Tally m after 0 (λ i. base)
  pub used_low : used ≤ e.used
  pub used_high : e.used ≤ length next
  pub same_length : length after ≡ length work
  pub frame : (k : ℕ) → Outside 0 (marks_at m) k → Outside (plan_at m + used) (e.used - used) k → get_or after k 0 ≡ get_or work k 0
  pub fits : e.fits ≡ leb (of_kind new_kind (plan_from 1 old new)) (length (chain next avail))
  pub plan : e.fits ≡ true → Plan next m j used avail old new after e

-- for whatever multiplicities the call was ready
abbrev pub Emits : (rows counts next work : List ℕ) → (m n j head used avail : ℕ) → (after : List ℕ) → Emission → Type 0
Emits rows counts next work m n j head used avail after e =
    (old new : List ℕ) → CanEmit rows counts next work m n j head used avail old new → Emitted next work m j used avail old new after e
