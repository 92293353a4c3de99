-- Writing a plan to the stored columns: what it asks and what it leaves. From the factor of columns cs to that of columns ds. Assumes nothing: these are
-- definitions. Its two passes: specs/Passes.antt. The report of the plan: specs/Report.antt.
use Rattle.std.specs.Prelude.{◌≡◌, true, false, List, ℕ, ◌≤◌, length}
use Rattle.lists.specs.Lists.{among, rises}
use Rattle.symbolic.specs.Columns.{Column}
use Rattle.symbolic.specs.Factor.{factor_of, column_at}
use Rattle.workspace.specs.Regions.{IsZero}
use Rattle.workspace.specs.Layout.{spare}
use Rattle.pool.specs.Chains.{chain}
use Rattle.tables.specs.Stored.{Stored, Sized, is_sound_for}
use Rattle.tables.specs.Stays.{ColumnStays, EntriesKeep}
use Rattle.updown.specs.Plans.{PlanIs}
use Rattle.updown.specs.Entries.{plan_need}

-- stored columns that are sound for cs, a plan in the work table that leads to ds, and free records enough
pub record CanWrite (s : Stored) (cs ds : List Column) (label : ℕ → ℕ) (columns before work : List ℕ) (first count entries used : ℕ) : Type 0 where
  pub sized : Sized s
  pub sound : is_sound_for cs s ≡ true
  pub m-bound : length s.heads ≤ 4096
  -- free records that the plan may take
  pub free : ℕ
  pub free-enough : free ≤ length (chain s.next s.free)
  pub plan : PlanIs (length s.heads) (length s.next) free (factor_of (length s.heads) cs) (factor_of (length s.heads) ds) label columns before work first count entries used
  -- the regions that planning uses, before it
  pub zero : IsZero before 0 (spare (length s.heads) (length s.next))
  pub long : plan_need (length s.heads) (length s.next) ≤ length before
  pub rising : rises 1 (length s.heads) columns ≡ true
  pub off : (j : ℕ) → 1 ≤ j → j ≤ length s.heads → among j columns ≡ false →
      column_at (factor_of (length s.heads) cs) j ≡ column_at (factor_of (length s.heads) ds) j

-- what a caller shows: that it can write from some columns to some others
pub record SomeWrite (s : Stored) (work : List ℕ) (first used : ℕ) : Type 0 where
  pub cs : List Column
  pub ds : List Column
  pub label : ℕ → ℕ
  pub columns : List ℕ
  pub before : List ℕ
  pub count : ℕ
  pub entries : ℕ
  pub can : CanWrite s cs ds label columns before work first count entries used

-- sound for ds; heads stay; columns that are not planned stay whole; entries that stay keep their record; the work table is as it was before the plan
pub record PlanWritten (s : Stored) (ds : List Column) (columns before : List ℕ) (after : Stored) (work : List ℕ) : Type 0 where
  pub sized : Sized after
  pub heads : after.heads ≡ s.heads
  pub sound : is_sound_for ds after ≡ true
  pub others : (j : ℕ) → 1 ≤ j → j ≤ length s.heads → among j columns ≡ false → ColumnStays s after j
  pub keep : (j : ℕ) → 1 ≤ j → j ≤ length s.heads → EntriesKeep s after j
  pub work-is : work ≡ before

-- for all columns that it can write from and to
abbrev pub WrittenAll : (s : Stored) (work : List ℕ) (first used : ℕ) (after : Stored) (work' : List ℕ) → Type 0
WrittenAll s w first used t w' =
    (cs ds : List Column) (label : ℕ → ℕ) (columns before : List ℕ) (count entries : ℕ) →
    CanWrite s cs ds label columns before w first count entries used → PlanWritten s ds columns before t w'
