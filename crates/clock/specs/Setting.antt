-- The work table cleared of what an exchange left there. Assumes nothing: these are definitions.
use Rattle.std.specs.Prelude.{◌≡◌, Bool, List, ℕ, ◌+◌, ◌*◌, ◌≤◌, length}
use Rattle.lists.specs.Lists.{pick}
use Rattle.workspace.specs.Regions.{cleared}
use Rattle.workspace.specs.Layout.{spare, flags_at, gather_at}

-- a work table with the places of a plan, for m columns, no more than the f records
pub record CanClear (work : List ℕ) (m f : ℕ) : Type 0 where
  pub m-bound : m ≤ 4096
  pub f-bound : f ≤ 1048576
  pub room : m ≤ f
  pub long : flags_at m f + 1024 ≤ length work

-- the places of the saved copy and of the gathered columns are zero, or those of the gathered columns alone; all others are as they were
abbrev pub Cleared : (before after : List ℕ) → (m f : ℕ) → (saved : Bool) → Type 0
Cleared w v m f z = v ≡ pick z (cleared w (spare m f) (3 * f)) (cleared w (gather_at m f) m)
