-- A column of a batch that is inside its window counts its rows and starts at the smallest, one outside counts none and starts nowhere (`inside-rows`,
-- `inside-start`); a batch of 1 to 64 columns whose rows fit can be planned (`plan-can`). Assumes nothing.
use mathlib.Core.Path.{◌≡◌, refl}
use mathlib.Core.Bool.{Bool, true, false}
use mathlib.Core.List.{List, []}
use Prim.Native.Nat.{ℕ, ◌≤◌}
use native.Mathlib.Omega.{arith}
use lib.Dec.{eqb}
use lib.ListN.{length, get_or}
use Rattle.lists.specs.Lists.{pick, all, rises}
use Rattle.symbolic.specs.Columns.{Column, fits_rows, Register, live}
use Rattle.symbolic.specs.Grades.{Limits}
use Rattle.symbolic.proofs.Live.{live-length}
use Rattle.tables.specs.Tables.{Tables}
use Rattle.calls.specs.Steps.{booked_in}
use Rattle.updown.specs.Entries.{CanPlan}
use Rattle.updown.proofs.Filled.{whole-rows}
use Rattle.steps.specs.Outcome.{cut_world, stored_whole, CanFind}
use Rattle.steps.proofs.Cut.{sizes-are, stored-sized, stored-sound, columns-few, work-long, work-zero, flags-zero}

-- ---- one column, inside its window or not

pub inside-rows : (m : ℕ) (xs : List ℕ) (z : Bool) → rises 1 m xs ≡ true → pick z xs [] ≡ pick (eqb (pick z (get_or xs 0 0) 0) 0) [] xs
inside-rows m xs true h = whole-rows m xs h
inside-rows m xs false h = refl

pub inside-start : (xs : List ℕ) (z : Bool) → get_or (pick z xs []) 0 0 ≡ pick z (get_or xs 0 0) 0
inside-start xs true = refl
inside-start xs false = refl

-- ---- the batch

module _ {t : Tables} {lim : Limits} {o f g : ℕ} {w : List ℕ} (can : CanFind (cut_world t lim o f g) w) where
  pub plan-can : (W : List Column) → all (fits_rows (length t.heads)) W ≡ true → 1 ≤ length W → length W ≤ 64 →
      CanPlan (stored_whole t f) (live (booked_in (cut_world t lim o f g))) W w
  plan-can W fits some few =
      let r : Register = booked_in (cut_world t lim o f g) in
      record {
        sized = stored-sized can;
        sound = stored-sound can;
        batch-fits = fits;
        some = (sizes-are can).m-low;
        m-bound = (sizes-are can).m-high;
        f-bound = (sizes-are can).f-high;
        few = omega (arith, columns-few can, live-length r r.columns);
        positions = (some, few);
        long = work-long can;
        zero = work-zero can;
        flags-zero = flags-zero can;
      }
