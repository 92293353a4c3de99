-- The work table after a clock change: what an exchange left there is cleared, and it was zero before, so the table is as it was (`cleared-back`).
-- Assumes nothing.
use mathlib.Core.Path.{◌≡◌, refl, sym, ◌∙◌}
use mathlib.Core.Bool.{Bool, true, false}
use mathlib.Core.List.{List}
use Prim.Native.Nat.{ℕ, ◌+◌, ◌*◌, ◌≤◌}
use native.Mathlib.Omega.{arith}
use lib.ListN.{length}
use Rattle.workspace.specs.Regions.{IsZero, OnlyIn, cleared}
use Rattle.workspace.specs.Layout.{spare, flags_at, gather_at}
use Rattle.workspace.proofs.Regions.{zero-part, only-sym, cleared-unique}
use Rattle.clock.specs.Setting.{Cleared}

-- a region that alone was changed, and was zero before: cleared, the table is as before
region-back : {a n : ℕ} {w x : List ℕ} → a + n ≤ length w → OnlyIn a n w x → IsZero w a n → cleared x a n ≡ w
region-back {a} {n} {w} {x} h o z =
    let k : a + n ≤ length x = omega (arith, o.same_length) in
    sym (cleared-unique x a n k (only-sym o) z)

-- so after an exchange, by whether records were saved
pub cleared-back : {m f : ℕ} {w x y : List ℕ} (saved : Bool) → m ≤ f → flags_at m f ≤ length w → IsZero w 0 (flags_at m f) → OnlyIn (spare m f) (3 * f) w x →
    (saved ≡ false → OnlyIn (gather_at m f) m w x) → Cleared x y m f saved → y ≡ w
cleared-back {m} {f} {w} true room long zero only alone e =
    e ∙ region-back (omega arith) only (zero-part w 0 (flags_at m f) (spare m f) (3 * f) zero (omega arith) (omega arith))
cleared-back {m} {f} {w} false room long zero only alone e =
    e ∙ region-back (omega arith) (alone refl) (zero-part w 0 (flags_at m f) (gather_at m f) m zero (omega arith) (omega arith))
