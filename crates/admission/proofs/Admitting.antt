-- Number 20 comes after the sizes; and what a call may rely on once it is admitted. Assumes nothing.
use mathlib.Core.Path.{◌≡◌, refl, sym, ap, ◌∙◌, subst}
use mathlib.Core.Logic.{◌≢◌}
use mathlib.Core.Bool.{Bool, true, false}
use mathlib.Core.List.{List}
use Prim.Native.Nat.{ℕ, ◌+◌, ◌≤◌}
use native.Mathlib.Omega.{arith}
use lib.ListN.{length}
use borrow.Author.Tests.{eq-eqb, ne_eqb}
use Rattle.lists.specs.Lists.{pick}
use Rattle.workspace.specs.Regions.{IsZero, cleared, zero_first}
use Rattle.workspace.proofs.Regions.{cleared-length, cleared-zero, first-cleared}
use Rattle.tables.specs.Tables.{Tables, Sizes, State, is_sound}
use Rattle.calls.specs.Refusals.{Refusal, accepted, is_accepted, or_else, unless, bounds, sizes_refusal, work_for, short_refusal, early_refusal}
use Rattle.calls.proofs.Choices.{or-both, or-second, unless_holds}
use Rattle.calls.proofs.Refusals.{HasRoom, early-passed}
use Rattle.admission.specs.Admission.{admission, Admitted, Usable, CanUse}

-- ---- a choice by its number

number-zero : (x : Refusal) → 0 ≡ x.number → is_accepted x ≡ true
number-zero x e = eq-eqb x.number 0 (sym e)

number-some : (x : Refusal) {n : ℕ} → n ≡ x.number → n ≢ 0 → is_accepted x ≡ false
number-some x {n} e d = ne_eqb x.number 0 (λ z. d (e ∙ z))

-- ---- limits that an opening refuses, where the sizes are in range

module _ (l : Sizes) (g : Bool) (t : Tables) (w : List ℕ) (z : Bool) {n : ℕ} (e : n ≡ (sizes_refusal bounds l).number) (d : n ≡ 0) where
  abbrev short : Refusal
  short = or_else (short_refusal l t w) (unless z 5 0)

  past-sizes : early_refusal l g t w z ≡ or_else (unless g 20 0) short
  past-sizes = or-second (sizes_refusal bounds l) (or_else (unless g 20 0) short) (number-zero (sizes_refusal bounds l) (sym d ∙ e))

  pub early-limits : g ≡ false → 20 ≡ (early_refusal l g t w z).number
  early-limits k = sym (ap (λ (y : Refusal). y.number) (past-sizes ∙ ap (λ (b : Bool). or_else (unless b 20 0) short) k))

-- ---- usable tables with a work table whose first W places are cleared

pub cleared-use : {s : State} {t : Tables} → Usable s t → (w : List ℕ) → work_for s.sizes ≤ length w → {w' : List ℕ} → w' ≡ zero_first (work_for s.sizes) w → CanUse s t w'
cleared-use {s} {t} u w long {w'} e =
    let W : ℕ = work_for s.sizes in
    let all : w' ≡ cleared w 0 W = e ∙ first-cleared W w long in
    let room : 0 + W ≤ length w = omega (arith, long) in
    record {
      usable = u;
      room = subst (λ (k : ℕ). W ≤ k) (sym (ap length all ∙ cleared-length w 0 W room)) long;
      zero = subst (λ (x : List ℕ). IsZero x 0 W) (sym all) (cleared-zero w 0 W room);
    }

-- the same record by another name
pub admitted-as : {x s : State} → x ≡ s → {t : Tables} {w : List ℕ} {z : Bool} {n : ℕ} {w' : List ℕ} → Admitted x t w z n w' → Admitted s t w z n w'
admitted-as e {t} {w} {z} {n} {w'} a = subst (λ (y : State). Admitted y t w z n w') e a

-- ---- what an admitted call relies on

module _ {s : State} {t : Tables} {w : List ℕ} {z : Bool} {n : ℕ} {w' : List ℕ} (a : Admitted s t w z n w') where
  pub admitted-some : n ≢ 0 → is_accepted (admission s t w z) ≡ false
  admitted-some d = number-some (admission s t w z) a.found d

  module _ (d : n ≡ 0) where
    pub admitted-none : is_accepted (admission s t w z) ≡ true
    admitted-none = number-zero (admission s t w z) (sym d ∙ a.found)

    both : (is_accepted (early_refusal s.sizes true t w z) ≡ true) × (is_accepted (unless (is_sound s t) 6 0) ≡ true)
    both = or-both (early_refusal s.sizes true t w z) (unless (is_sound s t) 6 0) admitted-none

    pub admitted-early : is_accepted (early_refusal s.sizes true t w z) ≡ true
    admitted-early = both.0

    pub admitted-usable : Usable s t
    admitted-usable =
        let p : (sizes_refusal bounds s.sizes ≡ accepted) × (true ≡ true) × HasRoom s.sizes t w × (z ≡ true) = early-passed s.sizes true t w z both.0 in
        record { sizes = p.0; long = p.2.tables; sound = unless_holds (is_sound s t) 6 0 refl both.1 }

    -- and its work table is the lent one with the first W places zero
    has_room : HasRoom s.sizes t w
    has_room = (early-passed s.sizes true t w z both.0).2

    pub admitted-work : w' ≡ zero_first (work_for s.sizes) w
    admitted-work = a.left ∙ ap (λ (q : Bool). pick q (zero_first (work_for s.sizes) w) w) both.0

    pub admitted-use : CanUse s t w'
    admitted-use = cleared-use admitted-usable w has_room.work admitted-work
