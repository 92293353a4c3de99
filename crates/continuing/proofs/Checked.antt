-- An accepted check leaves tables and a work table that every question may use (`checked-use`), and that a batch may change (`checked-can`) if the lists of the
-- report have their places (`lists-fit`). Assumes nothing.
use mathlib.Core.Path.{◌≡◌, refl, sym, ap, ◌∙◌}
use mathlib.Core.Bool.{Bool, true, false, not}
use mathlib.Core.List.{List}
use Prim.Native.Nat.{ℕ, ◌≤◌}
use lib.Dec.{leb}
use lib.ListN.{length}
use borrow.Author.Tests.{leb-true, not-false}
use Rattle.lists.specs.Lists.{pick}
use Rattle.lists.proofs.Tests.{and_both}
use Rattle.workspace.specs.Regions.{zero_first}
use Rattle.tables.specs.Tables.{Tables, Sizes, State, is_sound, register_of}
use Rattle.calls.specs.Refusals.{Refusal, is_accepted, or_else, unless, work_for, lists_long}
use Rattle.calls.specs.Calls.{checking, Lent, work_only, Call, call_of}
use Rattle.calls.specs.Numbers.{call_early, sound_refusal, call_refusal}
use Rattle.calls.specs.Steps.{Answer, World, Transition}
use Rattle.calls.proofs.Choices.{or-both, unless_holds}
use Rattle.calls.proofs.Numbers.{Ready, early-facts}
use Rattle.calls.proofs.Steps.{Accepted, step-taken}
use Rattle.admission.specs.Admission.{CanUse}
use Rattle.admission.proofs.Admitting.{cleared-use}
use Rattle.answers.specs.Answers.{CanChange}

pub lists-fit : (m : ℕ) (a b : List ℕ) {y : Bool} → y ≡ not (lists_long m a b) → y ≡ false → (m ≤ length a) × (m ≤ length b)
lists-fit m a b e f =
    let v : (leb m (length a) ≡ true) × (leb m (length b) ≡ true) = and_both (leb m (length a)) (leb m (length b)) (not-false (lists_long m a b) (sym e ∙ f)) in
    (leb-true m (length a) v.0, leb-true m (length b) v.1)

module _ (s : State) (t : Tables) (w : List ℕ) where
  abbrev here : World
  here = record { state = s; tables = t }

  abbrev call : Call
  call = call_of checking (work_only w)

  pub checked-use : (z : Answer) (w' : List ℕ) → Transition here call z (work_only w') here → z.number ≡ 0 → CanUse s t w'
  checked-use z w' o d =
      let l : Sizes = s.sizes in
      let g : Accepted here call z (work_only w') here = step-taken here call z (work_only w') here o d in
      let e : Refusal = call_early l t call in
      let q : Refusal = or_else (sound_refusal s t call.entry) (call_refusal l (register_of s t) call) in
      let early : is_accepted e ≡ true = (or-both e q g.number).0 in
      let sound : is_accepted (unless (is_sound s t) 6 0) ≡ true = (or-both (unless (is_sound s t) 6 0) (call_refusal l (register_of s t) call) (or-both e q g.number).1).0 in
      let r : Ready l t call = early-facts l t call early in
      let first : w' ≡ zero_first (work_for l) w =
      ap (λ (v : Lent). v.work) g.lists ∙ ap (λ (p : Bool). pick p (zero_first (work_for l) w) w) early in
      cleared-use (record { sizes = r.sizes; long = r.room.tables; sound = unless_holds (is_sound s t) 6 0 refl sound }) w r.room.work first

  pub checked-can : (z : Answer) (w' : List ℕ) → Transition here call z (work_only w') here → z.number ≡ 0 →
      (a b : List ℕ) → s.sizes.m ≤ length a → s.sizes.m ≤ length b → CanChange s t w' a b
  checked-can z w' o d a b x y = record { can-use = checked-use z w' o d; touched-long = x; labels-long = y }
