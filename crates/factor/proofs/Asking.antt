-- The step of a call that is no opening, from its admission: refused by 1 to 6 (`refused-early`), a check (`check-step`), a question that was admitted
-- and answered (`list-step`, `kept_step`, `plain_step`). `Admits` says of a call that its 1 to 6 are those of an admission. Assumes nothing.
use mathlib.Core.Path.{◌≡◌, refl, sym, ap, ◌∙◌, subst}
use mathlib.Core.Logic.{◌≢◌, inl, inr}
use mathlib.Core.Bool.{Bool, true, false, ◌&&◌}
use mathlib.Core.List.{List, []}
use Prim.Native.Nat.{ℕ}
use lib.Dec.{leb}
use lib.ListN.{length}
use Rattle.lists.specs.Lists.{pick, is_in, written_at}
use Rattle.lists.proofs.Tests.{cases, eq-or-ne}
use Rattle.workspace.specs.Regions.{zero_first}
use Rattle.tables.specs.Tables.{Tables, Sizes, State, long_enough, register_of, is_sound}
use Rattle.calls.specs.Refusals.{Refusal, is_accepted, or_else, unless, bounds, sizes_refusal, work_for, short_refusal, early_refusal}
use Rattle.calls.specs.Calls.{Question, checking, asking, Lent, work_only, work_and_list, with_work, Call, call_of, sizes_after}
use Rattle.calls.specs.Questions.{response}
use Rattle.calls.specs.Numbers.{call_early, call_refusal, sound_refusal, refusal_of}
use Rattle.calls.specs.Steps.{Answer, refused_by, accepted_by, lists_after, work_after, World, AcceptedWorld, Transition}
use Rattle.calls.proofs.Choices.{or-first, or-second, or_assoc}
use Rattle.calls.proofs.Steps.{accepted-step, refused-step}
use Rattle.questions.specs.Asked.{reply_of, replied_to, replied, list_left}
use Rattle.admission.specs.Admission.{admission, Admitted}
use Rattle.admission.proofs.Admitting.{admitted-some, admitted-none}

-- ---- positions: 1 to 6 and 20 have none

abbrev Flat : Refusal → Type 0
Flat x = x.position ≡ 0

flat-unless : (z : Bool) (n : ℕ) → Flat (unless z n 0)
flat-unless true n = refl
flat-unless false n = refl

flat-or : (x y : Refusal) → Flat x → Flat y → Flat (or_else x y)
flat-or x y f g = elim (cases (is_accepted x)) [ inl e ↦ rw e g | inr e ↦ rw e f ]

flat-sizes : (l : Sizes) → Flat (sizes_refusal bounds l)
flat-sizes l =
    let y : Refusal = unless (is_in 1 16384 l.n) 2 0 in
    let z : Refusal = unless (is_in l.m 1048576 l.f) 3 0 in
    let w : Refusal = unless (is_in 1 262144 l.c) 4 0 in
    flat-or (unless (is_in 1 4096 l.m) 1 0) (or_else y (or_else z w)) (flat-unless (is_in 1 4096 l.m) 1)
    (flat-or y (or_else z w) (flat-unless (is_in 1 16384 l.n) 2)
    (flat-or z w (flat-unless (is_in l.m 1048576 l.f) 3) (flat-unless (is_in 1 262144 l.c) 4)))

pub flat-early : (l : Sizes) (g : Bool) (t : Tables) (w : List ℕ) (z : Bool) → (early_refusal l g t w z).position ≡ 0
flat-early l g t w z =
    let y : Refusal = or_else (short_refusal l t w) (unless z 5 0) in
    flat-or (sizes_refusal bounds l) (or_else (unless g 20 0) y) (flat-sizes l)
    (flat-or (unless g 20 0) y (flat-unless g 20)
    (flat-or (short_refusal l t w) (unless z 5 0) (flat-unless (long_enough l t && leb (work_for l) (length w)) 5) (flat-unless z 5)))

flat-admission : (s : State) (t : Tables) (w : List ℕ) (z : Bool) → Flat (admission s t w z)
flat-admission s t w z =
    flat-or (early_refusal s.sizes true t w z) (unless (is_sound s t) 6 0) (flat-early s.sizes true t w z) (flat-unless (is_sound s t) 6)

-- a refusal without a position, as an answer
pub refused-flat : (x : Refusal) {n : ℕ} → n ≡ x.number → x.position ≡ 0 → reply_of (record { number = n; value = 0 }) ≡ refused_by x
refused-flat x e f = λ i. record { number = e i; position = sym f i; touched = 0; entries = 0; grade = 0; row = 0; value = 0 }

-- a choice by a test that is known
picked : (x y : List ℕ) {z c : Bool} → z ≡ c → pick z x y ≡ pick c x y
picked x y e = ap (λ (b : Bool). pick b x y) e

-- ---- a call whose 1 to 6 are those of an admission

-- is_long: the test of its lists, true for a call that has none
pub record Admits (s : State) (t : Tables) (k : Call) (is_long : Bool) : Type 0 where
  pub early : call_early s.sizes t k ≡ early_refusal s.sizes true t k.lent.work is_long
  pub sound : sound_refusal s t k.entry ≡ unless (is_sound s t) 6 0
  pub sizes : sizes_after s.sizes k.entry ≡ s.sizes

module _ (s : State) (t : Tables) where
  pub admits-check : (x : Lent) → Admits s t (call_of checking x) true
  admits-check x = record { early = refl; sound = refl; sizes = refl }

  pub admits-ask : (q : Question) (p : ℕ) (x : Lent) → Admits s t (call_of (asking q p) x) true
  admits-ask q p x = record { early = refl; sound = refl; sizes = refl }

module _ {s : State} {t : Tables} {k : Call} {z : Bool} (m : Admits s t k z) {n : ℕ} {w' : List ℕ} (a : Admitted s t k.lent.work z n w') where
  abbrev w : List ℕ
  w = k.lent.work

  abbrev call : Refusal
  call = call_refusal s.sizes (register_of s t) k

  number_is : refusal_of s t k ≡ or_else (admission s t k.lent.work z) call
  number_is =
      ap (λ (x : Refusal). or_else x (or_else (sound_refusal s t k.entry) call)) m.early ∙
      ap (λ (x : Refusal). or_else (early_refusal s.sizes true t w z) (or_else x call)) m.sound ∙
      sym (or_assoc (early_refusal s.sizes true t w z) (unless (is_sound s t) 6 0) call)

  pub work-is : w' ≡ work_after s.sizes t k
  work-is =
      a.left ∙ ap (λ (x : Refusal). pick (is_accepted x) (zero_first (work_for s.sizes) w) w) (sym m.early) ∙
      ap (λ (l : Sizes). pick (is_accepted (call_early s.sizes t k)) (zero_first (work_for l) w) w) (sym m.sizes)

  -- refused by 1 to 6
  pub refused-early : n ≢ 0 → {x : Lent} → x ≡ with_work k.lent w' →
      Transition (record { state = s; tables = t }) k (reply_of (record { number = n; value = 0 })) x (record { state = s; tables = t })
  refused-early d {x} e =
      let q : is_accepted (admission s t w z) ≡ false = admitted-some a d in
      let r : refusal_of s t k ≡ admission s t w z = number_is ∙ or-first (admission s t w z) call q in
      refused-step (record { state = s; tables = t }) k _ x (record { state = s; tables = t })
      (record {
        number = ap is_accepted r ∙ q;
        answer = refused-flat (admission s t w z) a.found (flat-admission s t w z) ∙ ap refused_by (sym r);
        lists = e ∙ ap (λ (v : List ℕ). with_work k.lent v) work-is;
        world = refl;
      })

  -- admitted: the call's own refusal decides, the answer and the lists are the register's
  module _ (d : n ≡ 0) where
    own : refusal_of s t k ≡ call
    own = number_is ∙ or-second (admission s t w z) call (admitted-none a d)

    pub asked-step : {b : Answer} {x : Lent} → b ≡ pick (is_accepted call) (accepted_by s.limits (register_of s t) k.entry) (refused_by call) →
        AcceptedWorld (record { state = s; tables = t }) k.entry (record { state = s; tables = t }) →
        (is_accepted call ≡ true → x ≡ lists_after (register_of s t) k w') → (is_accepted call ≡ false → x ≡ with_work k.lent w') →
        Transition (record { state = s; tables = t }) k b x (record { state = s; tables = t })
    asked-step {b} {x} answer stays taken refused =
        let u : World = record { state = s; tables = t } in
        elim (cases (is_accepted call)) [
          | inl q ↦ accepted-step u k b x u (record {
            number = ap is_accepted own ∙ q;
            answer = answer ∙ ap (λ (c : Bool). pick c (accepted_by s.limits (register_of s t) k.entry) (refused_by call)) q;
            lists = taken q ∙ ap (λ (v : List ℕ). lists_after (register_of s t) k v) work-is;
            world = stays;
          })
          | inr q ↦ refused-step u k b x u (record {
            number = ap is_accepted own ∙ q;
            answer = answer ∙ ap (λ (c : Bool). pick c (accepted_by s.limits (register_of s t) k.entry) (refused_by call)) q ∙ ap refused_by (sym own);
            lists = refused q ∙ ap (λ (v : List ℕ). with_work k.lent v) work-is;
            world = refl;
          })
        ]

-- ---- by kind

module _ (s : State) (t : Tables) (w : List ℕ) {n : ℕ} {w' : List ℕ} (a : Admitted s t w true n w') where
  abbrev here : World
  here = record { state = s; tables = t }

  -- a check: 0 or the number
  pub check-step : Transition here (call_of checking (work_only w)) (reply_of (record { number = n; value = 0 })) (work_only w') here
  check-step =
      elim (eq-or-ne n 0) [
        | inl d ↦ asked-step (admits-check s t (work_only w)) a d (ap (λ (k : ℕ). reply_of (record { number = k; value = 0 })) d) refl (λ q. refl) (λ q. refl)
        | inr d ↦ refused-early (admits-check s t (work_only w)) a d refl
      ]

  module _ (d : n ≡ 0) {b : Answer} (q : Question) where
    -- a question whose list is written from place p on
    pub list-step : (p : ℕ) (xs : List ℕ) {ys : List ℕ} → b ≡ replied_to (register_of s t) q p xs → ys ≡ list_left (register_of s t) q p xs →
        Transition here (call_of (asking q p) (work_and_list w xs)) b (work_and_list w' ys) here
    list-step p xs e f =
        let new : List ℕ = written_at p (response (register_of s t) q).list xs in
        asked-step (admits-ask s t q p (work_and_list w xs)) a d e refl (λ z. ap (work_and_list w') (f ∙ picked new xs z)) (λ z. ap (work_and_list w') (f ∙ picked new xs z))

    -- the same where the question used the work table and left it as it was
    pub kept_step : (p : ℕ) (xs : List ℕ) {ys v : List ℕ} → b ≡ replied_to (register_of s t) q p xs → ys ≡ list_left (register_of s t) q p xs → v ≡ w' →
        Transition here (call_of (asking q p) (work_and_list w xs)) b (work_and_list v ys) here
    kept_step p xs {ys} e f g =
        subst (λ (v : List ℕ). Transition here (call_of (asking q p) (work_and_list w xs)) b (work_and_list v ys) here) (sym g) (list-step p xs e f)

    -- a question that has none
    pub plain_step : (response (register_of s t) q).list ≡ [] → b ≡ replied (register_of s t) q →
        Transition here (call_of (asking q 0) (work_only w)) b (work_only w') here
    plain_step none e =
        asked-step (admits-ask s t q 0 (work_only w)) a d e refl
        (λ z. ap (λ (xs : List ℕ). work_and_list w' (written_at 0 xs [])) (sym none)) (λ z. refl)
