-- What a proved caller of the unchecked changes needs: an accepted opening leaves tables that a change may follow on (`opened-can`), a refused one leaves
-- everything (`refused-number`, `refused-tables`, `refused-work`), a change, by a batch or by the clock, leaves tables that the next may follow on (`change-can`), and its
-- step is that of the whole call (`change-step`). Assumes nothing.
use mathlib.Core.Path.{◌≡◌, refl, sym, ap, ◌∙◌, subst}
use mathlib.Core.Logic.{◌⊎◌, inl, inr, ◌≢◌}
use mathlib.Core.Bool.{Bool, true, false, true≢false}
use mathlib.Core.List.{List}
use Prim.Native.Nat.{ℕ, ◌≤◌}
use native.Mathlib.Omega.{arith}
use lib.ListN.{length}
use borrow.Author.Tests.{le-leb}
use Rattle.lists.specs.Lists.{pick}
use Rattle.workspace.specs.Regions.{zero_first}
use Rattle.workspace.proofs.Regions.{first-same}
use Rattle.lists.proofs.Tests.{cases}
use Rattle.symbolic.specs.Grades.{Limits, limits_for}
use Rattle.tables.specs.Tables.{Tables, Sizes, State, long_enough, register_of, is_sound}
use Rattle.tables.specs.Opening.{opened_state, opened_tables}
use Rattle.tables.proofs.Tables.{tails-long, long-facts}
use Rattle.tables.proofs.Opening.{opened-sound, opened-long}
use Rattle.calls.specs.Refusals.{Refusal, accepted, is_accepted, or_else, unless, bounds, sizes_refusal, work_for, short_refusal, lists_long, early_refusal}
use Rattle.calls.specs.Calls.{Change, opening, changing, Lent, work_only, report_lists, Call, call_of, with_default}
use Rattle.calls.specs.Changes.{effect}
use Rattle.calls.specs.Numbers.{call_early, refusal_of}
use Rattle.calls.specs.Steps.{Answer, World, Exchanged, Transition}
use Rattle.calls.proofs.Choices.{or-both, or-second, both-or}
use Rattle.calls.proofs.Refusals.{InRange, sizes-facts}
use Rattle.calls.proofs.Numbers.{Ready, early-facts}
use Rattle.calls.proofs.Steps.{Accepted, Refused, step-cases, step-taken, refused-some}
use Rattle.steps.specs.Outcome.{ChangeOutcome, ChangeStep}
use Rattle.steps.proofs.Whole.{change-whole}
use Rattle.factor.specs.Entries.{state_of, opening_answer, OpenStep}
use Rattle.admission.proofs.Admitting.{cleared-use}
use Rattle.factor.specs.declared.Factor.{Factor}
use Rattle.std.specs.Prelude.{Ok, Err}
use Rattle.early_refusals.specs.declared.refusal.Refusal as reasons
use Rattle.early_refusals.specs.Refusal.{number_of}
use Rattle.answers.specs.Answers.{CanChange}

-- ---- after an opening

zero_one : ◌≡◌ {A = ℕ} 0 1 → ⊥
zero_one e = omega arith

module _ (l : Sizes) (g : Limits) (t : Tables) (w : List ℕ) where
  -- the tables and the zeroed work table of the sizes asked
  fresh-can : (k : Sizes) → Ready k t (call_of (opening l g) (work_only w)) → (a b : List ℕ) → l.m ≤ length a → l.m ≤ length b →
      CanChange (opened_state (with_default l) (limits_for g)) (opened_tables (with_default l) t) (zero_first (work_for (with_default l)) w) a b
  fresh-can k r a b x y =
      let d : Sizes = with_default l in
      let f : InRange d = sizes-facts d (ap is_accepted r.sizes) in
      record {
        can-use = cleared-use (record { sizes = r.sizes; long = opened-long d t f.f-low r.room.tables; sound = opened-sound d (limits_for g) t f.f-low r.limits }) w r.room.work refl;
        touched-long = x;
        labels-long = y;
      }

  pub opened-can : (x : Factor) (t' : Tables) (w' : List ℕ) → OpenStep l g t w (Ok x) t' w' → (a b : List ℕ) → x.m ≤ length a → x.m ≤ length b → CanChange (state_of x) t' w' a b
  opened-can x t' w' o a b p q =
      let s : State = state_of x in
      let u : World = record { state = s; tables = t } in
      let v : World = record { state = state_of x; tables = t' } in
      let k : Call = call_of (opening l g) (work_only w) in
      let d : Sizes = with_default l in
      let taken : Accepted u k (opening_answer (Ok x)) (work_only w') v = step-taken u k (opening_answer (Ok x)) (work_only w') v (o s) refl in
      let e : is_accepted (call_early s.sizes t k) ≡ true = (or-both (call_early s.sizes t k) accepted taken.number).0 in
      let m : x.m ≡ l.m = ap (λ (y : State). y.sizes.m) taken.world.0 in
      let z : w' ≡ zero_first (work_for d) w =
      ap (λ (y : Lent). y.work) taken.lists ∙ ap (λ (q : Bool). pick q (zero_first (work_for d) w) w) e in
      subst (λ (y : List ℕ). CanChange (state_of x) t' y a b) (sym z)
      (subst (λ (y : Tables). CanChange (state_of x) y (zero_first (work_for d) w) a b) (sym taken.world.1)
      (subst (λ (y : State). CanChange y (opened_tables d t) (zero_first (work_for d) w) a b) (sym taken.world.0)
      (fresh-can s.sizes (early-facts s.sizes t k e) a b (omega arith) (omega arith))))

  -- its m is one that the tables have places for
  pub opened-fits : (x : Factor) (t' : Tables) (w' : List ℕ) → OpenStep l g t w (Ok x) t' w' → x.m ≤ length t.heads
  opened-fits x t' w' o =
      let s : State = state_of x in
      let u : World = record { state = s; tables = t } in
      let v : World = record { state = state_of x; tables = t' } in
      let k : Call = call_of (opening l g) (work_only w) in
      let taken : Accepted u k (opening_answer (Ok x)) (work_only w') v = step-taken u k (opening_answer (Ok x)) (work_only w') v (o s) refl in
      let e : is_accepted (call_early s.sizes t k) ≡ true = (or-both (call_early s.sizes t k) accepted taken.number).0 in
      let m : x.m ≡ l.m = ap (λ (y : State). y.sizes.m) taken.world.0 in
      omega (arith, (long-facts (with_default l) t (early-facts s.sizes t k e).room.tables).heads)

  -- a refused opening has a number, and leaves tables and work table: the record before it could be any
  module _ (n : reasons.Refusal) (t' : Tables) (w' : List ℕ) (o : OpenStep l g t w (Err n) t' w') where
    abbrev any : ℕ → State
    any i = record { sizes = l; limits = g; free = i; book_free = 0; clock = 0 }

    step : (i : ℕ) → (Accepted (record { state = any i; tables = t }) (call_of (opening l g) (work_only w)) (opening_answer (Err n)) (work_only w') (record { state = any i; tables = t' })) ⊎
        (Refused (record { state = any i; tables = t }) (call_of (opening l g) (work_only w)) (opening_answer (Err n)) (work_only w') (record { state = any i; tables = t' }))
    step i =
        step-cases (record { state = any i; tables = t }) (call_of (opening l g) (work_only w)) (opening_answer (Err n)) (work_only w') (record { state = any i; tables = t' }) (o (any i))

    -- accepted, the record after it would be the one before it, whatever that was
    not-accepted : (i : ℕ) → is_accepted (refusal_of (any i) t (call_of (opening l g) (work_only w))) ≡ false
    not-accepted i =
        elim (step 0) [
          | inl f ↦ elim (step 1) [
            | inl h ↦ absurd (zero_one (ap (λ (s : State). s.free) (f.world.0 ∙ sym h.world.0)))
            | inr h ↦ h.number
          ]
          | inr f ↦ f.number
        ]

    refused_as : Refused (record { state = any 0; tables = t }) (call_of (opening l g) (work_only w)) (opening_answer (Err n)) (work_only w') (record { state = any 0; tables = t' })
    refused_as = elim (step 0) [ inl f ↦ absurd (true≢false (sym f.number ∙ not-accepted 0)) | inr f ↦ f ]

    pub refused-number : number_of n ≢ 0
    refused-number = refused-some refused_as

    pub refused-tables : t' ≡ t
    refused-tables = ap (λ (v : World). v.tables) refused_as.world

    pub refused-work : w' ≡ w
    refused-work =
        let x : Refusal = call_early l t (call_of (opening l g) (work_only w)) in
        elim (cases (is_accepted x)) [
          | inl e ↦ absurd (true≢false (sym (ap is_accepted (or-second x accepted e)) ∙ not-accepted 0))
          | inr e ↦ ap (λ (y : Lent). y.work) refused_as.lists ∙ ap (λ (q : Bool). pick q (zero_first (work_for (with_default l)) w) w) e
        ]

-- ---- a change

module _ {s : State} {t : Tables} {w a b : List ℕ} (can : CanChange s t w a b) where
  -- 1 to 5 are passed
  change-early : is_accepted (early_refusal s.sizes true t w (lists_long s.sizes.m a b)) ≡ true
  change-early =
      let l : Sizes = s.sizes in
      both-or (sizes_refusal bounds l) (or_else (short_refusal l t w) (unless (lists_long l.m a b) 5 0)) (ap is_accepted can.can-use.usable.sizes)
      (both-or (short_refusal l t w) (unless (lists_long l.m a b) 5 0) (rw (can.can-use.usable.long, le-leb _ _ can.can-use.room) refl)
      (rw (le-leb _ _ can.touched-long, le-leb _ _ can.labels-long) refl))

  first : w ≡ zero_first (work_for s.sizes) w
  first = sym (first-same (work_for s.sizes) w can.can-use.room can.can-use.zero)

  pub change-step : (c : Change) (z : Answer) (x : Lent) (v : World) → ChangeStep (record { state = s; tables = t }) c (report_lists w a b) z x v →
      Transition (record { state = s; tables = t }) (call_of (changing c) (report_lists w a b)) z x v
  change-step c z x v o =
      change-whole (record { state = s; tables = t }) c (report_lists w a b) change-early can.can-use.usable.sound z x v
      (subst (λ (q : List ℕ). ChangeStep (record { state = s; tables = t }) c (report_lists q a b) z x v) first o)

  -- the lists keep their lengths, so the next change may follow
  module _ (w' a' b' : List ℕ) (v : World) (p : length a' ≡ length a) (q : length b' ≡ length b) where
    same-can : w' ≡ w → v.state.sizes ≡ s.sizes → long_enough s.sizes v.tables ≡ true → is_sound v.state v.tables ≡ true →
        CanChange v.state v.tables w' a' b'
    same-can e f g h =
        let m : v.state.sizes.m ≡ s.sizes.m = ap (λ (l : Sizes). l.m) f in
        record {
          can-use = record {
            usable = record { sizes = rw f can.can-use.usable.sizes; long = rw f g; sound = h };
            room = rw (e, f) can.can-use.room;
            zero = rw (e, f) can.can-use.zero;
          };
          touched-long = omega (arith, can.touched-long);
          labels-long = omega (arith, can.labels-long);
        }

    exchanged-can : (c : Change) → w' ≡ w → Exchanged (record { state = s; tables = t }) c v → CanChange v.state v.tables w' a' b'
    exchanged-can c e m = same-can e m.sizes (tails-long s.sizes t v.tables m.tails can.can-use.usable.long) m.sound

    left-can : w' ≡ w → v ≡ record { state = s; tables = t } → CanChange v.state v.tables w' a' b'
    left-can e f =
        same-can e (ap (λ (y : World). y.state.sizes) f) (ap (λ (y : World). long_enough s.sizes y.tables) f ∙ can.can-use.usable.long)
        (ap (λ (y : World). is_sound y.state y.tables) f ∙ can.can-use.usable.sound)

    change-by : (c : Change) (z : Answer) (n : Bool) → ChangeOutcome n (record { state = s; tables = t }) c (report_lists w a b) z (report_lists w' a' b') v →
        CanChange v.state v.tables w' a' b'
    change-by c z true o = exchanged-can c (ap (λ (y : Lent). y.work) o.1) o.2
    change-by c z false o = left-can (ap (λ (y : Lent). y.work) o.1) o.2

    pub change-can : (c : Change) (z : Answer) → ChangeStep (record { state = s; tables = t }) c (report_lists w a b) z (report_lists w' a' b') v →
        CanChange v.state v.tables w' a' b'
    change-can c z o = change-by c z (is_accepted ((effect (register_of s t) c).refusal s.sizes)) o
