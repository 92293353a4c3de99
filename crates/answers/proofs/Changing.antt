-- A checked change from its admission: 1 to 6 are those of the admission with the test of its lists (`admits-change`), refused by them it changes nothing
-- (`change-refused`), admitted it can be handed on (`admitted-can`) and its outcome is the call's (`changed-whole`). Assumes nothing.
use mathlib.Core.Path.{◌≡◌, refl, sym, ap, ◌∙◌, subst}
use mathlib.Core.Logic.{◌≢◌}
use mathlib.Core.Bool.{Bool, true, false, not}
use mathlib.Core.List.{List}
use Prim.Native.Nat.{ℕ, ◌≤◌}
use lib.ListN.{length}
use Rattle.tables.specs.Tables.{Tables, Sizes, State}
use Rattle.calls.specs.Refusals.{refusal, is_accepted, lists_long, early_refusal}
use Rattle.calls.specs.Calls.{Change, changing, Lent, report_lists, with_work, Call, call_of}
use Rattle.calls.specs.Steps.{Answer, refused_by, World, Transition}
use Rattle.calls.proofs.Refusals.{lists-facts, early-passed}
use Rattle.steps.specs.Outcome.{ChangeStep}
use Rattle.steps.proofs.Whole.{change-whole}
use Rattle.factor.specs.Entries.{state_of, world_of}
use Rattle.admission.specs.Admission.{Admitted}
use Rattle.answers.specs.Answers.{CanChange, changed_answer, AnswerIs}
use Rattle.factor.specs.declared.Factor.{Factor}
use Rattle.answers.specs.declared.Changed.{Changed}
use Rattle.admission.proofs.Admitting.{admitted-early, admitted-usable, admitted-work, admitted-use}
use Rattle.factor.proofs.Asking.{Admits, refused-early}

-- ---- the test of a change's lists

negated : (y z : Bool) → y ≡ not z → z ≡ not y
negated y true e = sym (ap not e)
negated y false e = sym (ap not e)

module _ (s : State) (t : Tables) (w a b : List ℕ) {y : Bool} (e : y ≡ not (lists_long s.sizes.m a b)) where
  abbrev l : Sizes
  l = s.sizes

  long-is : lists_long s.sizes.m a b ≡ not y
  long-is = negated y (lists_long l.m a b) e

  pub admits-change : (c : Change) → Admits s t (call_of (changing c) (report_lists w a b)) (not y)
  admits-change c = record { early = ap (λ (z : Bool). early_refusal l true t w z) long-is; sound = refl; sizes = refl }

  -- ---- admitted

  module _ {n : ℕ} {w' : List ℕ} (m : Admitted s t w (not y) n w') (d : n ≡ 0) where
    lists-long : (s.sizes.m ≤ length a) × (s.sizes.m ≤ length b)
    lists-long = lists-facts l.m a b (long-is ∙ (early-passed l true t w (not y) (admitted-early m d)).3)

    pub admitted-can : CanChange s t w' a b
    admitted-can = record { can-use = admitted-use m d; touched-long = lists-long.0; labels-long = lists-long.1 }

    pub changed-whole : (c : Change) (z : Answer) (x : Lent) (v : World) → ChangeStep (record { state = s; tables = t }) c (report_lists w' a b) z x v →
        Transition (record { state = s; tables = t }) (call_of (changing c) (report_lists w a b)) z x v
    changed-whole c z x v o =
        let u : World = record { state = s; tables = t } in
        change-whole u c (report_lists w a b) (ap (λ (q : Bool). is_accepted (early_refusal l true t w q)) long-is ∙ admitted-early m d) (admitted-usable m d).sound z x v
        (subst (λ (q : List ℕ). ChangeStep u c (report_lists q a b) z x v) (admitted-work m d) o)

-- ---- refused by 1 to 6

pub change-refused : (s : Factor) (t : Tables) {k : Call} {z : Bool} → Admits (state_of s) t k z → {n : ℕ} {w' : List ℕ} → Admitted (state_of s) t k.lent.work z n w' →
    n ≢ 0 → (x : Lent) → x ≡ with_work k.lent w' → {r : Changed} → AnswerIs (refused_by (refusal n 0)) (state_of s) r →
    Transition (world_of s t) k (changed_answer r) x (world_of r.factor t)
change-refused s t {k} m {n} a d x e {r} q =
    subst (λ (n : Answer). Transition (world_of s t) k n x (world_of r.factor t)) (sym q.numbers-are)
    (subst (λ (z : State). Transition (world_of s t) k (refused_by (refusal n 0)) x (record { state = z; tables = t })) (sym q.record_is) (refused-early m a d e))
