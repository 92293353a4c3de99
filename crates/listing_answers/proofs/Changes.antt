-- A batch's line by its number (`ok-answer`, `no_answer`); what an addition or a removal answers before an accepted opening (`closed-changes`)
-- and after it (`open-changes`), where the unchecked batch's step is that of the whole call. Assumes nothing.
use mathlib.Core.Path.{◌≡◌, refl, sym, ap, subst}
use mathlib.Core.Logic.{inl, inr, ◌≢◌}
use mathlib.Core.Bool.{Bool}
use mathlib.Core.List.{List}
use Prim.Native.Nat.{ℕ}
use native.Mathlib.Omega.{arith}
use lib.ListN.{length}
use borrow.Author.Tests.{eq-eqb, ne_eqb}
use Rattle.lists.specs.Lists.{pick}
use Rattle.tables.specs.Tables.{Tables, State}
use Rattle.calls.specs.Refusals.{refusal}
use Rattle.calls.specs.Calls.{Change, changing, report_lists, call_of}
use Rattle.calls.specs.Steps.{Answer, refused_by, World, Transition}
use Rattle.calls.proofs.Steps.{refused-step}
use Rattle.steps.specs.Outcome.{ChangeStep}
use Rattle.factor.specs.Entries.{state_of, world_of}
use Rattle.factor.specs.declared.Factor.{Factor}
use Rattle.answers.specs.Answers.{CanChange, changed_answer}
use Rattle.answers.specs.declared.Changed.{Changed}
use Rattle.continuing.proofs.Continuing.{change-step, change-can}
use Rattle.listing_text.specs.Text.{ok_line, no_line, Written}
use Rattle.listing_show.specs.Showing.{answer_line, no_state}
use Rattle.listing_show.proofs.Showing.{usable-some}
use Rattle.listing_memory.specs.Memory.{Memory, memory_of}
use Rattle.listing_answers.specs.Listing.{IsReady, BatchAnswered, Answers}

-- ---- the line of an answer

pub ok-answer : (a : Answer) → a.number ≡ 0 → ok_line a.touched a.entries a.grade ≡ answer_line a
ok-answer a e =
    sym (ap (λ (z : Bool). pick z (ok_line a.touched a.entries a.grade) (no_line a.number a.position)) (eq-eqb a.number 0 e))

pub no_answer : (a : Answer) → a.number ≢ 0 → no_line a.number a.position ≡ answer_line a
no_answer a d =
    sym (ap (λ (z : Bool). pick z (ok_line a.touched a.entries a.grade) (no_line a.number a.position)) (ne_eqb a.number 0 d))

-- ---- m says whether a factor is open

pub ready-none : (u : Memory) → IsReady u → u.world.state.sizes.m ≡ 0 → u.world.state ≡ no_state
ready-none u r e = elim r [ inl q ↦ q | inr c ↦ absurd (omega (arith, usable-some c.can-use.usable)) ]

pub ready-some : (u : Memory) → IsReady u → u.world.state.sizes.m ≢ 0 → CanChange u.world.state u.world.tables u.work u.touched u.labels
ready-some u r d = elim r [ inl q ↦ absurd (d (ap (λ (s : State). s.sizes.m) q)) | inr c ↦ c ]

-- ---- before an accepted opening: `no 1 0`

no_change : (t : Tables) (c : Change) (w a b : List ℕ) →
    Transition (record { state = no_state; tables = t }) (call_of (changing c) (report_lists w a b)) (refused_by (refusal 1 0)) (report_lists w a b) (record { state = no_state; tables = t })
no_change t c w a b =
    let u : World = record { state = no_state; tables = t } in
    refused-step u (call_of (changing c) (report_lists w a b)) (refused_by (refusal 1 0)) (report_lists w a b) u
    (record { number = refl; answer = refl; lists = refl; world = refl })

pub closed-changes : (x : Factor) (t : Tables) (w a b out₀ out : List ℕ) (end : ℕ) → Written out₀ 0 (no_line 1 0) out end → state_of x ≡ no_state →
    (c : Change) → Answers (BatchAnswered (memory_of x t w a b) c) out₀ out (record { factor = x; end = end }) (memory_of x t w a b)
closed-changes x t w a b out₀ out end line e c =
    record {
      bytes = no_line 1 0;
      says = record {
        answer = refused_by (refusal 1 0);
        step = subst (λ (s : State). Transition (record { state = s; tables = t }) (call_of (changing c) (report_lists w a b)) (refused_by (refusal 1 0)) (report_lists w a b) (record { state = s; tables = t }))
            (sym e) (no_change t c w a b);
        printed = refl;
      };
      written = line;
      usable = inl e;
    }

-- ---- after it

module _ (x : Factor) (t : Tables) (w a b : List ℕ) (can : CanChange (state_of x) t w a b) (y : Changed) (t' : Tables) (w' a' b' out₀ out : List ℕ) (end : ℕ)
    (line : Written out₀ 0 (answer_line (changed_answer y)) out end) (p : length a' ≡ length a) (q : length b' ≡ length b) where
  pub open-changes : (c : Change) → ChangeStep (world_of x t) c (report_lists w a b) (changed_answer y) (report_lists w' a' b') (world_of y.factor t') →
      Answers (BatchAnswered (memory_of x t w a b) c) out₀ out (record { factor = y.factor; end = end }) (memory_of y.factor t' w' a' b')
  open-changes c o =
      record {
        bytes = answer_line (changed_answer y);
        says = record { answer = changed_answer y; step = change-step can c (changed_answer y) (report_lists w' a' b') (world_of y.factor t') o; printed = refl };
        written = line;
        usable = inr (change-can can w' a' b' (world_of y.factor t') p q c (changed_answer y) o);
      }
