-- An unchecked batch from its two parts, of adding and removing alike: a verdict that refuses is the refused change (`batch-refused`), one that accepts can be written
-- (`batch-can`), and with what is written it is the accepted change (`batch-taken`). Each on tables within their sizes, and so on those that they are cut from.
-- Assumes nothing.
use mathlib.Core.Path.{◌≡◌, refl, sym, ap, subst}
use mathlib.Core.Bool.{Bool, true, false}
use mathlib.Core.List.{List}
use Prim.Native.Nat.{ℕ}
use lib.ListN.{length, take}
use Rattle.std.specs.Prelude.{Ok, Err}
use Rattle.refusals.specs.declared.Refused.{Refused}
use Rattle.refusals.specs.Found.{found}
use Rattle.updown.specs.declared.Plan.{Plan}
use Rattle.admission.proofs.Cutting.{Cut, cut}
use Rattle.tables.specs.Tables.{Tables, State}
use Rattle.calls.specs.Refusals.{is_accepted}
use Rattle.calls.specs.Calls.{Change, report_lists}
use Rattle.calls.specs.Changes.{touched_by, entries_by}
use Rattle.calls.specs.Steps.{refused_by, World, booked_in}
use Rattle.steps.specs.Outcome.{cut_world, number_for, reported_by, with_heads, ChangeOutcome, ChangeStep}
use Rattle.steps.proofs.Lifting.{cut_tables}
use Rattle.steps.proofs.Whole.{join_but}
use Rattle.factor.specs.declared.Factor.{Factor}
use Rattle.factor.specs.Entries.{state_of}
use Rattle.answers.specs.declared.Changed.{Changed}
use Rattle.answers.specs.Answers.{CanChange, AnswerIs, UncheckedChange}
use Rattle.answers.proofs.Stepping.{world_cut, change-can, whole-refused, whole-batch}
use Rattle.judging.specs.Judging.{BatchPlan, Judged}
use Rattle.judging.proofs.Verdicts.{judged-taken, judged-not}
use Rattle.writing.specs.Writing.{CanWriteBatch, BatchWritten}

-- ---- a step of any world

module _ {u : World} {c : Change} {before after : List ℕ} where
  -- refused: the verdict's number, and nothing else changed
  step-refused : (x : Refused) → Judged u c before after (Err x) → (a b : List ℕ) → ChangeStep u c (report_lists before a b) (refused_by (found x)) (report_lists after a b) u
  step-refused x j a b =
      let n : is_accepted (number_for u c) ≡ false = judged-not x j in
      subst (λ (z : Bool). ChangeOutcome z u c (report_lists before a b) (refused_by (found x)) (report_lists after a b) u) (sym n)
      (ap refused_by j.number_is, ap (λ (w : List ℕ). report_lists w a b) (j.unchanged n), refl)

  -- accepted: the plan's numbers, and what was written
  step-taken : (x : Plan) → Judged u c before after (Ok x) → {v : World} {work a b a' b' : List ℕ} → BatchWritten u c before a b v work a' b' →
      ChangeStep u c (report_lists before a b) (reported_by u.state.limits x.count x.entries) (report_lists work a' b') v
  step-taken x j {v} {work} {a} {b} {a'} {b'} w =
      let n : is_accepted (number_for u c) ≡ true = judged-taken x j in
      let p : BatchPlan u c before after x = j.plan in
      let e : x.count ≡ length (touched_by (booked_in u) c) = p.plan.count-is in
      let d : x.entries ≡ entries_by (booked_in u) c = p.plan.entries-is in
      subst (λ (z : Bool). ChangeOutcome z u c (report_lists before a b) (reported_by u.state.limits x.count x.entries) (report_lists work a' b') v) (sym n) (
        (λ i. reported_by u.state.limits (e i) (d i)),
        (λ i. report_lists (w.work-is i) (w.touched-is i) (w.labels-is i)),
        w.exchanged,
      )

-- ---- of a factor, on the tables that are cut

module _ (s : Factor) (t : Tables) {w a b : List ℕ} (c : CanChange (state_of s) t w a b) {k : Change} {w' : List ℕ} where
  pub batch-refused : (x : Refused) → Judged (world_cut s t) k w w' (Err x) → {r : Changed} → AnswerIs (refused_by (found x)) (state_of s) r →
      UncheckedChange s t k (report_lists w a b) r (report_lists w' a b) t
  batch-refused x j q =
      whole-refused s t c k (report_lists w a b) (refused_by (found x)) (report_lists w' a b) (cut_tables (state_of s).sizes t) s.clock s.free s.book_free (step-refused x j a b) q refl

  pub batch-can : (x : Plan) → Judged (world_cut s t) k w w' (Ok x) → CanWriteBatch (world_cut s t) k w w' a b x
  batch-can x j = record { can = change-can s t c; accepted = judged-taken x j; plan = j.plan }

  pub batch-taken : (x : Plan) → Judged (world_cut s t) k w w' (Ok x) → (y : Tables) (f g : ℕ) {w'' a' b' : List ℕ} →
      BatchWritten (world_cut s t) k w a b (cut_world y (state_of s).limits s.clock f g) w'' a' b' →
      y.heads ≡ take s.m t.heads → {r : Changed} → AnswerIs (reported_by (state_of s).limits x.count x.entries) (with_heads (state_of s) f g) r →
      UncheckedChange s t k (report_lists w a b) r (report_lists w'' a' b') (join_but (state_of s).sizes y t)
  batch-taken x j y f g {w''} {a'} {b'} v h q =
      whole-batch s t c k (report_lists w a b) (reported_by (state_of s).limits x.count x.entries) (report_lists w'' a' b') y s.clock f g (step-taken x j v) q h

-- ---- lengths of the tables within their sizes

pub lengths : {s : State} {t : Tables} {w a b : List ℕ} → CanChange s t w a b → Cut s t
lengths {s} {t} c = cut s t c.can-use.usable.long
