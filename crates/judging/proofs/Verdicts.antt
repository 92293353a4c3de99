-- A verdict: one that refuses leaves the work table as lent (`refused-judged`), one that accepts has the plan (`planned-judged`); and what a verdict says to the
-- caller (`judged-taken`, `judged-not`). Assumes nothing.
use mathlib.Core.Path.{◌≡◌, sym, ap, ◌∙◌}
use mathlib.Core.Bool.{true, false, true≢false}
use mathlib.Core.List.{List}
use Prim.Native.Nat.{ℕ}
use Rattle.std.specs.Prelude.{Ok, Err}
use Rattle.calls.specs.Refusals.{accepted, is_accepted}
use Rattle.calls.specs.Calls.{Change}
use Rattle.calls.specs.Steps.{World}
use Rattle.steps.specs.Outcome.{number_for}
use Rattle.early_refusals.proofs.Tests.{number-some}
use Rattle.refusals.specs.declared.Refused.{Refused}
use Rattle.refusals.specs.Found.{found}
use Rattle.updown.specs.declared.Plan.{Plan}
use Rattle.judging.specs.Judging.{BatchPlan, Judged}

-- a verdict that refuses leaves the work table; whatever the change
pub refused-judged : {u : World} {c : Change} {before after : List ℕ} (x : Refused) → found x ≡ number_for u c → after ≡ before → Judged u c before after (Err x)
refused-judged x e same = record { number_is = e; plan = tt; unchanged = λ z. same }

-- one that accepts has the plan
pub planned-judged : {u : World} {c : Change} {before after : List ℕ} (x : Plan) → accepted ≡ number_for u c → BatchPlan u c before after x →
    Judged u c before after (Ok x)
planned-judged x e p = record { number_is = e; plan = p; unchanged = λ z. absurd (true≢false (ap is_accepted e ∙ z)) }

pub judged-taken : {u : World} {c : Change} {before after : List ℕ} (x : Plan) → Judged u c before after (Ok x) → is_accepted (number_for u c) ≡ true
judged-taken x j = sym (ap is_accepted j.number_is)

pub judged-not : {u : World} {c : Change} {before after : List ℕ} (x : Refused) → Judged u c before after (Err x) → is_accepted (number_for u c) ≡ false
judged-not x j = ap is_accepted (sym j.number_is) ∙ number-some x.refusal
