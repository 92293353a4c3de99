-- `refusals::ids_refusal` meets its contract: each return, and one turn. Assumes nothing.
use mathlib.Core.Path.{refl, ◌∙◌}
use Rattle.early_refusals.proofs.Tests.{number-not0}
use Rattle.refusals.proofs.Positions.{ids-start, ids-refused, ids_more, ids-end}
use Rattle.refusals.proofs.ids_refusal.Goals as goal

pub loop-k-init : goal.loop-k-init
loop-k-init c = ids-start _ _

pub returns-in-Err : goal.returns-in-Err
returns-in-Err c m rows next free =
    c.at.ensures ∙ ids-refused c.loop-k.invariant c.loop-k-test.true c.in-Err.ensures (number-not0 c.in-Err.reason) m rows next free

pub loop-k-preserved : goal.loop-k-preserved
loop-k-preserved c = ids_more c.loop-k.invariant c.loop-k-test.true c.in_default.ensures refl

pub returns : goal.returns
returns c m rows next free = ids-end c.loop-k.invariant c.loop-k-test.false m rows next free
