-- `refusals::columns_refusal` meets its contract: each return, and one turn. Assumes nothing.
use mathlib.Core.Path.{refl, ◌∙◌}
use Rattle.early_refusals.proofs.Tests.{number-not0}
use Rattle.refusals.proofs.Positions.{columns-start, columns-refused, columns-more, columns-over, columns-end}
use Rattle.refusals.proofs.columns_refusal.Goals as goal

pub loop-k-init : goal.loop-k-init
loop-k-init c = columns-start _ _ _ _ _ _ _

pub returns-in-Err : goal.returns-in-Err
returns-in-Err c rows next free =
    c.at.ensures ∙ columns-refused c.loop-k.invariant c.loop-k-test.true c.requires c.in-Err.ensures (number-not0 c.in-Err.reason) rows next free

pub loop-k-preserved : goal.loop-k-preserved
loop-k-preserved c = columns-more c.loop-k.invariant c.loop-k-test.true c.requires c.in_default.ensures refl

pub returns-then-from-row_list : goal.returns-then-from-row_list
returns-then-from-row_list c rows next free =
    c.whole.ensures ∙ columns-over c.loop-k.invariant c.loop-k-test.false c.if-from-row_list.true rows next free

pub returns : goal.returns
returns c rows next free = columns-end c.loop-k.invariant c.loop-k-test.false c.if-from-row_list.false rows next free
