-- `position::rows_refusal` meets its contract: each return, and one turn. Assumes nothing.
use Rattle.std.proofs.Common.{arith}
use Rattle.refusals.proofs.Parts.{rows_start, rows-outside, rows-low, rows_more, rows_end}
use Rattle.refusals.proofs.position.rows_refusal.Goals as goal

pub loop-row-init : goal.loop-row-init
loop-row-init c = rows_start _ _

pub returns-then-outside : goal.returns-then-outside
returns-then-outside c = rows-outside c.loop-row.invariant c.loop-row-test.true c.outside.ensures c.if-outside.true

pub returns-then-row-above : goal.returns-then-row-above
returns-then-row-above c = rows-low c.loop-row.invariant c.loop-row-test.true c.outside.ensures c.if-outside.false (omega (arith, c.if-row-above.true))

pub loop-row-preserved : goal.loop-row-preserved
loop-row-preserved c = rows_more c.loop-row.invariant c.loop-row-test.true c.outside.ensures c.if-outside.false c.if-row-above.false

pub returns : goal.returns
returns c = rows_end c.loop-row.invariant c.loop-row-test.false
