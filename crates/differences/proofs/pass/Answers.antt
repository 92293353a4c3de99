-- `differences::pass` meets its contract. Assumes nothing.
use Rattle.std.proofs.Common.{arith}
use Rattle.differences.proofs.Passing.{passing-start, passing-next, passed-stop, passed-end}
use Rattle.differences.proofs.pass.Goals as goal

pub loop-a-init : goal.loop-a-init
loop-a-init c = passing-start c.requires.order

pub returns-then-least-row_of : goal.returns-then-least-row_of
returns-then-least-row_of c = passed-stop c.loop-a.invariant (omega arith)

pub loop-a-preserved : goal.loop-a-preserved
loop-a-preserved c = passing-next c.loop-a.invariant c.requires.long c.loop-a-test.true (omega arith)

pub returns : goal.returns
returns c = passed-end c.loop-a.invariant (omega arith)
