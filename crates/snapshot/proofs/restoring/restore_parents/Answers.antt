-- A turn brings one parent back.
use Rattle.snapshot.proofs.Returning.{taking-start, taking-next, taking-end}
use Rattle.snapshot.proofs.restoring.restore_parents.Goals as goal

pub loop-j-init : goal.loop-j-init
loop-j-init c = taking-start c.requires

pub loop-j-preserved : goal.loop-j-preserved
loop-j-preserved c = taking-next c.loop-j.invariant c.loop-j-test.true

pub returns : goal.returns
returns c = taking-end c.loop-j.invariant c.loop-j-test.false
