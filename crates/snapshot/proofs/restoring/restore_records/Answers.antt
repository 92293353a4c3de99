-- A turn brings one record back.
use Rattle.snapshot.proofs.Returning.{unpairing-start, unpairing-next, unpairing-end}
use Rattle.snapshot.proofs.restoring.restore_records.Goals as goal

pub loop-k-init : goal.loop-k-init
loop-k-init c = unpairing-start c.requires

pub loop-k-preserved : goal.loop-k-preserved
loop-k-preserved c = unpairing-next c.loop-k.invariant c.loop-k-test.true

pub returns : goal.returns
returns c = unpairing-end c.loop-k.invariant c.loop-k-test.false
