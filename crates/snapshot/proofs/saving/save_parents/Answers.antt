-- A turn keeps one parent.
use Rattle.snapshot.proofs.Keeping.{parents-saving-start, parents-saving-next, parents-saving-end}
use Rattle.snapshot.proofs.saving.save_parents.Goals as goal

pub loop-j-init : goal.loop-j-init
loop-j-init c = parents-saving-start c.requires

pub loop-j-preserved : goal.loop-j-preserved
loop-j-preserved c = parents-saving-next c.loop-j.invariant c.loop-j-test.true

pub returns : goal.returns
returns c = parents-saving-end c.loop-j.invariant c.loop-j-test.false
