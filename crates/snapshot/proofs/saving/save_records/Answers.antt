-- A turn keeps one record.
use Rattle.snapshot.proofs.Keeping.{records-saving-start, records-saving-next, records-saving-end}
use Rattle.snapshot.proofs.saving.save_records.Goals as goal

pub loop-k-init : goal.loop-k-init
loop-k-init c = records-saving-start c.requires

pub loop-k-preserved : goal.loop-k-preserved
loop-k-preserved c = records-saving-next c.loop-k.invariant c.loop-k-test.true

pub returns : goal.returns
returns c = records-saving-end c.loop-k.invariant c.loop-k-test.false
