-- A turn takes the column of one id out.
use Rattle.entering.proofs.Leaving.{leaving-end, leaving-can, leaving-turn}
use Rattle.entering.proofs.leave_columns.Goals as goal

pub remove_column-z-requires : goal.remove_column-z-requires
remove_column-z-requires c = leaving-can (c.loop-id.invariant c.requires.m c.requires.can) c.loop-id-test.true

pub loop-id-preserved : goal.loop-id-preserved
loop-id-preserved c = λ m can. leaving-turn (c.loop-id.invariant m can) c.loop-id-test.true c.remove_column-z.ensures

pub returns : goal.returns
returns c = λ m can. leaving-end (c.loop-id.invariant m can) c.loop-id-test.false
