-- A turn writes the minutes of one id; after the last one none is left.
use Rattle.windows.proofs.Writing.{leaving-turn, leaving-end}
use Rattle.windows.proofs.minutes.leave.Goals as goal

pub loop-id-preserved : goal.loop-id-preserved
loop-id-preserved c = leaving-turn c.loop-id.invariant c.loop-id-test.true c.put_minutes.ensures

pub returns : goal.returns
returns c = leaving-end c.loop-id.invariant c.loop-id-test.false
