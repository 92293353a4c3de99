-- A turn writes the minutes of one id; after the last one all have theirs.
use Rattle.windows.proofs.Writing.{entering-turn, entering-end}
use Rattle.windows.proofs.minutes.enter.Goals as goal

pub loop-k-preserved : goal.loop-k-preserved
loop-k-preserved c = entering-turn c.loop-k.invariant c.loop-k-test.true c.put_minutes.ensures

pub returns : goal.returns
returns c = entering-end c.loop-k.invariant c.loop-k-test.false
