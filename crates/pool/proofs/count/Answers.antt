use Rattle.std.proofs.Common.{arith}
use Rattle.pool.proofs.Counting.{counting-step, counting-next, counting-ended}
use Rattle.pool.proofs.count.Goals as goal

pub returns-then-r-eq0 : goal.returns-then-r-eq0
returns-then-r-eq0 c = counting-ended c.loop-n.invariant c.if-r-eq0.true

pub bounds-next-r : goal.bounds-next-r
bounds-next-r c = let s = counting-step c.loop-n.invariant c.if-r-eq0.false in omega arith

pub loop-n-preserved : goal.loop-n-preserved
loop-n-preserved c = counting-next c.loop-n.invariant c.if-r-eq0.false c.loop-n-test.true
