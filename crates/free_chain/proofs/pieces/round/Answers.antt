-- A turn steps one piece: it stays in the queue, or the last of the queue takes its place, or the budget is spent.
use Rattle.std.proofs.Common.{arith}
use Rattle.free_chain.proofs.Rounding.{rounding-can, rounding-kept, rounding-on, rounding-drop, queue-none}
use Rattle.free_chain.proofs.pieces.round.Goals as goal

pub step-requires : goal.step-requires
step-requires c = rounding-can c.requires c.loop-q.invariant.0 c.loop-q-test.true

pub loop-q-preserved-in-None : goal.loop-q-preserved-in-None
loop-q-preserved-in-None c = (rounding-drop c.requires c.loop-q.invariant.0 c.loop-q-test.true c.step.ensures.stepped, omega arith)

pub returns-then-rest-walked : goal.returns-then-rest-walked
returns-then-rest-walked c =
    record {
      kept = rounding-kept c.requires c.loop-q.invariant.0 c.loop-q-test.true c.step.ensures.stepped;
      queue = queue-none _ _;
      budget = omega arith;
    }

pub loop-q-preserved : goal.loop-q-preserved
loop-q-preserved c = (rounding-on c.requires c.loop-q.invariant.0 c.loop-q-test.true c.step.ensures.stepped, omega (arith, c.in-Some.ensures.walked))
