-- The first k ids have their minutes.
use Rattle.windows.proofs.Writing.{Entering}
use Rattle.windows.proofs.minutes.enter.Given as goal

abbrev pub invariant-loop-k : goal.invariant-loop-k
invariant-loop-k l = Entering l.fn.windows l.n l.ids l.firsts l.seconds l.windows l.k
