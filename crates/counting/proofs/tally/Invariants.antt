-- The rows at places a to k - 1 are counted.
use Rattle.counting.proofs.Tallies.{Tallying}
use Rattle.counting.proofs.tally.Given as goal

abbrev pub invariant-loop-k : goal.invariant-loop-k
invariant-loop-k l = Tallying l.fn.work l.a l.e l.work l.size l.k
