-- `differences::gather_below`, its loop: `Reaching`, the entries before a are passed, and their rows of the kind stand in the buffer after the k that were there.
use Rattle.differences.proofs.Passing.{Reaching}
use Rattle.differences.proofs.gather_below.Given as goal

abbrev pub invariant-loop-a : goal.invariant-loop-a
invariant-loop-a l = Reaching l.m l.initial.work l.k l.from l.to l.kind l.least l.work l.n l.a
