-- `differences::bump`, its loop: `Bumping`, the rows before place i of the buffer are counted.
use Rattle.differences.proofs.Bumping.{Bumping}
use Rattle.differences.proofs.bump.Given as goal

abbrev pub invariant-loop-i : goal.invariant-loop-i
invariant-loop-i l = Bumping l.m l.initial.work l.n l.k l.up l.work l.i l.f
