-- `differences::pass`, its loop: `Passing`, the entries before a are below the row.
use Rattle.differences.proofs.Passing.{Passing}
use Rattle.differences.proofs.pass.Given as goal

abbrev pub invariant-loop-a : goal.invariant-loop-a
invariant-loop-a l = Passing l.m l.work l.from l.to l.least l.a
