-- The first k rows of the list are gathered.
use Rattle.std.proofs.Common.{take}
use Rattle.differences.specs.Gather.{Gathering}
use Rattle.differences.proofs.gather_rows.Given as goal

abbrev pub invariant-loop-k : goal.invariant-loop-k
invariant-loop-k l = Gathering l.m l.fn.work l.work l.k (take l.k l.list)
