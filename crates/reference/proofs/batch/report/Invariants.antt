-- No more rows are written than are gone through. Assumes nothing.
use Rattle.std.proofs.Common.{◌≤◌}
use Rattle.reference.proofs.batch.report.Given as goal

abbrev pub invariant-loop-k : goal.invariant-loop-k
invariant-loop-k l = l.count ≤ l.k
