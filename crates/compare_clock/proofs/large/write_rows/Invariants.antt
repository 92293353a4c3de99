-- The first row of the next column is one of rows 1 to 40. Assumes nothing.
use Rattle.std.proofs.Common.{◌≤◌}
use Rattle.compare_clock.proofs.large.write_rows.Given as goal

abbrev pub invariant-loop-k : goal.invariant-loop-k
invariant-loop-k l = l.row ≤ 40
