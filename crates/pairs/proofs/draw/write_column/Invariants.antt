-- The place to write at lies within the list or just past it. Assumes nothing.
use Rattle.std.proofs.Common.{◌≤◌}
use Rattle.pairs.proofs.draw.write_column.Given as goal

abbrev pub invariant-loop-row : goal.invariant-loop-row
invariant-loop-row l = l.at ≤ 4200
