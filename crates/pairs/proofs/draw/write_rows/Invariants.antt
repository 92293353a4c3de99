-- The place to write at lies within the list or just past it. Assumes nothing.
use Rattle.std.proofs.Common.{◌≤◌}
use Rattle.pairs.proofs.draw.write_rows.Given as goal

abbrev pub invariant-loop-t : goal.invariant-loop-t
invariant-loop-t l = l.at ≤ 4200
