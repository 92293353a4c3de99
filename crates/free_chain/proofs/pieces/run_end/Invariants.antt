-- The records passed follow one another.
use Rattle.std.proofs.Common.{◌-◌, ◌<◌, ◌≤◌, length}
use Rattle.free_chain.specs.Pieces.{RunsTo}
use Rattle.free_chain.proofs.pieces.run_end.Given as goal

abbrev pub invariant-loop-e : goal.invariant-loop-e
invariant-loop-e l = (l.top < length l.next) × (l.e ≤ l.top) × RunsTo l.next l.i l.e

abbrev pub decreases-loop-e : goal.decreases-loop-e
decreases-loop-e l = l.top - l.e
