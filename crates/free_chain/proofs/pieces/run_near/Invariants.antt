-- The records passed follow one another.
use Rattle.free_chain.specs.Pieces.{RunsTo}
use Rattle.free_chain.proofs.pieces.run_near.Given as goal

abbrev pub invariant-loop-e : goal.invariant-loop-e
invariant-loop-e l = RunsTo l.next l.i l.e
