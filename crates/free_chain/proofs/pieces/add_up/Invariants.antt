-- So many steps lead from the head to r; the measure is what is left of the cuts.
use Rattle.free_chain.proofs.Adding.{Adding}
use Rattle.free_chain.proofs.pieces.add_up.Given as goal

abbrev pub invariant-loop-r : goal.invariant-loop-r
invariant-loop-r l = Adding l.scratch l.cuts l.total l.r l.left

abbrev pub decreases-loop-r : goal.decreases-loop-r
decreases-loop-r l = l.left
