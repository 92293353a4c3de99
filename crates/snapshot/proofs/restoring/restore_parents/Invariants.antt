-- The first j parents are back.
use Rattle.snapshot.proofs.Returning.{Taking}
use Rattle.snapshot.proofs.restoring.restore_parents.Given as goal

abbrev pub invariant-loop-j : goal.invariant-loop-j
invariant-loop-j l = Taking l.fn.parents l.work l.a l.parents l.j
