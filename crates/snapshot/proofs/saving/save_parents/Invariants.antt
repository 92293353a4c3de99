-- The first j parents are kept.
use Rattle.snapshot.proofs.Keeping.{ParentsSaving}
use Rattle.snapshot.proofs.saving.save_parents.Given as goal

abbrev pub invariant-loop-j : goal.invariant-loop-j
invariant-loop-j l = ParentsSaving l.parents l.fn.work l.a l.work l.j
