-- The first k records are kept.
use Rattle.snapshot.proofs.Keeping.{RecordsSaving}
use Rattle.snapshot.proofs.saving.save_records.Given as goal

abbrev pub invariant-loop-k : goal.invariant-loop-k
invariant-loop-k l = RecordsSaving l.rows l.counts l.next l.fn.work l.a l.work l.k
