-- The first k records are back.
use Rattle.snapshot.proofs.Returning.{Unpairing}
use Rattle.snapshot.proofs.restoring.restore_records.Given as goal

abbrev pub invariant-loop-k : goal.invariant-loop-k
invariant-loop-k l = Unpairing l.fn.rows l.fn.counts l.fn.next l.work l.a l.rows l.counts l.next l.k
