-- Some records were met, each fits and has lost its counter, and their rows stand in the stash.
use Rattle.soundness.proofs.Checking.{Checking}
use Rattle.soundness.proofs.check_chain.Given as goal

abbrev pub invariant-loop-k : goal.invariant-loop-k
invariant-loop-k l = Checking l.rows l.counts l.next l.fn.work l.m l.met l.fn.head.0 l.work l.r l.last l.before l.k
