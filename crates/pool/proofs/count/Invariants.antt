-- n records were counted, and the rest is linked from r on.
use Rattle.pool.proofs.Counting.{Counting}
use Rattle.pool.proofs.count.Given as goal

abbrev pub invariant-loop-n : goal.invariant-loop-n
invariant-loop-n l = Counting l.next l.fn.head.0 l.bound l.r l.n
