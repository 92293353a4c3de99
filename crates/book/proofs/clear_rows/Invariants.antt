-- What is left to clear gives the same rows and the same last record as the whole chain.
use Rattle.std.proofs.Common.{length}
use Rattle.pool.specs.Chains.{chain}
use Rattle.book.proofs.Writing.{Clearing}
use Rattle.book.proofs.clear_rows.Given as goal

abbrev pub invariant-loop-r : goal.invariant-loop-r
invariant-loop-r l = Clearing l.fn.rows l.next l.fn.head.0 l.rows l.r l.last

abbrev pub decreases-loop-r : goal.decreases-loop-r
decreases-loop-r l = length (chain l.next l.r)
