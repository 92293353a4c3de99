-- Some records are done, and the table is the lent one with their rows counted.
use Rattle.std.proofs.Common.{length}
use Rattle.pool.specs.Chains.{chain}
use Rattle.book.proofs.Counting.{Counting}
use Rattle.book.proofs.BookView.count_rows.Given as goal

abbrev pub invariant-loop-r : goal.invariant-loop-r
invariant-loop-r l = Counting l.self.rows.now l.self.next.now l.fn.counters l.initial.r l.counters l.size l.r

abbrev pub decreases-loop-r : goal.decreases-loop-r
decreases-loop-r l = length (chain l.self.next.now l.r)
