-- The first n rows are written, and the chain goes on.
use Rattle.std.proofs.Common.{◌-◌, length}
use Rattle.pool.specs.Chains.{chain}
use Rattle.book.proofs.Copying.{Copying}
use Rattle.book.proofs.BookView.copy_rows.Given as goal

abbrev pub invariant-loop-r : goal.invariant-loop-r
invariant-loop-r l = Copying l.self.rows.now l.self.next.now l.fn.list l.initial.r l.list l.r l.n

abbrev pub decreases-loop-r : goal.decreases-loop-r
decreases-loop-r l = length (chain l.self.next.now l.initial.r) - l.n
