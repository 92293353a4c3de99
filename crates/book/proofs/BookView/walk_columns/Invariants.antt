-- The chains of the first i places were walked, and their last records named.
use Rattle.book.proofs.Through.{Through}
use Rattle.book.proofs.BookView.walk_columns.Given as goal

abbrev pub invariant-loop-i : goal.invariant-loop-i
invariant-loop-i l = Through l.self.heads.now l.self.rows.now l.self.next.now l.fn.scratch l.m l.scratch l.n l.i
