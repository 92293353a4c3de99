-- What is left to write gives the same rows as the whole list.
use Rattle.book.proofs.Writing.{Writing}
use Rattle.book.proofs.write_rows.Given as goal

abbrev pub invariant-loop-v : goal.invariant-loop-v
invariant-loop-v l = Writing l.fn.rows l.next l.list l.fn.head.0 l.rows l.r l.last l.v-index
