-- From the position at hand on, the batch can enter.
use Rattle.std.proofs.Common.{ℕ}
use Rattle.book.specs.Book.{Book, book_of}
use Rattle.entering.specs.Entering.{CanEnter}
use Rattle.entering.proofs.Entering.{Entering}
use Rattle.entering.proofs.enter_columns.Given as goal

abbrev pub invariant-loop-k : goal.invariant-loop-k
invariant-loop-k l =
    let b : Book = book_of l.fn.book_heads l.fn.book_rows l.fn.book_next l.fn.free.0 in
    (m : ℕ) → CanEnter m b l.ids l.row_counts l.row_list →
    Entering m b l.ids l.row_counts l.row_list (book_of l.book_heads l.book_rows l.book_next l.z.0) l.k l.a
