-- From the position at hand on, the ids can leave.
use Rattle.std.proofs.Common.{ℕ}
use Rattle.book.specs.Book.{Book, book_of}
use Rattle.entering.specs.Entering.{CanLeave}
use Rattle.entering.proofs.Leaving.{Leaving}
use Rattle.entering.proofs.leave_columns.Given as goal

abbrev pub invariant-loop-id : goal.invariant-loop-id
invariant-loop-id l =
    let b : Book = book_of l.fn.book_heads l.fn.book_rows l.fn.book_next l.fn.free.0 in
    (m : ℕ) → CanLeave m b l.ids → Leaving m b l.ids (book_of l.book_heads l.book_rows l.book_next l.z.0) l.id-index
