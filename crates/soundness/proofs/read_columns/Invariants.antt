-- Columns 1 to i were read.
use Rattle.book.specs.Views.{book_viewed}
use Rattle.tables.specs.Lent.{columns_viewed}
use Rattle.soundness.proofs.Columns.{ColumnsReading}
use Rattle.soundness.proofs.read_columns.Given as goal

abbrev pub invariant-loop-i : goal.invariant-loop-i
invariant-loop-i l =
    ColumnsReading (columns_viewed l.columns l.free.0) (book_viewed l.book l.book_free.0) l.fn.work l.work l.n l.i
