-- `updown::starts::count_booked`, its loop: `Counting`, for all batches that the book has.
use Rattle.std.proofs.Common.{List}
use Rattle.symbolic.specs.Columns.{Column}
use Rattle.updown.specs.Starts.{CanStart, BookHolds}
use Rattle.updown.proofs.Listing.{Counting}
use Rattle.updown.proofs.starts.count_booked.Given as goal

abbrev pub invariant-loop-k : goal.invariant-loop-k
invariant-loop-k l =
    (R W : List Column) → BookHolds l.book.heads.now l.book.rows.now l.book.next.now l.starts l.ids l.m W → CanStart l.m R W l.adding l.initial.work l.j.0 →
    Counting l.m R W l.adding l.initial.work l.work l.n l.j.0 l.k
