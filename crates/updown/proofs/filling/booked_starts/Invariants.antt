-- `updown::filling::booked_starts`, its loop: `Filling`, for all nexts that suit.
use Rattle.std.proofs.Common.{◌≡◌, List, ℕ, length}
use Rattle.lists.proofs.Over.{Filling}
use Rattle.book.specs.Book.{tables_of}
use Rattle.updown.specs.Entries.{booked_starts}
use Rattle.updown.proofs.filling.booked_starts.Given as goal

abbrev pub invariant-loop-k : goal.invariant-loop-k
invariant-loop-k l = (next : List ℕ) → length l.book_rows ≡ length next → Filling (booked_starts (tables_of l.book_heads l.book_rows next) l.ids) l.initial.starts l.starts l.k
