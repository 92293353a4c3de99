-- The first places of the list have the ids up to i, and the rest comes.
use Rattle.std.proofs.Common.{length}
use Rattle.windows.specs.Windows.{moves_from}
use Rattle.windows.proofs.Collecting.{Collecting}
use Rattle.windows.proofs.collect.Given as goal

abbrev pub invariant-loop-i : goal.invariant-loop-i
invariant-loop-i l =
    Collecting l.book_heads (moves_from l.windows (length l.book_heads) l.minute l.other) l.fn.first.0 l.fn.list l.list l.count l.i
