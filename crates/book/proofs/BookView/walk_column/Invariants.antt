-- Some records were followed, and their rows rise up to `above`; they can still rise to m.
use Rattle.std.proofs.Common.{◌-◌}
use Rattle.book.proofs.Walks.{Following}
use Rattle.book.proofs.BookView.walk_column.Given as goal

abbrev pub invariant-loop-r : goal.invariant-loop-r
invariant-loop-r l = Following l.rows l.next l.m l.initial.r l.r l.last l.above l.k

abbrev pub decreases-loop-r : goal.decreases-loop-r
decreases-loop-r l = l.m - l.above
