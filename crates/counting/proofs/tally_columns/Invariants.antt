-- Some ids are done, and the table is the lent one with their rows counted.
use Rattle.std.proofs.Common.{length}
use Rattle.workspace.specs.Layout.{column_next}
use Rattle.workspace.specs.Regions.{region}
use Rattle.pool.specs.Chains.{chain}
use Rattle.counting.proofs.Starting.{Starting}
use Rattle.counting.proofs.tally_columns.Given as goal

abbrev pub invariant-loop-i : goal.invariant-loop-i
invariant-loop-i l = Starting l.book.heads.now l.book.rows.now l.book.next.now l.fn.work l.m l.f l.column l.work l.size l.i

abbrev pub decreases-loop-i : goal.decreases-loop-i
decreases-loop-i l = length (chain (region l.fn.work (column_next l.m l.f (length l.book.next.now)) (length l.book.heads.now)) l.i)
