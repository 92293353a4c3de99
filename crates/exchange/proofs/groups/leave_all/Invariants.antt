-- `exchange::groups::leave_all`, its loop: how far the scan has come (`Scanned`), the same loans, and `Leaving`, for all R and A that the ids suit. The measure is the ids that are left.
use Rattle.std.proofs.Common.{List, length}
use Rattle.symbolic.specs.Columns.{Column}
use Rattle.book.specs.Views.{book_viewed}
use Rattle.tables.specs.Lent.{columns_lent, SameColumns}
use Rattle.windows.specs.Windows.{moves_from}
use Rattle.windows.specs.Chosen.{ids_on}
use Rattle.exchange.specs.Stages.{moving_ids, CanLeaveAll}
use Rattle.exchange.proofs.Scanning.{gone, Scanned}
use Rattle.exchange.proofs.Leaving.{Leaving}
use Rattle.exchange.proofs.groups.leave_all.Given as goal

abbrev pub invariant-loop-group : goal.invariant-loop-group
invariant-loop-group l =
    Scanned l.book.heads.now (moves_from l.windows (length l.book.heads.now) l.minute l.other) l.i.0 × SameColumns l.initial.columns l.columns ×
    ((R A : List Column) →
    CanLeaveAll (columns_lent l.initial.columns l.initial.z.0) (book_viewed l.book 0) (moving_ids l.book.heads.now l.windows l.minute l.other) l.initial.work R A →
    Leaving R A (columns_lent l.initial.columns l.initial.z.0) (columns_lent l.columns l.z.0) l.initial.work l.work
    (gone l.book.heads.now (moves_from l.windows (length l.book.heads.now) l.minute l.other) l.i.0))

abbrev pub decreases-loop-group : goal.decreases-loop-group
decreases-loop-group l = length (ids_on l.book.heads.now (moves_from l.windows (length l.book.heads.now) l.minute l.other) l.i.0)
