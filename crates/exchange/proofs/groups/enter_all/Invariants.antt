-- `exchange::groups::enter_all`, its loop: how far the scan has come (`Scanned`), the same loans, and `Entering`, for all R and B that the ids suit. The measure is the ids that are left.
use Rattle.std.proofs.Common.{List, length}
use Rattle.symbolic.specs.Columns.{Column}
use Rattle.book.specs.Views.{book_viewed}
use Rattle.tables.specs.Lent.{columns_lent, SameColumns}
use Rattle.windows.specs.Windows.{moves_from}
use Rattle.windows.specs.Chosen.{ids_on}
use Rattle.exchange.specs.Stages.{moving_ids, CanEnterAll}
use Rattle.exchange.proofs.Scanning.{gone, Scanned}
use Rattle.exchange.proofs.Entering.{Entering}
use Rattle.exchange.proofs.groups.enter_all.Given as goal

abbrev pub invariant-loop-group : goal.invariant-loop-group
invariant-loop-group l =
    Scanned l.book.heads.now (moves_from l.windows (length l.book.heads.now) l.minute l.other) l.i.0 × SameColumns l.initial.columns l.columns ×
    ((R B : List Column) →
    CanEnterAll (columns_lent l.initial.columns l.initial.z.0) (book_viewed l.book 0) (moving_ids l.book.heads.now l.windows l.minute l.other) l.initial.work R B →
    Entering R B (columns_lent l.initial.columns l.initial.z.0) (columns_lent l.columns l.z.0) l.initial.work l.work
    (gone l.book.heads.now (moves_from l.windows (length l.book.heads.now) l.minute l.other) l.i.0))

abbrev pub decreases-loop-group : goal.decreases-loop-group
decreases-loop-group l = length (ids_on l.book.heads.now (moves_from l.windows (length l.book.heads.now) l.minute l.other) l.i.0)
