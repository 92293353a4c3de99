-- `exchange::reporting::report`, its loop: `Reports`, for all tables and columns that the places suit.
use Rattle.std.proofs.Common.{List, ℕ}
use Rattle.symbolic.specs.Columns.{Column}
use Rattle.tables.specs.Stored.{stored_of}
use Rattle.exchange.specs.Exchange.{CanReport}
use Rattle.exchange.proofs.Reports.{Reports}
use Rattle.exchange.proofs.reporting.report.Given as goal

abbrev pub invariant-loop-j : goal.invariant-loop-j
invariant-loop-j l =
    (ps xs ns : List ℕ) (z : ℕ) (R A B : List Column) (c : CanReport (stored_of l.heads ps xs ns l.next z) R A B l.work l.initial.touched l.initial.labels) →
    Reports c l.touched l.labels l.j l.t l.entries
