-- The premise of the next question, and room for its value: each is one of 32 bits. Assumes nothing.
use Rattle.std.proofs.Common.{◌*◌, ◌≤◌}
use Rattle.tables.specs.Tables.{tables_of}
use Rattle.factor.specs.Entries.{state_of}
use Rattle.admission.specs.Admission.{CanUse}
use Rattle.bench_driver.proofs.asking.meets_each.Given as goal

abbrev pub invariant-loop-done : goal.invariant-loop-done
invariant-loop-done l =
    CanUse (state_of l.factor) (tables_of l.heads l.parents l.rows l.counts l.next l.book_heads l.book_rows l.book_next l.windows) l.work ×
    (l.sum ≤ l.done * 4294967295)
