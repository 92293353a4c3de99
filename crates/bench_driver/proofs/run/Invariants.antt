-- The premise of the next batch. Assumes nothing.
use Rattle.tables.specs.Tables.{tables_of}
use Rattle.factor.specs.Entries.{state_of}
use Rattle.answers.specs.Answers.{CanChange}
use Rattle.bench_driver.proofs.run.Given as goal

abbrev pub invariant-loop-done : goal.invariant-loop-done
invariant-loop-done l =
    CanChange (state_of l.after) (tables_of l.heads l.parents l.rows l.counts l.next l.book_heads l.book_rows l.book_next l.windows) l.work l.touched l.labels
