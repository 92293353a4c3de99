-- `Factor::check` meets its contract: its reply is what its admission says. Assumes nothing.
use Rattle.tables.specs.Tables.{tables_of}
use Rattle.factor.specs.Entries.{state_of}
use Rattle.factor.proofs.Asking.{check-step}
use Rattle.factor.proofs.Factor.check.Goals as goal

pub returns-in-Err : goal.returns-in-Err
returns-in-Err c = rw c.refused.ensures (check-step (state_of c.args.self) (tables_of c.args.heads.now c.args.parents.now c.args.rows.now c.args.counts.now c.args.next.now c.args.book_heads.now c.args.book_rows.now c.args.book_next.now c.args.windows.now) c.args.work.now c.in-Err.ensures)

pub returns : goal.returns
returns c = rw c.of.ensures (check-step (state_of c.args.self) (tables_of c.args.heads.now c.args.parents.now c.args.rows.now c.args.counts.now c.args.next.now c.args.book_heads.now c.args.book_rows.now c.args.book_next.now c.args.windows.now) c.args.work.now c.in_default.ensures)
