use Rattle.std.proofs.Common.{arith}
use Rattle.book.proofs.Columns.{start_none, start-head}
use Rattle.book.proofs.smallest_row.Goals as goal

pub returns-in-0 : goal.returns-in-0
returns-in-0 c = start_none c.args.heads.now c.args.rows.now c.args.id.0 c.in-0.is

pub returns-in_default : goal.returns-in_default
returns-in_default c = start-head c.args.heads.now c.args.rows.now c.args.id.0 (λ z. omega arith) c.requires.within
