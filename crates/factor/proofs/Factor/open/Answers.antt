-- `Factor::open` meets its contract: refused by 1 to 5 or 20 with everything as lent, or all tables are written. Assumes nothing.
use Rattle.std.proofs.lemmas.Result.{err_from_is_err_and}
use Rattle.symbolic.specs.Grades.{limits_of}
use Rattle.tables.specs.Tables.{tables_of}
use Rattle.factor.proofs.Openings.{open-refused, open-writes, open_done}
use Rattle.factor.proofs.Factor.open.Goals as goal

pub returns-in_err-early : goal.returns-in_err-early
returns-in_err-early c =
    let p = err_from_is_err_and c.from_residual.result c.from_residual.ensures.1 in
    rw (p.1, p.2) (open-refused c.args.m c.args.n c.args.f c.args.c (limits_of c.args.grade2 c.args.grade3 c.args.grade4) (tables_of c.args.heads.now c.args.parents.now c.args.rows.now c.args.counts.now c.args.next.now c.args.book_heads.now c.args.book_rows.now c.args.book_next.now c.args.windows.now) c.args.work.now c.default_records-records.ensures c.default_limits-limits.ensures
    c.are_limits-keeps_rule.ensures _ c.in_err-early.ensures)

pub write-free-requires : goal.write-free-requires
write-free-requires c =
    open-writes c.args.m c.args.n c.args.f c.args.c (limits_of c.args.grade2 c.args.grade3 c.args.grade4) (tables_of c.args.heads.now c.args.parents.now c.args.rows.now c.args.counts.now c.args.next.now c.args.book_heads.now c.args.book_rows.now c.args.book_next.now c.args.windows.now) c.args.work.now c.default_records-records.ensures c.default_limits-limits.ensures
    c.are_limits-keeps_rule.ensures c.in_ok-early.ensures

pub returns : goal.returns
returns c =
    open_done c.args.m c.args.n c.args.f c.args.c (limits_of c.args.grade2 c.args.grade3 c.args.grade4) (tables_of c.args.heads.now c.args.parents.now c.args.rows.now c.args.counts.now c.args.next.now c.args.book_heads.now c.args.book_rows.now c.args.book_next.now c.args.windows.now) c.args.work.now c.default_records-records.ensures c.default_limits-limits.ensures
    c.are_limits-keeps_rule.ensures c.in_ok-early.ensures c.write-free.ensures
