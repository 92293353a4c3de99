-- What the check does not find of `answer`: that the rows of an addition and a refused line have room, and that an opening and an addition answer the line's
-- command (proofs/Answering.antt).
use Rattle.std.proofs.Common.{sym, ◌∙◌, arith, take}
use Rattle.tables.specs.Tables.{sizes_of, tables_of}
use Rattle.listing_memory.specs.Memory.{memory_of}
use Rattle.listing_show.proofs.Showing.{no-fits}
use Rattle.listing_answers.proofs.Lines.{rows_fit, rows-listed}
use Rattle.listing_answers.proofs.Answering.{unknown, shows, can-show, adds, opens}
use Rattle.listing_answers.proofs.answer.Goals as goal

pub add_line-requires-clause-listed : goal.add_line-requires-clause-listed
add_line-requires-clause-listed c =
    rows_fit c.args.line.now c.args.list.now c.parse-asked.new.rows c.in-Add.id c.in-Add.count (sym c.parse-asked.ensures.command ∙ c.in-Add.is) c.parse-asked.ensures.rows_are

pub no_line-end-requires : goal.no_line-end-requires
no_line-end-requires c = no-fits (omega arith) (omega arith) (omega (arith, c.requires.room))

pub returns-in-Open-clause-answered : goal.returns-in-Open-clause-answered
returns-in-Open-clause-answered c =
    let a = c.args in
    let l = c.open_line.new in
    opens (sizes_of c.in-Open.m c.in-Open.n c.in-Open.f c.in-Open.c)
    (tables_of a.heads.now a.parents.now a.rows.now a.counts.now a.next.now a.book_heads.now a.book_rows.now a.book_next.now a.windows.now) a.work.now a.factor a.touched.now a.labels.now a.out.now
    (tables_of l.heads l.parents l.rows l.counts l.next l.book_heads l.book_rows l.book_next l.windows) l.work l.out c.requires.ready a.line.now c.open_line.result c.open_line.ensures
    (sym c.parse-asked.ensures.command ∙ c.in-Open.is)

pub returns-in-Open-clause-ready : goal.returns-in-Open-clause-ready
returns-in-Open-clause-ready c =
    let g = c.requires.ready.lengths in
    let o = c.open_line.auto in
    record {
      lengths = record {
        heads = omega (arith, g.heads, o.heads);
        parents = omega (arith, g.parents, o.parents);
        rows = omega (arith, g.rows, o.rows);
        counts = omega (arith, g.counts, o.counts);
        next = omega (arith, g.next, o.next);
        book-heads = omega (arith, g.book-heads, o.book_heads);
        book-rows = omega (arith, g.book-rows, o.book_rows);
        book-next = omega (arith, g.book-next, o.book_next);
        windows = omega (arith, g.windows, o.windows);
        work = omega (arith, g.work, o.work);
        touched = omega (arith, g.touched);
        labels = omega (arith, g.labels);
      };
      usable = (returns-in-Open-clause-answered c).usable;
    }

pub returns-in-Add-clause-answered : goal.returns-in-Add-clause-answered
returns-in-Add-clause-answered c =
    let a = c.args in
    let m = memory_of a.factor (tables_of a.heads.now a.parents.now a.rows.now a.counts.now a.next.now a.book_heads.now a.book_rows.now a.book_next.now a.windows.now) a.work.now a.touched.now a.labels.now in
    adds a.line.now m c.in-Add.id c.in-Add.count (take c.in-Add.count c.parse-asked.new.rows) (sym c.parse-asked.ensures.command ∙ c.in-Add.is)
    (rows-listed a.line.now a.list.now c.parse-asked.new.rows c.in-Add.id c.in-Add.count (sym c.parse-asked.ensures.command ∙ c.in-Add.is) c.parse-asked.ensures.rows_are)
    c.add_line.ensures

pub show-end-requires : goal.show-end-requires
show-end-requires c =
    let a = c.args in
    can-show a.factor (tables_of a.heads.now a.parents.now a.rows.now a.counts.now a.next.now a.book_heads.now a.book_rows.now a.book_next.now a.windows.now) a.work.now a.touched.now a.labels.now
    c.requires.ready (omega (arith, c.requires.places, c.parse-asked.auto.rows)) c.requires.room

pub returns-in-Show-clause-answered : goal.returns-in-Show-clause-answered
returns-in-Show-clause-answered c =
    let a = c.args in
    shows a.line.now
    (memory_of a.factor (tables_of a.heads.now a.parents.now a.rows.now a.counts.now a.next.now a.book_heads.now a.book_rows.now a.book_next.now a.windows.now) a.work.now a.touched.now a.labels.now)
    (sym c.parse-asked.ensures.command ∙ c.in-Show.is) c.requires.ready.usable c.show-end.ensures

pub returns-in-Unknown-clause-answered : goal.returns-in-Unknown-clause-answered
returns-in-Unknown-clause-answered c =
    let a = c.args in
    unknown a.line.now
    (memory_of a.factor (tables_of a.heads.now a.parents.now a.rows.now a.counts.now a.next.now a.book_heads.now a.book_rows.now a.book_next.now a.windows.now) a.work.now a.touched.now a.labels.now)
    (sym c.parse-asked.ensures.command ∙ c.in-Unknown.is) c.requires.ready.usable c.no_line-end.ensures
