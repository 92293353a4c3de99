-- `serve` meets its contract. Assumes nothing.
use Rattle.std.proofs.Common.{refl, ◌∙◌}
use Rattle.tables.specs.Tables.{tables_of}
use Rattle.listing_memory.specs.Memory.{Memory, memory_of}
use Rattle.listing_loop.proofs.Running.{given-start, given-next, found-same, found-given, found-end}
use Rattle.listing_loop.proofs.serve.Goals as goal

pub loop-input-init : goal.loop-input-init
loop-input-init c =
    let a = c.args in
    let r = c.requires in
    record {
      kept =
          record {
            ready = r.ready;
            list-long = refl;
            out-long = refl;
            line-long = c.next_line-input.auto.line ∙ r.line;
            piece-long = c.next_line-input.auto.piece ∙ r.piece;
          };
      found = given-next
          (given-start r.fresh a.piece.now a.out.now
          (memory_of a.factor (tables_of a.heads.now a.parents.now a.rows.now a.counts.now a.next.now a.book_heads.now a.book_rows.now a.book_next.now a.windows.now) a.work.now a.touched.now a.labels.now))
          c.next_line-input.ensures;
    }

pub loop-input-preserved : goal.loop-input-preserved
loop-input-preserved c =
    let i = c.loop-input.invariant in
    let y = c.answer-x in
    let z = c.next_line-input-in-Some in
    let w : Memory =
    memory_of y.result.factor
    (tables_of y.new.heads y.new.parents y.new.rows y.new.counts y.new.next y.new.book_heads y.new.book_rows y.new.book_next y.new.windows)
    y.new.work y.new.touched y.new.labels in
    record {
      kept =
          record {
            ready = y.ensures.ready;
            list-long = y.auto.list ∙ i.kept.list-long;
            out-long = found-same i.found y.new.out y.auto.out ∙ i.kept.out-long;
            line-long = z.auto.line ∙ i.kept.line-long;
            piece-long = z.auto.piece ∙ i.kept.piece-long;
          };
      found = given-next (found-given i.found {w = w} c.in-Some.is y.ensures.answered) z.ensures;
    }

pub returns : goal.returns
returns c = found-end c.loop-input.invariant.found c.in_default.is
