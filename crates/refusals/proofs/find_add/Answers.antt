-- `refusals::find_add` meets its contract: the lists in step, the positions, then the free records for as many rows as the list has. Assumes nothing.
use mathlib.Core.Path.{◌∙◌}
use native.Mathlib.Omega.{arith}
use Rattle.book.specs.Book.{book_of}
use Rattle.book.proofs.Sound.{free-linked}
use Rattle.refusals.proofs.Finding.{few-rows, add-fits, add-full}
use Rattle.refusals.proofs.find_add.Goals as goal

pub overflow_cast-row_list : goal.overflow_cast-row_list
overflow_cast-row_list c =
    omega (
      arith,
      few-rows c.args.m (book_of c.args.book_heads.now c.requires.rows c.args.book_next.now c.args.book_free.0) c.args.ids.now c.args.row_counts.now c.args.row_list.now c.args.firsts.now
          c.args.seconds.now c.out_of_step.ensures c.if-out_of_step.false (c.in_ok-columns_refusal.ensures c.requires.rows c.args.book_next.now c.args.book_free.0),
    )

-- the free records are linked, as those of every sound book are
-- (an edit that must fail has a sum here)
pub fits-requires : goal.fits-requires
fits-requires c =
    free-linked c.args.m (book_of c.args.book_heads.now c.requires.rows c.args.book_next.now c.args.book_free.0) c.requires.sound

pub returns-then-fits : goal.returns-then-fits
returns-then-fits c rows sound =
    add-fits c.args.m (book_of c.args.book_heads.now rows c.args.book_next.now c.args.book_free.0) c.args.ids.now c.args.row_counts.now c.args.row_list.now c.args.firsts.now c.args.seconds.now
    c.out_of_step.ensures c.if-out_of_step.false (c.in_ok-columns_refusal.ensures rows c.args.book_next.now c.args.book_free.0) sound c.fits.ensures c.if-fits.true

pub returns : goal.returns
returns c rows sound =
    c.whole-2.ensures ∙
    add-full c.args.m (book_of c.args.book_heads.now rows c.args.book_next.now c.args.book_free.0) c.args.ids.now c.args.row_counts.now c.args.row_list.now c.args.firsts.now c.args.seconds.now
    c.out_of_step.ensures c.if-out_of_step.false (c.in_ok-columns_refusal.ensures rows c.args.book_next.now c.args.book_free.0) sound c.fits.ensures c.if-fits.false
