-- `updown::filling::booked_starts` meets its contract. Assumes nothing.
use Rattle.book.specs.Book.{tables_of}
use Rattle.updown.proofs.Filled.{booked-filling, booked-filling-next, booked-filled}
use Rattle.updown.proofs.filling.booked_starts.Goals as goal

pub loop-k-init : goal.loop-k-init
loop-k-init c = λ next e. booked-filling (tables_of c.args.book_heads.now c.args.book_rows.now next) c.args.ids.now c.requires.0

pub loop-k-preserved : goal.loop-k-preserved
loop-k-preserved c =
    λ next e.
    booked-filling-next (tables_of c.args.book_heads.now c.args.book_rows.now next) c.args.ids.now (c.loop-k.invariant next e) c.loop-k-test.true
    (c.smallest_row.ensures next e)

pub returns : goal.returns
returns c = λ next e. booked-filled (tables_of c.args.book_heads.now c.args.book_rows.now next) c.args.ids.now (c.loop-k.invariant next e) c.loop-k-test.false
