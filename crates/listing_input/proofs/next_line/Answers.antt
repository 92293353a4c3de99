-- `next_line` meets its contract. Assumes nothing.
use Rattle.std.proofs.Common.{arith}
use Rattle.listing_input.proofs.Taking.{taking-start, taking-piece, taking-line, taking-end}
use Rattle.listing_input.proofs.next_line.Goals as goal

pub loop-after-init : goal.loop-after-init
loop-after-init c = taking-start c.requires _ (omega (arith, c.requires.waits))

pub returns-in-Some : goal.returns-in-Some
returns-in-Some c = taking-line c.args.input c.args.added c.loop-after.invariant c.take_line-taken.ensures c.in-Some.is c.make_room-room.ensures

pub returns-then-over : goal.returns-then-over
returns-then-over c =
    let i = c.loop-after.invariant in
    let a = taking-piece i c.take_line-taken.ensures c.in_default.is c.next_piece-got.ensures c.next_piece-got.auto.piece c.take_line-taken.auto.line in
    rw c.then_some.ensures
    (taking-end c.args.input c.args.added a (c.next_piece-got.ensures.none (omega (arith, c.next_piece-got.auto.piece, i.piece-long)) c.if-over.true) c.if-over.true c.requires.room)

pub loop-after-preserved : goal.loop-after-preserved
loop-after-preserved c =
    taking-piece c.loop-after.invariant c.take_line-taken.ensures c.in_default.is c.next_piece-got.ensures c.next_piece-got.auto.piece c.take_line-taken.auto.line
