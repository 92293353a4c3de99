-- `show_pairs` meets its contract. Assumes nothing.
use Rattle.std.proofs.Common.{◌+◌, ◌*◌, arith}
use Rattle.listing_show.proofs.Showing.{pairing-start, pairing-room, pairing-keep}
use Rattle.listing_show.proofs.show_pairs.Goals as goal

pub loop-i-init : goal.loop-i-init
loop-i-init c = pairing-start c.requires

pub show_pair-end-requires : goal.show_pair-end-requires
show_pair-end-requires c =
    let i = c.loop-i.i in
    record { room = pairing-room c.requires c.loop-i.invariant c.loop-i-test.true (omega (arith, c.type_inv.list (2 * i))) (omega (arith, c.type_inv.list (2 * i + 1))) }

pub loop-i-preserved : goal.loop-i-preserved
loop-i-preserved c =
    let i = c.loop-i.i in
    pairing-keep c.requires c.loop-i.invariant c.loop-i-test.true (omega (arith, c.type_inv.list (2 * i))) (omega (arith, c.type_inv.list (2 * i + 1)))
    c.show_pair-end.ensures c.show_pair-end.auto.out
