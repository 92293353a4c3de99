-- `updown::starts::count_booked` meets its contract. Assumes nothing.
use Rattle.std.proofs.Common.{arith}
use Rattle.updown.proofs.Booking.{booked-size, part_length, booked-ready, booked-steady, booked-gathered, booked-here, booked-past}
use Rattle.updown.proofs.Gathering.{can-count}
use Rattle.updown.proofs.Listing.{counting-start, counting-end}
use Rattle.updown.proofs.starts.count_booked.Goals as goal
use Rattle.updown.proofs.starts.count_booked.Goals.{then-starts-k, else-starts-k}

pub loop-k-init : goal.loop-k-init
loop-k-init c = λ R W h can. counting-start can

pub bounds-starts-k : goal.bounds-starts-k
bounds-starts-k c = omega (arith, booked-size c.requires.holds)

pub copy_rows-g-requires : goal.copy_rows-g-requires
copy_rows-g-requires c =
    let q = c.requires in
    let i = c.loop-k.invariant q.R q.W q.holds q.can in
    booked-ready q.can q.holds i c.loop-k-test.true c.if-starts-k.true _
    (part_length c.args.m c.loop-k.work (booked-steady q.can q.holds i c.loop-k-test.true).tally.touched.long)

pub count_rows-n-requires : goal.count_rows-n-requires
count_rows-n-requires c =
    let q = c.requires in
    let i = c.loop-k.invariant q.R q.W q.holds q.can in
    can-count (booked-gathered q.can q.holds i c.loop-k-test.true c.if-starts-k.true _ _ c.copy_rows-g.ensures.number c.copy_rows-g.ensures.written)
    (booked-steady q.can q.holds i c.loop-k-test.true)

pub loop-k-preserved : goal.loop-k-preserved
loop-k-preserved c =
    λ R W h can.
    let i = c.loop-k.invariant R W h can in
    let t = c.loop-k-test.true in
    elim c.if-starts-k.branch [
      | then-starts-k w ↦
          rw (w.work-is, w.n-is)
          (booked-here can h i t w.if-starts-k.true
          (booked-gathered can h i t w.if-starts-k.true _ _ w.copy_rows-g.ensures.number w.copy_rows-g.ensures.written) w.count_rows-n.ensures)
      | else-starts-k w ↦ rw (w.work-is, w.n-is) (booked-past can h i t w.if-starts-k.false)
    ]

pub returns : goal.returns
returns c = λ R W h can. counting-end can (c.loop-k.invariant R W h can) (omega (arith, booked-size h))
