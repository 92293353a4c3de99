-- `updown::starts::count_listed` meets its contract. Assumes nothing.
use Rattle.std.proofs.Common.{◌+◌, ◌≤◌, length, get_or, arith, rules}
use Rattle.updown.proofs.Gathering.{can-count}
use Rattle.updown.proofs.Listing.{
  reading-start,
  reading-end,
  reading-next,
  counting-start,
  counting-steady,
  counting-end,
  listed-gather,
  listed_here,
  listed-past,
}
use Rattle.updown.proofs.starts.count_listed.Goals as goal
use Rattle.updown.proofs.starts.count_listed.Goals.{then-starts-k, else-starts-k}

pub loop-k-init : goal.loop-k-init
loop-k-init c = λ R W h can. (reading-start h, counting-start can)

pub overflow_add-end : goal.overflow_add-end
overflow_add-end c =
    let q = c.requires in
    omega (arith, reading-end (c.loop-k.invariant q.R q.W q.listed q.can).0 c.loop-k-test.true)

pub bounds-starts-k : goal.bounds-starts-k
bounds-starts-k c = let q = c.requires in omega (arith, (c.loop-k.invariant q.R q.W q.listed q.can).0.paired)

pub offset_bounds-row_list-at : goal.offset_bounds-row_list-at
offset_bounds-row_list-at c =
    let q = c.requires in
    omega (arith, (c.loop-k.invariant q.R q.W q.listed q.can).0.within)

pub slice_bounds-gather_rows-end : goal.slice_bounds-gather_rows-end
slice_bounds-gather_rows-end c =
    let q = c.requires in
    let end : c.loop-k.at + get_or c.args.row_counts.now c.loop-k.k 0 ≤ length c.args.row_list.now =
    reading-end (c.loop-k.invariant q.R q.W q.listed q.can).0 c.loop-k-test.true in
    search rules

pub gather_rows-g-requires : goal.gather_rows-g-requires
gather_rows-g-requires c =
    let q = c.requires in
    let i = c.loop-k.invariant q.R q.W q.listed q.can in
    listed-gather q.can i.0 i.1 c.loop-k-test.true c.if-starts-k.true

pub count_rows-n-requires : goal.count_rows-n-requires
count_rows-n-requires c =
    let q = c.requires in
    let i = c.loop-k.invariant q.R q.W q.listed q.can in
    can-count c.gather_rows-g.ensures (counting-steady q.can i.1 (omega (arith, i.0.size)))

pub loop-k-preserved : goal.loop-k-preserved
loop-k-preserved c =
    λ R W h can.
    let i = c.loop-k.invariant R W h can in
    let t = c.loop-k-test.true in
    elim c.if-starts-k.branch [
      | then-starts-k w ↦
          rw (w.work-is, w.n-is, w.at-is) (reading-next i.0 t, listed_here can i.0 i.1 t w.if-starts-k.true w.gather_rows-g.ensures w.count_rows-n.ensures)
      | else-starts-k w ↦ rw (w.work-is, w.n-is, w.at-is) (reading-next i.0 t, listed-past can i.0 i.1 t w.if-starts-k.false)
    ]

pub returns : goal.returns
returns c = λ R W h can. let i = c.loop-k.invariant R W h can in counting-end can i.1 (omega (arith, i.0.size))
