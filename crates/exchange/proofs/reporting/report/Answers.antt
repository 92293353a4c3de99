-- `exchange::reporting::report` meets its contract. Assumes nothing.
use Rattle.std.proofs.Common.{◌≤◌, length, arith}
use Rattle.exchange.proofs.Reports.{Turn, reporting-count, report-head, reports-start, reports-turn, reports-small, reports-hit, reports-miss, reports-end}
use Rattle.exchange.proofs.reporting.report.Goals as goal
use Rattle.exchange.proofs.reporting.report.Goals.{then-x-ne0, else-x-ne0}

-- what holds in the turn of a column on a path
turn : (c : goal.After-larger-entries) →
    Turn (length c.args.heads.now) (length c.args.next.now) c.args.work.now c.loop-j.touched c.loop-j.labels c.loop-j.j c.loop-j.t c.loop-j.entries
turn c = let p = c.requires in reports-turn p.can (c.loop-j.invariant p.parents p.rows p.counts p.free p.R p.A p.B p.can) c.loop-j-test.true

-- the size that is counted
bounded : (c : goal.After-larger-entries) → c.larger-entries.result ≤ 4096
bounded c =
    let p = c.requires in
    reports-small p.can (c.loop-j.invariant p.parents p.rows p.counts p.free p.R p.A p.B p.can) c.loop-j-test.true c.if-x-ne0.true c.larger-entries.ensures

pub loop-j-init : goal.loop-j-init
loop-j-init c = λ ps xs ns z R A B k. reports-start k

pub larger-entries-requires : goal.larger-entries-requires
larger-entries-requires c = report-head c.requires.can c.loop-j.j c.loop-j-test.true

pub overflow_add-entries : goal.overflow_add-entries
overflow_add-entries c = let k = turn c in omega (arith, bounded c)

pub offset_bounds-touched-t : goal.offset_bounds-touched-t
offset_bounds-touched-t c = let k = turn c in omega arith

pub bounds-touched-t : goal.bounds-touched-t
bounds-touched-t c = let k = turn c in omega arith

pub offset_bounds-labels-t : goal.offset_bounds-labels-t
offset_bounds-labels-t c = let k = turn c in omega arith

pub bounds-labels-t : goal.bounds-labels-t
bounds-labels-t c = let k = turn c in omega arith

pub overflow_add-t : goal.overflow_add-t
overflow_add-t c = let k = turn c in omega arith

pub loop-j-preserved : goal.loop-j-preserved
loop-j-preserved c =
    λ ps xs ns z R A B k.
    let i = c.loop-j.invariant ps xs ns z R A B k in
    elim c.if-x-ne0.branch [
      | then-x-ne0 w ↦ rw (w.touched-is, w.labels-is, w.t-is, w.entries-is) (reports-hit k i c.loop-j-test.true w.if-x-ne0.true w.larger-entries.ensures)
      | else-x-ne0 w ↦ rw (w.touched-is, w.labels-is, w.t-is, w.entries-is) (reports-miss k i c.loop-j-test.true w.if-x-ne0.false)
    ]

pub overflow_cast-result : goal.overflow_cast-result
overflow_cast-result c =
    let p = c.requires in
    let r = c.loop-j.invariant p.parents p.rows p.counts p.free p.R p.A p.B p.can in
    omega (arith, reporting-count r, r.within, p.can.m-bound)

pub returns : goal.returns
returns c = λ ps xs ns z R A B k. reports-end k (c.loop-j.invariant ps xs ns z R A B k) c.loop-j-test.false
