-- `ancestors::common_row` meets its contract: each return, and one turn. Assumes nothing.
use native.Mathlib.Omega.{arith}
use lib.ListN.{length}
use Rattle.questions.proofs.Nearing.{named-row, common-start, common-turn, common-none, common-end}
use Rattle.questions.proofs.ancestors.common_row.Goals as goal

pub loop-k-init : goal.loop-k-init
loop-k-init c r f = common-start f c.args.row_list.now c.requires.1 c.requires.2

pub join-met-requires : goal.join-met-requires
join-met-requires c =
    let p = c.requires.0 in
    let i = c.loop-k.invariant p.register p.followed in
    let t = named-row (length c.args.parents.now) c.args.row_list.now c.loop-k.k c.loop-k-test.true c.requires.2 in
    (p, i.low, omega (arith, i.high, p.followed.size), t.0, t.1)

pub returns-then-x-eq0 : goal.returns-then-x-eq0
returns-then-x-eq0 c r f =
    common-none f c.args.row_list.now (c.loop-k.invariant r f) c.loop-k-test.true (c.join-met.ensures r f) c.if-x-eq0.true

pub loop-k-preserved : goal.loop-k-preserved
loop-k-preserved c r f =
    common-turn f c.args.row_list.now (c.loop-k.invariant r f) c.loop-k-test.true (c.join-met.ensures r f) c.if-x-eq0.false

pub returns : goal.returns
returns c r f = common-end f c.args.row_list.now (c.loop-k.invariant r f) c.loop-k-test.false
