-- `exchange::groups::leave_all` meets its contract. Assumes nothing.
use Rattle.std.proofs.Common.{arith}
use Rattle.tables.proofs.Lent.{same-start, same-again, same-count}
use Rattle.exchange.proofs.Scanning.{scanned-start, none-gone, scanned-next, collected-is, collected-ends, scanned-end}
use Rattle.exchange.proofs.Grouped.{left-heads}
use Rattle.exchange.proofs.Leaving.{leaving-start, leaving-some, leaving-turn, leaving-end}
use Rattle.exchange.proofs.groups.leave_all.Goals as goal

pub loop-group-init : goal.loop-group-init
loop-group-init c = (scanned-start _ _, same-start, λ R A can. leaving-start can (none-gone _ _))

pub returns-then-k-eq0-clause-done : goal.returns-then-k-eq0-clause-done
returns-then-k-eq0-clause-done c =
    λ R A can. leaving-end can (c.loop-group.invariant.2 R A can) (scanned-end c.loop-group.invariant.0 c.collect-g.ensures c.if-k-eq0.true (omega arith))

pub leave_group-z-requires : goal.leave_group-z-requires
leave_group-z-requires c =
    let p = c.requires in
    leaving-some p.can (c.loop-group.invariant.2 p.R p.A p.can) (collected-ends c.loop-group.invariant.0 c.collect-g.ensures (omega (arith, c.if-k-eq0.false)) (omega arith))
    (collected-is c.loop-group.invariant.0 c.collect-g.ensures)

pub loop-group-preserved : goal.loop-group-preserved
loop-group-preserved c = (
  scanned-next c.loop-group.invariant.0 c.collect-g.ensures,
  same-again c.loop-group.invariant.1 c.leave_group-z.ensures.same,
  λ R A can. leaving-turn can (c.loop-group.invariant.2 R A can) (collected-ends c.loop-group.invariant.0 c.collect-g.ensures (omega (arith, c.if-k-eq0.false)) (omega arith))
      (collected-is c.loop-group.invariant.0 c.collect-g.ensures) (left-heads (same-count c.loop-group.invariant.1) c.leave_group-z.ensures.done),
)
