-- `exchange::groups::enter_all` meets its contract. Assumes nothing.
use Rattle.std.proofs.Common.{arith, refl}
use Rattle.tables.proofs.Lent.{same-start, same-again, same-count}
use Rattle.exchange.proofs.Scanning.{scanned-start, none-gone, scanned-next, collected-is, collected-ends, scanned-end}
use Rattle.exchange.proofs.Grouped.{entered-heads}
use Rattle.exchange.proofs.Entering.{entering-start, entering-some, entering-turn, entering-stop, entering-end}
use Rattle.exchange.proofs.groups.enter_all.Goals as goal

pub loop-group-init : goal.loop-group-init
loop-group-init c = (scanned-start _ _, same-start, λ R B can. entering-start can (none-gone _ _))

pub returns-then-k-eq0-clause-done : goal.returns-then-k-eq0-clause-done
returns-then-k-eq0-clause-done c =
    λ R B can. entering-end can (c.loop-group.invariant.2 R B can) (scanned-end c.loop-group.invariant.0 c.collect-g.ensures c.if-k-eq0.true (omega arith))

pub enter_group-requires : goal.enter_group-requires
enter_group-requires c =
    let p = c.requires in
    entering-some p.can (c.loop-group.invariant.2 p.R p.B p.can) (collected-ends c.loop-group.invariant.0 c.collect-g.ensures (omega (arith, c.if-k-eq0.false)) (omega arith))
    (collected-is c.loop-group.invariant.0 c.collect-g.ensures)

pub returns-in_err-z-clause-done : goal.returns-in_err-z-clause-done
returns-in_err-z-clause-done c =
    rw c.from_residual.ensures
    (λ R B can. entering-stop can (c.loop-group.invariant.2 R B can) (collected-ends c.loop-group.invariant.0 c.collect-g.ensures (omega (arith, c.if-k-eq0.false)) (omega arith))
    (collected-is c.loop-group.invariant.0 c.collect-g.ensures) (entered-heads (same-count c.loop-group.invariant.1) c.in_err-z.ensures.done) refl _)

pub returns-in_err-z-clause-same : goal.returns-in_err-z-clause-same
returns-in_err-z-clause-same c = same-again c.loop-group.invariant.1 c.in_err-z.ensures.same

pub loop-group-preserved : goal.loop-group-preserved
loop-group-preserved c = (
  scanned-next c.loop-group.invariant.0 c.collect-g.ensures,
  same-again c.loop-group.invariant.1 c.in_ok-z.ensures.same,
  λ R B can. entering-turn can (c.loop-group.invariant.2 R B can) (collected-ends c.loop-group.invariant.0 c.collect-g.ensures (omega (arith, c.if-k-eq0.false)) (omega arith))
      (collected-is c.loop-group.invariant.0 c.collect-g.ensures) (entered-heads (same-count c.loop-group.invariant.1) c.in_ok-z.ensures.done) refl,
)
