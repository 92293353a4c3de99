use Rattle.std.proofs.Common.{◌-◌, ◌<◌, get_or, arith}
use Rattle.soundness.proofs.Checking.{
  checking-many,
  checking-start,
  checking-short,
  checking-out,
  checking-on,
  checking-failed,
  checking-next,
  checking-end,
}
use Rattle.soundness.proofs.check_chain.Goals as goal
use Rattle.soundness.proofs.check_chain.Goals.{then-r-eq0-via-then-r-eq0, then-r-eq0-via-else-r-eq0+then-next-r}

pub returns-then-next-met : goal.returns-then-next-met
returns-then-next-met c = checking-many c.requires c.if-next-met.true

pub loop-k-init : goal.loop-k-init
loop-k-init c = checking-start c.requires (omega arith)

pub returns-then-r-eq0 : goal.returns-then-r-eq0
returns-then-r-eq0 c =
    elim c.then-r-eq0.branch [
      | then-r-eq0-via-then-r-eq0 w ↦ checking-short c.requires c.loop-k.invariant c.loop-k-test.true w.if-r-eq0.true
      | then-r-eq0-via-else-r-eq0+then-next-r w ↦ checking-out c.requires c.loop-k.invariant w.if-next-r.true
    ]

pub returns-then-not-check_entry : goal.returns-then-not-check_entry
returns-then-not-check_entry c =
    checking-failed c.requires c.loop-k.invariant c.if-next-met.false c.loop-k-test.true c.if-r-eq0.false c.if-next-r.false c.check_entry.ensures
    c.if-not-check_entry.true

pub loop-k-preserved : goal.loop-k-preserved
loop-k-preserved c =
    let narrow : get_or c.args.columns.next.now (c.loop-k.r - 1) 0 < 4294967296 = omega (arith, c.type_inv.next (c.loop-k.r - 1)) in
    checking-next c.requires c.loop-k.invariant c.if-next-met.false c.loop-k-test.true c.if-r-eq0.false c.if-next-r.false c.check_entry.ensures
    c.if-not-check_entry.false narrow

pub returns-then-r-ne0 : goal.returns-then-r-ne0
returns-then-r-ne0 c = checking-on c.requires c.loop-k.invariant c.loop-k-test.false c.if-r-ne0.true

pub returns : goal.returns
returns c = checking-end c.requires c.loop-k.invariant c.if-next-met.false c.loop-k-test.false c.if-r-ne0.false
