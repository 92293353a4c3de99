-- A turn walks one record; the chain ends too soon, leaves the pool, goes on, or ends in time.
use Rattle.std.proofs.Common.{◌-◌, arith}
use borrow.Author.Tests.{eq-eqb, ne_eqb}
use Rattle.lists.proofs.Tests.{decides-no}
use Rattle.free_chain.proofs.Walking.{walking_start, walking-next, walking-short, walking-out, walking-long, walking-empty, walking-ended}
use Rattle.free_chain.proofs.walk.Goals as goal
use Rattle.free_chain.proofs.walk.Goals.{then-r-eq0-via-then-r-eq0, then-r-eq0-via-else-r-eq0+then-next-r}

pub loop-init : goal.loop-init
loop-init c = walking_start _ _ _ _ (omega arith)

pub returns-then-r-eq0 : goal.returns-then-r-eq0
returns-then-r-eq0 c =
    elim c.then-r-eq0.branch [
      | then-r-eq0-via-then-r-eq0 w ↦ decides-no (walking-short c.loop.invariant c.loop-test.true w.if-r-eq0.true)
      | then-r-eq0-via-else-r-eq0+then-next-r w ↦ decides-no (walking-out c.loop.invariant w.if-next-r.true)
    ]

pub loop-preserved : goal.loop-preserved
loop-preserved c =
    walking-next c.loop.invariant c.loop-test.true c.if-r-eq0.false c.if-next-r.false (omega (arith, c.type_inv.next (c.loop.r - 1)))

pub returns-then-last-eq0 : goal.returns-then-last-eq0
returns-then-last-eq0 c =
    rw (eq-eqb c.loop.last 0 c.if-last-eq0.true) (walking-empty c.loop.invariant c.loop-test.false c.if-r-eq0-2.true c.if-last-eq0.true)

pub returns-else-last-eq0 : goal.returns-else-last-eq0
returns-else-last-eq0 c = walking-ended c.loop.invariant c.loop-test.false c.if-r-eq0-2.true c.if-last-eq0.false

pub returns-else-r-eq0-2 : goal.returns-else-r-eq0-2
returns-else-r-eq0-2 c =
    rw (ne_eqb c.loop.r 0 c.if-r-eq0-2.false) (decides-no (walking-long c.loop.invariant c.loop-test.false c.if-r-eq0-2.false))
