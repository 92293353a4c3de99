-- A turn counts one row.
use Rattle.free_chain.proofs.Counted.{zeros-none, zeros-hit, zeros-miss}
use Rattle.free_chain.proofs.zeros_of.Goals as goal
use Rattle.free_chain.proofs.zeros_of.Goals.{then-row-eq0, else-row-eq0}

pub loop-row-init : goal.loop-row-init
loop-row-init c = zeros-none _

pub loop-row-preserved : goal.loop-row-preserved
loop-row-preserved c =
    elim c.if-row-eq0.branch [
      | then-row-eq0 w ↦ rw w.n-is (zeros-hit c.loop-row.invariant c.loop-row-test.true w.if-row-eq0.true)
      | else-row-eq0 w ↦ rw w.n-is (zeros-miss c.loop-row.invariant c.loop-row-test.true w.if-row-eq0.false)
    ]
