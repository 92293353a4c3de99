-- A turn counts one row.
use Rattle.std.proofs.Common.{arith}
use mathlib.Core.Logic.{inl, inr}
use Rattle.counting.proofs.Tallies.{tallying-start, tallying-turn, tallying-more}
use Rattle.counting.proofs.tally.Goals as goal
use Rattle.counting.proofs.tally.Goals.{then-v-eq0, else-v-eq0}

pub loop-k-init : goal.loop-k-init
loop-k-init c = tallying-start _ _ _

pub overflow_sub-i : goal.overflow_sub-i
overflow_sub-i c = (tallying-turn c.requires c.loop-k.invariant c.loop-k-test.true).row

pub bounds-work-i : goal.bounds-work-i
bounds-work-i c = (tallying-turn c.requires c.loop-k.invariant c.loop-k-test.true).counter

pub overflow_add-work : goal.overflow_add-work
overflow_add-work c = omega (arith, (tallying-turn c.requires c.loop-k.invariant c.loop-k-test.true).room)

pub bounds-work-i-in-loop-k : goal.bounds-work-i-in-loop-k
bounds-work-i-in-loop-k c = (tallying-turn c.requires c.loop-k.invariant c.loop-k-test.true).counter

pub overflow_add-size : goal.overflow_add-size
overflow_add-size c = omega (arith, (tallying-turn c.requires c.loop-k.invariant c.loop-k-test.true).few)

pub loop-k-preserved : goal.loop-k-preserved
loop-k-preserved c =
    tallying-more c.requires c.loop-k.invariant _ c.loop-k-test.true
    (elim c.if-v-eq0.branch [
      | then-v-eq0 w ↦ inl (w.if-v-eq0.true, w.size-is)
      | else-v-eq0 w ↦ inr (w.if-v-eq0.false, w.size-is)
    ])
