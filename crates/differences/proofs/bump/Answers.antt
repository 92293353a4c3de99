-- `differences::bump` meets its contract. Assumes nothing.
use Rattle.std.proofs.Common.{arith}
use Rattle.differences.proofs.Bumping.{bumping-start, row_low, row-high, bumping-range, bumping-keep, bumping-new, bumping-done}
use Rattle.differences.proofs.bump.Goals as goal
use Rattle.differences.proofs.bump.Goals.{then-x-eq0, else-x-eq0}

pub loop-i-init : goal.loop-i-init
loop-i-init c = bumping-start c.args.up c.requires

pub overflow_sub-place : goal.overflow_sub-place
overflow_sub-place c = row_low c.args.up c.requires c.loop-i.invariant c.loop-i-test.true

pub bounds-work-place : goal.bounds-work-place
bounds-work-place c =
    omega (arith, row_low c.args.up c.requires c.loop-i.invariant c.loop-i-test.true, row-high c.args.up c.requires c.loop-i.invariant c.loop-i-test.true)

pub bumped-requires : goal.bumped-requires
bumped-requires c = omega (arith, bumping-range c.args.up c.requires c.loop-i.invariant c.loop-i-test.true)

pub bounds-work-place-in-loop-i : goal.bounds-work-place-in-loop-i
bounds-work-place-in-loop-i c =
    omega (arith, row_low c.args.up c.requires c.loop-i.invariant c.loop-i-test.true, row-high c.args.up c.requires c.loop-i.invariant c.loop-i-test.true)

pub loop-i-preserved : goal.loop-i-preserved
loop-i-preserved c =
    elim c.if-x-eq0.branch [
      | then-x-eq0 w ↦
          rw (w.work-is, w.f-is, c.bumped.ensures) (bumping-new c.args.up c.requires c.loop-i.invariant c.loop-i-test.true w.if-x-eq0.true)
      | else-x-eq0 w ↦
          rw (w.work-is, w.f-is, c.bumped.ensures) (bumping-keep c.args.up c.requires c.loop-i.invariant c.loop-i-test.true w.if-x-eq0.false)
    ]

pub returns : goal.returns
returns c = bumping-done c.args.up c.requires c.loop-i.invariant (omega arith)
