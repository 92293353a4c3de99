-- A turn counts the rows of one child.
use Rattle.std.proofs.Common.{refl, arith}
use Rattle.counting.proofs.Gathering.{gathering-start, gathering-few, gathering-next, gathering-less, gathering-end}
use Rattle.counting.proofs.Children.{children-gathers, children-facts, children-can, children-tally}
use Rattle.counting.proofs.tally_children.Goals as goal

pub loop-c-init : goal.loop-c-init
loop-c-init c = gathering-start (children-gathers c.requires)

pub bounds-work-m-in-loop-c : goal.bounds-work-m-in-loop-c
bounds-work-m-in-loop-c c = let f = children-facts c.requires c.loop-c.invariant c.loop-c-test.true in omega arith

pub bounds-work-m-in-loop-c-2 : goal.bounds-work-m-in-loop-c-2
bounds-work-m-in-loop-c-2 c = let f = children-facts c.requires c.loop-c.invariant c.loop-c-test.true in omega arith

pub tally-more-requires : goal.tally-more-requires
tally-more-requires c = children-can c.requires c.loop-c.invariant c.loop-c-test.true _ _ refl refl

pub overflow_add-size : goal.overflow_add-size
overflow_add-size c =
    let f = children-facts c.requires c.loop-c.invariant c.loop-c-test.true in
    let t = children-tally c.requires c.loop-c.invariant c.loop-c-test.true _ _ refl refl c.tally-more.ensures.counted c.tally-more.ensures.raised in
    omega (arith, gathering-few (children-gathers c.requires) (gathering-next (children-gathers c.requires) c.loop-c.invariant c.loop-c-test.true t))

pub bounds-work-m-in-loop-c-3 : goal.bounds-work-m-in-loop-c-3
bounds-work-m-in-loop-c-3 c =
    let f = children-facts c.requires c.loop-c.invariant c.loop-c-test.true in omega (arith, c.tally-more.auto.work)

pub loop-c-smaller : goal.loop-c-smaller
loop-c-smaller c =
    gathering-less (children-gathers c.requires) c.loop-c.invariant c.loop-c-test.true
    (children-tally c.requires c.loop-c.invariant c.loop-c-test.true _ _ refl refl c.tally-more.ensures.counted c.tally-more.ensures.raised)

pub loop-c-preserved : goal.loop-c-preserved
loop-c-preserved c =
    gathering-next (children-gathers c.requires) c.loop-c.invariant c.loop-c-test.true
    (children-tally c.requires c.loop-c.invariant c.loop-c-test.true _ _ refl refl c.tally-more.ensures.counted c.tally-more.ensures.raised)

pub returns : goal.returns
returns c = gathering-end (children-gathers c.requires) c.loop-c.invariant c.loop-c-test.false
