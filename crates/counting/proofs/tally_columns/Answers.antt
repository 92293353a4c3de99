-- Each id that is listed at the row is counted, and the chain goes on (proofs/Gathering.antt, proofs/Starting.antt).
use Rattle.std.proofs.Common.{arith}
use Rattle.book.proofs.Tally.{tally-of}
use Rattle.counting.proofs.Gathering.{gathering-start, gathering-few, gathering-next, gathering-less, gathering-end}
use Rattle.counting.proofs.Starting.{starting-gathers, starting-facts, starting-can}
use Rattle.counting.proofs.tally_columns.Goals as goal

pub loop-i-init : goal.loop-i-init
loop-i-init c = gathering-start (starting-gathers c.requires)

pub count_rows-more-requires : goal.count_rows-more-requires
count_rows-more-requires c = starting-can c.requires c.loop-i.invariant c.loop-i-test.true

pub overflow_add-size : goal.overflow_add-size
overflow_add-size c =
    let g = starting-gathers c.requires in
    omega (arith, gathering-few g (gathering-next g c.loop-i.invariant c.loop-i-test.true (tally-of c.count_rows-more.ensures.counted c.count_rows-more.ensures.raised)))

pub bounds-work-nexts : goal.bounds-work-nexts
bounds-work-nexts c =
    let f = starting-facts c.requires c.loop-i.invariant c.loop-i-test.true in omega (arith, c.count_rows-more.auto.counters)

pub loop-i-smaller : goal.loop-i-smaller
loop-i-smaller c =
    gathering-less (starting-gathers c.requires) c.loop-i.invariant c.loop-i-test.true (tally-of c.count_rows-more.ensures.counted c.count_rows-more.ensures.raised)

pub loop-i-preserved : goal.loop-i-preserved
loop-i-preserved c =
    gathering-next (starting-gathers c.requires) c.loop-i.invariant c.loop-i-test.true (tally-of c.count_rows-more.ensures.counted c.count_rows-more.ensures.raised)

pub returns : goal.returns
returns c = gathering-end (starting-gathers c.requires) c.loop-i.invariant c.loop-i-test.false
