use Rattle.std.proofs.Common.{arith}
use Rattle.book.proofs.Writing.{clearing-start, clearing-turn, clearing-end}
use Rattle.book.proofs.clear_rows.Goals as goal

pub loop-r-init : goal.loop-r-init
loop-r-init c = clearing-start c.requires.0

pub bounds-rows-i : goal.bounds-rows-i
bounds-rows-i c = let t = clearing-turn c.requires.0 c.loop-r.invariant c.loop-r-test.true in omega (arith, c.requires.0.sized)

pub bounds-next-i : goal.bounds-next-i
bounds-next-i c = let t = clearing-turn c.requires.0 c.loop-r.invariant c.loop-r-test.true in omega arith

pub loop-r-smaller : goal.loop-r-smaller
loop-r-smaller c = (clearing-turn c.requires.0 c.loop-r.invariant c.loop-r-test.true).less

pub loop-r-preserved : goal.loop-r-preserved
loop-r-preserved c = (clearing-turn c.requires.0 c.loop-r.invariant c.loop-r-test.true).again

pub returns : goal.returns
returns c = clearing-end c.requires.0 c.requires.1 c.loop-r.invariant c.loop-r-test.false
