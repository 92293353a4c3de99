use Rattle.std.proofs.Common.{arith}
use Rattle.book.proofs.Writing.{writing_start, writing-turn, writing-end}
use Rattle.book.proofs.write_rows.Goals as goal

pub loop-v-init : goal.loop-v-init
loop-v-init c = writing_start c.requires

pub overflow_sub-i : goal.overflow_sub-i
overflow_sub-i c = (writing-turn c.requires c.loop-v.invariant c.loop-v-test.true).low

pub bounds-rows-i : goal.bounds-rows-i
bounds-rows-i c = let t = writing-turn c.requires c.loop-v.invariant c.loop-v-test.true in omega (arith, c.requires.has.sized)

pub bounds-next-i : goal.bounds-next-i
bounds-next-i c = let t = writing-turn c.requires c.loop-v.invariant c.loop-v-test.true in omega arith

pub loop-v-preserved : goal.loop-v-preserved
loop-v-preserved c = (writing-turn c.requires c.loop-v.invariant c.loop-v-test.true).again

pub returns : goal.returns
returns c = writing-end c.requires c.loop-v.invariant c.loop-v-test.false
