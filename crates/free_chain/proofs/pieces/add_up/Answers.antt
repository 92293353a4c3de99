-- A turn adds the piece of the next cut.
use Rattle.std.proofs.Common.{arith}
use Rattle.free_chain.proofs.Adding.{adding-start, adding-piece, adding-fits, adding-next, adding-end, adds_none}
use Rattle.free_chain.proofs.pieces.add_up.Goals as goal

pub loop-r-init : goal.loop-r-init
loop-r-init c = adding-start c.requires

pub returns-then-left-eq0 : goal.returns-then-left-eq0
returns-then-left-eq0 c = adds_none _ _ _

pub returns-then-i-ne0 : goal.returns-then-i-ne0
returns-then-i-ne0 c = adds_none _ _ _

pub bounds-scratch-s : goal.bounds-scratch-s
bounds-scratch-s c = omega (arith, adding-piece c.requires c.loop-r.invariant c.loop-r-test.true)

pub overflow_add-total : goal.overflow_add-total
overflow_add-total c = omega (arith, adding-fits c.requires c.loop-r.invariant c.loop-r-test.true)

pub bounds-scratch-s-in-loop-r : goal.bounds-scratch-s-in-loop-r
bounds-scratch-s-in-loop-r c = omega (arith, adding-piece c.requires c.loop-r.invariant c.loop-r-test.true)

pub loop-r-preserved : goal.loop-r-preserved
loop-r-preserved c = adding-next c.requires c.loop-r.invariant c.loop-r-test.true c.if-left-eq0.false c.if-i-ne0.false

pub returns : goal.returns
returns c = adding-end c.requires c.loop-r.invariant _ c.loop-r-test.false
