-- A turn enters one column of the batch.
use Rattle.entering.proofs.Entering.{entering-end, entering-fits, entering-can, entering-turn}
use Rattle.entering.proofs.enter_columns.Goals as goal

pub slice_bounds-add_column-end : goal.slice_bounds-add_column-end
slice_bounds-add_column-end c = entering-fits (c.loop-k.invariant c.requires.m c.requires.can) c.loop-k-test.true

pub add_column-z-requires : goal.add_column-z-requires
add_column-z-requires c = entering-can (c.loop-k.invariant c.requires.m c.requires.can) c.loop-k-test.true

pub loop-k-preserved : goal.loop-k-preserved
loop-k-preserved c = λ m can. entering-turn (c.loop-k.invariant m can) c.loop-k-test.true c.add_column-z.ensures

pub returns : goal.returns
returns c = λ m can. entering-end (c.loop-k.invariant m can) c.loop-k-test.false
