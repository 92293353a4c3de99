-- A turn counts one block.
use Rattle.std.proofs.Common.{arith}
use Rattle.lists.proofs.Times.{times-length}
use Rattle.free_chain.proofs.Counted.{zeros-block, zeros-done}
use Rattle.free_chain.proofs.zeros.Goals as goal

pub overflow_add-n : goal.overflow_add-n
overflow_add-n c =
    omega (
      arith,
      zeros-block _ _ _ _ _ c.in-Some.ensures.steps.1.0 c.zeros_of.ensures c.loop-block.invariant.1,
      times-length 0 c.args.rows.now,
    )

pub loop-block-preserved : goal.loop-block-preserved
loop-block-preserved c =
    (omega arith, zeros-block _ _ _ _ _ c.in-Some.ensures.steps.1.0 c.zeros_of.ensures c.loop-block.invariant.1)

pub returns : goal.returns
returns c = zeros-done _ _ _ c.in-None.ensures.steps.1.0 c.loop-block.invariant.1
