-- Every piece is laid out.
use Rattle.free_chain.proofs.Laying.{laying-end}
use Rattle.free_chain.proofs.pieces.lay.Goals as goal

pub returns : goal.returns
returns c = laying-end c.loop-s.invariant c.loop-s-test.false
