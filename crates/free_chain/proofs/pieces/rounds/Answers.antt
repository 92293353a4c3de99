-- A turn is a round.
use Rattle.free_chain.proofs.Rounding.{rounding-start, rounds-can, rounds-next}
use Rattle.free_chain.proofs.pieces.rounds.Goals as goal

pub loop-n-init : goal.loop-n-init
loop-n-init c = rounding-start c.requires

pub round-x-requires : goal.round-x-requires
round-x-requires c = rounds-can c.requires c.loop-n.invariant

pub loop-n-preserved : goal.loop-n-preserved
loop-n-preserved c = rounds-next c.loop-n.invariant c.round-x.ensures c.round-x.auto.scratch

pub returns : goal.returns
returns c = c.loop-n.invariant.kept
