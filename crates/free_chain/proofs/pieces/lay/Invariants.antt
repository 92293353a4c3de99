-- The last piece and the first s are laid out, and n are queued.
use Rattle.free_chain.proofs.Laying.{Laying}
use Rattle.free_chain.proofs.pieces.lay.Given as goal

abbrev pub invariant-loop-s : goal.invariant-loop-s
invariant-loop-s l = Laying l.cuts l.head l.fn.scratch l.scratch l.n l.s
