-- After each round all pieces stand. The measure is what is queued and what is left of the budget: a round takes one off the budget for each piece that it leaves
-- queued.
use Rattle.std.proofs.Common.{◌+◌}
use Rattle.free_chain.proofs.Rounding.{Rounding}
use Rattle.free_chain.proofs.pieces.rounds.Given as goal

abbrev pub invariant-loop-n : goal.invariant-loop-n
invariant-loop-n l = Rounding l.rows l.next l.cuts l.fn.scratch l.scratch l.n 0

abbrev pub decreases-loop-n : goal.decreases-loop-n
decreases-loop-n l = l.n + l.left
