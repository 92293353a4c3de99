-- The first q of n queued pieces were stepped, and the budget has fallen by one for each of them at least.
use Rattle.std.proofs.Common.{◌+◌, ◌-◌, ◌≤◌}
use Rattle.free_chain.proofs.Rounding.{Rounding}
use Rattle.free_chain.proofs.pieces.round.Given as goal

abbrev pub invariant-loop-q : goal.invariant-loop-q
invariant-loop-q l = Rounding l.rows l.next l.cuts l.fn.scratch l.scratch l.n l.q × (l.rest + l.q ≤ l.left)

abbrev pub decreases-loop-q : goal.decreases-loop-q
decreases-loop-q l = l.n - l.q
