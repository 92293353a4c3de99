-- The ids before this one have no minutes.
use Rattle.windows.proofs.Writing.{Leaving}
use Rattle.windows.proofs.minutes.leave.Given as goal

abbrev pub invariant-loop-id : goal.invariant-loop-id
invariant-loop-id l = Leaving l.fn.windows l.n l.ids l.windows l.id-index
