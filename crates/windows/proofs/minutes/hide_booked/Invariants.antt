-- The first k starts are as they become.
use Rattle.lists.proofs.Over.{Filling}
use Rattle.windows.specs.Windowed.{booked_inside}
use Rattle.windows.proofs.minutes.hide_booked.Given as goal

abbrev pub invariant-loop-k : goal.invariant-loop-k
invariant-loop-k l = Filling (booked_inside l.minute l.windows l.n l.ids l.fn.starts) l.fn.starts l.starts l.k
