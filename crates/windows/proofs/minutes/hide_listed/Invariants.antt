-- The first k starts are as they become.
use Rattle.lists.proofs.Over.{Filling}
use Rattle.windows.specs.Windowed.{listed_inside}
use Rattle.windows.proofs.minutes.hide_listed.Given as goal

abbrev pub invariant-loop-k : goal.invariant-loop-k
invariant-loop-k l = Filling (listed_inside l.minute l.firsts l.seconds l.fn.starts) l.fn.starts l.starts l.k
