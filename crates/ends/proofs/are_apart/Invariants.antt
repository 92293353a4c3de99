-- The chains before i find their own numbers.
use Rattle.ends.proofs.Naming.{Found}
use Rattle.ends.proofs.are_apart.Given as goal

abbrev pub invariant-loop-i : goal.invariant-loop-i
invariant-loop-i l = Found l.work l.a l.b l.n l.i
