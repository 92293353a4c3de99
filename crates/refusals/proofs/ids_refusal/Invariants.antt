-- Before each place: what is left of the ids says what they all say.
use Rattle.refusals.proofs.Positions.{IdsLeft}
use Rattle.refusals.proofs.ids_refusal.Given as goal

abbrev pub invariant-loop-k : goal.invariant-loop-k
invariant-loop-k l = IdsLeft l.book_heads l.ids l.k
