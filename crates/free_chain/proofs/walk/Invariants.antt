-- So many steps lead from the head to r.
use Rattle.free_chain.proofs.Walking.{Walking}
use Rattle.free_chain.proofs.walk.Given as goal

abbrev pub invariant-loop : goal.invariant-loop
invariant-loop l = Walking l.rows l.next l.k l.initial.r l.r l.last l.counter
