-- The first i nexts are those of an opened pool.
use Rattle.std.proofs.Common.{length}
use Rattle.lists.proofs.Over.{Filling}
use Rattle.pool.specs.Opening.{opened_nexts}
use Rattle.pool.proofs.link_free.Given as goal

abbrev pub invariant-loop-i : goal.invariant-loop-i
invariant-loop-i l = Filling (opened_nexts l.used (length l.fn.next)) l.fn.next l.next l.i
