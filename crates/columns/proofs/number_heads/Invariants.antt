-- `columns::number_heads`, its loop: the first i heads are 1 to i.
use Rattle.std.proofs.Common.{length}
use Rattle.lists.specs.Lists.{up_from}
use Rattle.lists.proofs.Over.{Filling}
use Rattle.columns.proofs.number_heads.Given as goal

abbrev pub invariant-loop-i : goal.invariant-loop-i
invariant-loop-i l = Filling (up_from 1 (length l.initial.heads)) l.initial.heads l.heads l.i
