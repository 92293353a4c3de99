-- `columns::number_rows`, its loop: the first i rows are 1 to i.
use Rattle.lists.specs.Lists.{up_from}
use Rattle.lists.proofs.Over.{Filling}
use Rattle.columns.proofs.number_rows.Given as goal

abbrev pub invariant-loop-i : goal.invariant-loop-i
invariant-loop-i l = Filling (up_from 1 l.m) l.initial.row-items l.row-items l.i
