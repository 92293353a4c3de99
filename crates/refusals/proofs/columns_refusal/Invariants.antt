-- Before each place: the columns that are left, with the rows that remain, say what they all say.
use Rattle.refusals.proofs.Positions.{ColumnsLeft}
use Rattle.refusals.proofs.columns_refusal.Given as goal

abbrev pub invariant-loop-k : goal.invariant-loop-k
invariant-loop-k l = ColumnsLeft l.m l.book_heads l.ids l.row_counts l.row_list l.firsts l.seconds l.k l.from
