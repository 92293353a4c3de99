-- The lists hold the ids before this one.
use Rattle.counting.proofs.Linking.{Linking}
use Rattle.counting.proofs.link_columns.Given as goal

abbrev pub invariant-loop-id : goal.invariant-loop-id
invariant-loop-id l = Linking l.book_heads l.book_rows l.windows l.fn.work l.minute l.a l.m l.b l.work l.id
