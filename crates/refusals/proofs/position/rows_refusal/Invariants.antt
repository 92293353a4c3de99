-- Before each row: what is left of the rows says what they all say.
use Rattle.refusals.proofs.Parts.{RowsLeft}
use Rattle.refusals.proofs.position.rows_refusal.Given as goal

abbrev pub invariant-loop-row : goal.invariant-loop-row
invariant-loop-row l = RowsLeft l.m l.rows l.above l.row-index
