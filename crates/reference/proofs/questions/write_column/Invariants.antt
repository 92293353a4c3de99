-- What is written stays within the list. Assumes nothing.
use Rattle.std.proofs.Common.{◌≤◌, length}
use Rattle.reference.proofs.questions.write_column.Given as goal

abbrev pub invariant-loop-i : goal.invariant-loop-i
invariant-loop-i l = l.k ≤ length l.list
