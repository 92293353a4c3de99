-- Before each place: for every register with these parents, the path of x and those of the rows from place k on say what all paths say.
use Rattle.symbolic.specs.Columns.{Register}
use Rattle.questions.specs.Asked.{ParentsFor}
use Rattle.questions.proofs.Nearing.{CommonLeft}
use Rattle.questions.proofs.ancestors.common_row.Given as goal

abbrev pub invariant-loop-k : goal.invariant-loop-k
invariant-loop-k l = (r : Register) → ParentsFor l.parents r → CommonLeft r l.row_list l.x l.k
