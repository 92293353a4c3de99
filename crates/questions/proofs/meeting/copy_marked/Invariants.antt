-- Before each column: the marked ones below it stand at the front of the list.
use Rattle.questions.proofs.Marking.{Collecting}
use Rattle.questions.proofs.meeting.copy_marked.Given as goal

abbrev pub invariant-loop-j : goal.invariant-loop-j
invariant-loop-j l = Collecting l.work l.initial.list l.top l.list l.j l.k
