-- `meeting::copy_marked` meets its contract: a marked column has room, and each turn takes one or passes it. Assumes nothing.
use Rattle.questions.proofs.Marking.{collecting-start, collecting-room, collecting-take, collecting-pass, collecting-end}
use Rattle.questions.proofs.meeting.copy_marked.Goals as goal
use Rattle.questions.proofs.meeting.copy_marked.Goals.{then-mark-ne0, else-mark-ne0}

pub loop-j-init : goal.loop-j-init
loop-j-init c = collecting-start c.requires.2

pub bounds-list-k : goal.bounds-list-k
bounds-list-k c = collecting-room c.requires.2 c.loop-j.invariant c.loop-j-test.true c.if-mark-ne0.true

pub loop-j-preserved : goal.loop-j-preserved
loop-j-preserved c =
    elim c.if-mark-ne0.branch [
      | then-mark-ne0 w ↦ rw (w.list-is, w.k-is) (collecting-take c.requires.2 c.loop-j.invariant c.loop-j-test.true w.if-mark-ne0.true)
      | else-mark-ne0 w ↦ rw (w.list-is, w.k-is) (collecting-pass c.requires.2 c.loop-j.invariant c.loop-j-test.true w.if-mark-ne0.false)
    ]

pub returns : goal.returns
returns c = collecting-end c.requires.2 c.loop-j.invariant c.loop-j-test.false
