use Rattle.std.proofs.Common.{arith}
use Rattle.book.proofs.Through.{naming, last-few, through-start, through-none, through-next, through-cut}
use Rattle.book.proofs.BookView.walk_columns.Goals as goal
use Rattle.book.proofs.BookView.walk_columns.Goals.{then-head-eq0, else-head-eq0+in_ok-met}

pub loop-i-init : goal.loop-i-init
loop-i-init c = through-start

pub returns-in_err-met : goal.returns-in_err-met
returns-in_err-met c =
    rw c.from_residual.ensures (through-cut c.loop-i.invariant c.loop-i-test.true c.if-head-eq0.false c.in_err-met.ensures)

pub name-requires-else-head-eq0 : goal.name-requires-else-head-eq0
name-requires-else-head-eq0 c =
    let i = c.loop-i.invariant in
    naming c.requires i c.loop-i-test.true (omega (arith, last-few c.requires i c.loop-i-test.true c.in_ok-met.ensures))

pub loop-i-preserved : goal.loop-i-preserved
loop-i-preserved c =
    elim c.if-head-eq0.branch [
      | then-head-eq0 w ↦
          rw (w.scratch-is, w.n-is) (through-none c.requires c.loop-i.invariant c.loop-i-test.true w.if-head-eq0.true w.name.ensures)
      | else-head-eq0+in_ok-met w ↦
          rw (w.scratch-is, w.n-is) (through-next c.requires c.loop-i.invariant c.loop-i-test.true w.in_ok-met.ensures w.name-else-head-eq0.ensures)
    ]
