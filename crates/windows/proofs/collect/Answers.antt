-- A turn takes the id, or passes it.
use Rattle.std.proofs.Common.{arith, sym, ◌∙◌}
use Rattle.windows.proofs.Collecting.{collecting-took, collecting-passed}
use Rattle.windows.proofs.collect.Goals as goal
use Rattle.windows.proofs.collect.Goals.{then-moves, else-moves}

pub loop-i-preserved : goal.loop-i-preserved
loop-i-preserved c =
    elim c.if-moves.branch [
      | then-moves w ↦
          rw (w.list-is, w.count-is)
          (collecting-took c.loop-i.invariant (omega arith) (omega arith) (sym c.moves.ensures ∙ w.if-moves.true))
      | else-moves w ↦
          rw (w.list-is, w.count-is) (collecting-passed c.loop-i.invariant (omega arith) (sym c.moves.ensures ∙ w.if-moves.false))
    ]
