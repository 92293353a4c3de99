-- A turn leaves the start, or hides it.
use Rattle.std.proofs.Common.{arith, sym, ◌∙◌}
use Rattle.windows.proofs.Hiding.{booked-start, booked-shown, booked-hidden}
use Rattle.windows.proofs.minutes.hide_booked.Goals as goal
use Rattle.windows.proofs.minutes.hide_booked.Goals.{then-not-counts_at, else-not-counts_at}

pub loop-k-init : goal.loop-k-init
loop-k-init c = booked-start _ _ _ _ _

pub loop-k-preserved : goal.loop-k-preserved
loop-k-preserved c =
    let s = c.args in
    elim c.if-not-counts_at.branch [
      | then-not-counts_at w ↦
          rw w.starts-is
          (booked-hidden s.minute s.windows.now s.n s.ids.now c.loop-k.invariant (omega arith) (sym c.counts_at.ensures ∙ w.if-not-counts_at.true))
      | else-not-counts_at w ↦
          rw w.starts-is
          (booked-shown s.minute s.windows.now s.n s.ids.now c.loop-k.invariant (omega arith) (sym c.counts_at.ensures ∙ w.if-not-counts_at.false))
    ]
