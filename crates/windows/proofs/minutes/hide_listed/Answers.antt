-- A turn leaves the start, or hides it.
use Rattle.std.proofs.Common.{arith, sym, ◌∙◌}
use Rattle.windows.proofs.Hiding.{listed_start, listed-shown, listed-hidden}
use Rattle.windows.proofs.minutes.hide_listed.Goals as goal
use Rattle.windows.proofs.minutes.hide_listed.Goals.{then-not-is_inside, else-not-is_inside}

pub loop-k-init : goal.loop-k-init
loop-k-init c = listed_start _ _ _ _

pub loop-k-preserved : goal.loop-k-preserved
loop-k-preserved c =
    let s = c.args in
    elim c.if-not-is_inside.branch [
      | then-not-is_inside w ↦
          rw w.starts-is
          (listed-hidden s.minute s.firsts.now s.seconds.now c.loop-k.invariant (omega arith) (sym c.is_inside.ensures ∙ w.if-not-is_inside.true))
      | else-not-is_inside w ↦
          rw w.starts-is
          (listed-shown s.minute s.firsts.now s.seconds.now c.loop-k.invariant (omega arith) (sym c.is_inside.ensures ∙ w.if-not-is_inside.false))
    ]
