-- Where the step gives up nothing is written, and otherwise the run and the step after it are added.
use Rattle.std.proofs.Common.{refl}
use Rattle.free_chain.proofs.Stepping.{stepped-still, stepped-on}
use Rattle.free_chain.proofs.pieces.step.Goals as goal
use Rattle.free_chain.proofs.pieces.step.Goals.{else-after-eq0-via-then-after-eq0+else-rows-e-ne0, else-after-eq0-via-else-after-eq0}

pub returns-then-r-eq0-clause-stepped : goal.returns-then-r-eq0-clause-stepped
returns-then-r-eq0-clause-stepped c = stepped-still c.requires

pub returns-then-next-size-clause-stepped : goal.returns-then-next-size-clause-stepped
returns-then-next-size-clause-stepped c = stepped-still c.requires

pub returns-then-rows-e-ne0-clause-stepped : goal.returns-then-rows-e-ne0-clause-stepped
returns-then-rows-e-ne0-clause-stepped c = stepped-still c.requires

pub returns-then-after-eq0-2-clause-stepped : goal.returns-then-after-eq0-2-clause-stepped
returns-then-after-eq0-2-clause-stepped c =
    stepped-on c.requires c.run_end-e.result _ c.if-r-eq0.false c.run_end-e.ensures refl
    (λ e. elim c.else-after-eq0.branch [
      | else-after-eq0-via-then-after-eq0+else-rows-e-ne0 w ↦ w.if-rows-e-ne0.false
      | else-after-eq0-via-else-after-eq0 w ↦ absurd (w.if-after-eq0.false e)
    ])
    c.if-next-size.false c.if-next-after.false

pub returns-clause-stepped : goal.returns-clause-stepped
returns-clause-stepped c =
    stepped-on c.requires c.run_end-e.result _ c.if-r-eq0.false c.run_end-e.ensures refl (λ e. absurd (c.if-after-eq0-2.false e)) c.if-next-size.false
    c.if-next-after.false
