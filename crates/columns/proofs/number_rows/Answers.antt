-- `columns::number_rows` meets its contract. Assumes nothing.
use Rattle.std.proofs.Common.{ℕ, ◌<◌, length-take, arith, ◌∙◌}
use Rattle.lists.proofs.Rising.{up-length, up_at}
use Rattle.lists.proofs.Over.{filling-start, filling-next}
use Rattle.columns.proofs.number_rows.Goals as goal

pub loop-i-init : goal.loop-i-init
loop-i-init c = filling-start _ _ (omega (arith, up-length 1 c.args.m, length-take {A = ℕ}))

pub loop-i-preserved : goal.loop-i-preserved
loop-i-preserved c =
    let front : c.loop-i.i < c.args.m = omega (arith, length-take {A = ℕ}) in
    filling-next c.loop-i.invariant c.loop-i-test.true (up_at 1 c.args.m c.loop-i.i front ∙ omega arith)
