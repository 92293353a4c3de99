-- `columns::number_heads` meets its contract. Assumes nothing.
use Rattle.std.proofs.Common.{length, arith, ◌∙◌}
use Rattle.lists.proofs.Rising.{up-length, up_at}
use Rattle.lists.proofs.Over.{filling-start, filling-next}
use Rattle.columns.proofs.number_heads.Goals as goal

pub loop-i-init : goal.loop-i-init
loop-i-init c = filling-start _ _ (up-length 1 (length c.args.heads.now))

pub loop-i-preserved : goal.loop-i-preserved
loop-i-preserved c = filling-next c.loop-i.invariant c.loop-i-test.true (up_at 1 (length c.args.heads.now) c.loop-i.i c.loop-i-test.true ∙ omega arith)
