use Rattle.std.proofs.Common.{refl}
use Rattle.soundness.proofs.Columns.{columns-can, columns-cut, columns-next, columns-end}
use Rattle.soundness.proofs.read_columns.Goals as goal

pub read_column-requires : goal.read_column-requires
read_column-requires c = columns-can c.loop-i.invariant c.requires c.loop-i-test.true

pub returns-in_err-n : goal.returns-in_err-n
returns-in_err-n c = rw c.from_residual.ensures (columns-cut c.loop-i.invariant c.in_err-n.ensures refl)

pub loop-i-preserved : goal.loop-i-preserved
loop-i-preserved c = columns-next c.loop-i.invariant c.in_ok-n.ensures c.loop-i-test.true refl

pub returns : goal.returns
returns c = columns-end c.loop-i.invariant c.loop-i-test.false
