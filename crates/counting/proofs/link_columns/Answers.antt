-- A turn lists one id.
use Rattle.std.proofs.Common.{arith}
use Rattle.counting.proofs.Linking.{linking-start, linking-has, linking-can, linking-next, linking-end}
use Rattle.counting.proofs.link_columns.Goals as goal

pub loop-id-init : goal.loop-id-init
loop-id-init c = linking-start c.requires

pub start_at-first-requires : goal.start_at-first-requires
start_at-first-requires c = linking-has c.requires c.loop-id.invariant (omega arith)

pub link-requires : goal.link-requires
link-requires c = linking-can c.requires c.loop-id.invariant _ (omega arith) c.start_at-first.ensures

pub loop-id-preserved : goal.loop-id-preserved
loop-id-preserved c = linking-next c.requires c.loop-id.invariant _ (omega arith) c.start_at-first.ensures c.link.ensures

pub returns : goal.returns
returns c = linking-end c.requires c.loop-id.invariant (omega arith)
