-- `updown::starts::mark_starts` meets its contract. Assumes nothing.
use Rattle.std.proofs.Common.{arith}
use Rattle.updown.proofs.Listing.{starts_none, marking-row, marking-next, marking-end}
use Rattle.updown.proofs.starts.mark_starts.Goals as goal

pub loop-k-init : goal.loop-k-init
loop-k-init c = λ W can. starts_none can.bare

pub mark_start-requires : goal.mark_start-requires
mark_start-requires c = marking-row c.requires.can (c.loop-k.invariant c.requires.W c.requires.can) c.loop-k-test.true

pub loop-k-preserved : goal.loop-k-preserved
loop-k-preserved c = λ W can. marking-next can (c.loop-k.invariant W can) c.loop-k-test.true c.mark_start.ensures (omega arith)

pub returns : goal.returns
returns c = λ W can. marking-end can (c.loop-k.invariant W can) (omega arith) (omega arith)
