-- A chain that does not find its own number shares its last record with a later one; where all do, none is shared.
use Rattle.ends.proofs.Naming.{found_all, found_none}
use Rattle.ends.proofs.are_apart.Goals as goal

pub returns-then-work-b : goal.returns-then-work-b
returns-then-work-b c = found_none c.requires c.loop-i-test.true c.if-e-ne0.true c.if-work-b.true

pub returns : goal.returns
returns c = found_all c.loop-i.invariant c.requires c.loop-i-test.false
