-- What is read of two places, by the law of Places.antt. Assumes nothing.
use Rattle.std.proofs.Common.{arith}
use Rattle.multiplicity.proofs.Places.{get_wide}
use Rattle.multiplicity.proofs.load.Goals as goal

pub returns-then-wide : goal.returns-then-wide
returns-then-wide c = grind (arith, get_wide)
