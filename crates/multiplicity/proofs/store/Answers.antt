-- The upper half's place is still there after the lower half is stored; what two stores leave, by the law of Places.antt. Assumes nothing.
use Rattle.std.proofs.Common.{arith}
use Rattle.std.proofs.Math.ListN.{length-set}
use Rattle.multiplicity.proofs.Places.{length_wide, set_wide}
use Rattle.multiplicity.proofs.store.Goals as goal

pub bounds-counts-i-then-wide : goal.bounds-counts-i-then-wide
bounds-counts-i-then-wide c = grind (arith, length_wide, length-set)

pub returns-then-wide : goal.returns-then-wide
returns-then-wide c = grind (arith, set_wide)
