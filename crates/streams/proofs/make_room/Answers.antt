-- `make_room` meets its contract: what waited is written or waits still. Assumes nothing.
use Rattle.std.proofs.Common.{arith}
use Rattle.streams.proofs.Passing.{issued-written, issued-none}
use Rattle.streams.proofs.make_room.Goals as goal

pub returns : goal.returns
returns c =
    record {
      room = omega (arith, c.requires.fits);
      issued = λ i o q. issued-none (issued-written c.write-after.result c.write-after.ensures q);
      later = c.write-after.ensures.later;
      same = c.write-after.ensures.same;
    }
