-- `write` meets its contract: the bytes are handed, unless a write failed before. Assumes nothing.
use Rattle.std.proofs.Common.{refl}
use Rattle.streams.proofs.Passing.{passed-write, passed-failed, finished-write}
use Rattle.streams.proofs.write.Goals as goal

pub returns-then-streams : goal.returns-then-streams
returns-then-streams c = record { passed = λ i o p. passed-failed _ c.if-streams.true p; later = λ h. h; same = refl }

pub returns : goal.returns
returns c =
    record {
      passed = λ i o p. passed-write _ _ refl c.if-streams.false p;
      later = λ h. finished-write c.args.streams _ c.if-streams.false h;
      same = refl;
    }
