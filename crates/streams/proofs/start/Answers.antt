-- `start` meets its contract: nothing went through. Assumes nothing.
use Rattle.std.proofs.Common.{refl}
use Rattle.streams.proofs.Passing.{passed_start}
use Rattle.streams.proofs.start.Goals as goal

pub returns : goal.returns
returns c = record { passed = passed_start c.args.stdin c.args.stdout; unended = refl; working = refl; unread = refl }
