-- `read` meets its contract: its bytes follow those read before; where no read gives any more, it gives none. Assumes nothing.
use Rattle.std.proofs.Common.{◌≡◌, rules, arith}
use Rattle.streams.specs.declared.Source.TheVariants.{Open}
use Rattle.streams.proofs.Passing.{Found, found-end, found-failure, found-bytes, read-made}
use Rattle.streams.proofs.read.Goals as goal
use Rattle.streams.proofs.read.Goals.{in-Ok-eq0, in-Ok, in-Err}

pub returns : goal.returns
returns c =
    let at_start : c.args.streams.source ≡ Open = search rules in
    let found : Found c.read.new.buf c.match-read.count.0 c.match-read.count.1 =
    elim c.match-read.branch [
      | in-Ok-eq0 w ↦ rw w.count-is found-end
      | in-Ok w ↦ rw w.count-is (found-bytes w.in-Ok.ensures.bound.0 w.in-Ok.count-test.1)
      | in-Err w ↦ rw w.count-is found-failure
    ] in
    read-made c.args.streams found at_start c.if-streams.false (omega (arith, c.if-streams-2.false, c.well_formed))
