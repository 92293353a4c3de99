-- `steps::reaches` meets its contract, by its test. Assumes nothing.
use mathlib.Core.Path.{refl}
use native.Mathlib.Omega.{arith}
use borrow.Author.Tests.{le-leb, lt-leb}
use Rattle.steps.proofs.reaches.Statement.{statement}
use Rattle.steps.proofs.reaches.Tie as tie

returns : tie.Need-returns-then-entries-limit
returns c = let s = c.before in rw (lt-leb s.args.limit s.args.entries (omega (arith, c.if-entries-limit.true))) refl

returns-2 : tie.Need-returns
returns-2 c = let s = c.before in rw (le-leb s.args.limit s.args.entries (omega (arith, c.if-entries-limit.false))) refl

pub reaches_spec : {M : Type 1} → statement M
reaches_spec = tie.close (tie.spec returns returns-2)
