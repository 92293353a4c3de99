-- `exchange::groups::none_moves` meets its contract: a list of one place stays empty just where no id moves. Assumes nothing.
use mathlib.Core.Path.{refl}
use native.Mathlib.Omega.{arith}
use Rattle.exchange.proofs.Scanning.{collected-none}
use Rattle.exchange.proofs.groups.none_moves.Statement.{statement}
use Rattle.exchange.proofs.groups.none_moves.Tie as tie

slice-aggregate-collect : tie.Need-slice_bounds-collect-end
slice-aggregate-collect c = refl

collect-requires : tie.Need-collect-g-requires
collect-requires c κs = c.before.before.before.requires

returns : tie.Need-returns
returns c = collected-none c.before.before.collect-g.ensures (omega arith)

pub none_moves_spec : {M : Type 1} → statement M
none_moves_spec = tie.close (tie.spec slice-aggregate-collect collect-requires returns)
