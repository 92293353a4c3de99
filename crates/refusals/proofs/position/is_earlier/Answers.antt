-- `position::is_earlier` meets its contract: the ids before the place are those of the slice. Assumes nothing.
use native.Mathlib.Omega.{arith}
use mathlib.Core.Path.{◌∙◌}
use lib.ListN.{get_or}
use Rattle.refusals.proofs.Parts.{before-among}
use Rattle.refusals.proofs.position.is_earlier.Goals as goal

pub returns : goal.returns
returns c = c.contains.ensures.value ∙ before-among c.args.ids.now (get_or c.args.ids.now c.args.k 0) c.args.k (omega arith)
