-- `differences::gather_plan` meets its contract: no row is above 4,096, so the whole part is passed. Assumes nothing.
use Rattle.differences.proofs.Growing.{plan-reach, plan-done}
use Rattle.differences.proofs.gather_plan.Goals as goal

pub gather_below-r-requires : goal.gather_below-r-requires
gather_below-r-requires c = plan-reach _ c.requires.0 c.requires.1

pub returns : goal.returns
returns c = plan-done c.args.kind c.requires.0 c.requires.1 c.gather_below-r.ensures
