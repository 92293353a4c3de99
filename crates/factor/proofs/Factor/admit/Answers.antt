-- `Factor::admit` meets its contract: the record by value is the factor's. Assumes nothing.
use Rattle.admission.proofs.Admitting.{admitted-as}
use Rattle.factor.proofs.Factor.admit.Goals as goal

pub returns : goal.returns
returns c = admitted-as c.state.ensures c.admit.ensures
