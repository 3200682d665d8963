use Rattle.fitted_laws.proofs.WellFormed.{accepted_well_formed}
use Rattle.fitted_laws.proofs.laws.accepted_circuits_are_well_formed.Goals as goal

pub returns : goal.returns
returns c = accepted_well_formed
