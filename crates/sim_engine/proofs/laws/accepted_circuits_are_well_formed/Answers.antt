use Rattle.sim_engine.proofs.Accepting.{fitted_well_formed}
use Rattle.sim_engine.proofs.laws.accepted_circuits_are_well_formed.Goals as goal

pub returns : goal.returns
returns c = fitted_well_formed
