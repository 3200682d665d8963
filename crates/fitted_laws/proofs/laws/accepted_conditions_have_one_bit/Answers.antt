use Rattle.fitted_laws.proofs.Circuits.{module_asks}
use Rattle.fitted_laws.proofs.laws.accepted_conditions_have_one_bit.Goals as goal

pub returns : goal.returns
returns c = module_asks
