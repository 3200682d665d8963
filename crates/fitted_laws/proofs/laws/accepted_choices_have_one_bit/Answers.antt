use Rattle.fitted_laws.proofs.Circuits.{module_chooses}
use Rattle.fitted_laws.proofs.laws.accepted_choices_have_one_bit.Goals as goal

pub returns : goal.returns
returns c = module_chooses
