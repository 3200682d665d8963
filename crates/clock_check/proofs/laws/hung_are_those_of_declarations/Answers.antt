use Rattle.clock_check.proofs.Placing.{module_hung_is}
use Rattle.clock_check.proofs.laws.hung_are_those_of_declarations.Goals as goal

pub returns : goal.returns
returns c = module_hung_is
