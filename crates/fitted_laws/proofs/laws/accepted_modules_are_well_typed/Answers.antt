use Rattle.fitted_laws.proofs.Circuits.{all_declared, module_typed}
use Rattle.fitted_laws.proofs.laws.accepted_modules_are_well_typed.Goals as goal

pub returns-clause-declared : goal.returns-clause-declared
returns-clause-declared c = all_declared

pub returns-clause-typed : goal.returns-clause-typed
returns-clause-typed c = module_typed
