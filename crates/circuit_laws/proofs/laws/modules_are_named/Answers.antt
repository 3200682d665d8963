use Rattle.circuit_laws.proofs.Reached.{module_meant, meant_module, named_module, one_number}
use Rattle.circuit_laws.proofs.laws.modules_are_named.Goals as goal

pub returns-clause-meant : goal.returns-clause-meant
returns-clause-meant c = module_meant

pub returns-clause-numbered : goal.returns-clause-numbered
returns-clause-numbered c = meant_module

pub returns-clause-itself : goal.returns-clause-itself
returns-clause-itself c = named_module

pub returns-clause-once : goal.returns-clause-once
returns-clause-once c = one_number
