use Rattle.part_compile.proofs.Composed.{publishes, shows}
use Rattle.part_compile.proofs.part_laws.parts_have_the_cycles_effects.Goals as goal

pub returns-clause-publications : goal.returns-clause-publications
returns-clause-publications c = λ net assignments these shown code words inputs given rho w p plain match settled. publishes net assignments these shown code words inputs given rho w p plain match settled

pub returns-clause-outputs : goal.returns-clause-outputs
returns-clause-outputs c = λ net assignments these shown code words inputs given rho w p plain match settled. shows net assignments these shown code words inputs given rho w p plain match settled
