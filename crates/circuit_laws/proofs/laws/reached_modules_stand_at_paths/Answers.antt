use Rattle.circuit_laws.proofs.Reached.{reached_is_standing, known_module}
use Rattle.circuit_laws.proofs.laws.reached_modules_stand_at_paths.Goals as goal

pub returns-clause-reached : goal.returns-clause-reached
returns-clause-reached c = reached_is_standing

pub returns-clause-typed : goal.returns-clause-typed
returns-clause-typed c = known_module
