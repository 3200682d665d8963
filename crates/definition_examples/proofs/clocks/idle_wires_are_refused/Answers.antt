use Rattle.definition_examples.proofs.Nowhere.{number_refused, clock_refused}
use Rattle.definition_examples.proofs.clocks.idle_wires_are_refused.Goals as goal

pub returns-clause-number : goal.returns-clause-number
returns-clause-number c = number_refused

pub returns-clause-clock : goal.returns-clause-clock
returns-clause-clock c = clock_refused
