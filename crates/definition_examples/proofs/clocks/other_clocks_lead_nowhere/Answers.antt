use Rattle.definition_examples.proofs.Nowhere.{late_refused, gated_refused, port_refused}
use Rattle.definition_examples.proofs.clocks.other_clocks_lead_nowhere.Goals as goal

pub returns-clause-second_input : goal.returns-clause-second_input
returns-clause-second_input c = late_refused

pub returns-clause-condition : goal.returns-clause-condition
returns-clause-condition c = gated_refused

pub returns-clause-port : goal.returns-clause-port
returns-clause-port c = port_refused
