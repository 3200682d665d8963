use Rattle.check_laws.proofs.CircuitFlows.{circuit_flows, flows_by_number}
use Rattle.check_laws.proofs.flow_laws.judged_flows_are_listed.Goals as goal

pub returns-clause-lists : goal.returns-clause-lists
returns-clause-lists c = circuit_flows

pub returns-clause-numbers : goal.returns-clause-numbers
returns-clause-numbers c = flows_by_number
