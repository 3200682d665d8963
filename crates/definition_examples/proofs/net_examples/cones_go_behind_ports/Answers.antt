use Rattle.definition_examples.proofs.Chained.{address_in, behind_in, only_in}
use Rattle.definition_examples.proofs.net_examples.cones_go_behind_ports.Goals as goal

pub returns-clause-address : goal.returns-clause-address
returns-clause-address c = address_in

pub returns-clause-behind : goal.returns-clause-behind
returns-clause-behind c = behind_in

pub returns-clause-only : goal.returns-clause-only
returns-clause-only c = only_in
