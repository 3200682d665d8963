use Rattle.check_laws.proofs.Nodes.{types_in_order, nodes_are_there}
use Rattle.check_laws.proofs.Typed.{all_nodes_have}
use Rattle.check_laws.proofs.laws.nodes_have_types.Goals as goal

pub returns-clause-types : goal.returns-clause-types
returns-clause-types c = types_in_order

pub returns-clause-faultless : goal.returns-clause-faultless
returns-clause-faultless c = all_nodes_have

pub returns-clause-nodes : goal.returns-clause-nodes
returns-clause-nodes c = nodes_are_there
