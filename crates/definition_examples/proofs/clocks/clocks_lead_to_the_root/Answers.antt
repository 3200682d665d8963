use Rattle.definition_examples.proofs.Leading.{direct_clocked, node_clocked, instance_clocked}
use Rattle.definition_examples.proofs.clocks.clocks_lead_to_the_root.Goals as goal

pub returns-clause-direct : goal.returns-clause-direct
returns-clause-direct c = direct_clocked

pub returns-clause-node : goal.returns-clause-node
returns-clause-node c = node_clocked

pub returns-clause-instance : goal.returns-clause-instance
returns-clause-instance c = instance_clocked
