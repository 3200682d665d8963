use Rattle.clock_check.proofs.Making.{target_is}
use Rattle.clock_check.proofs.laws.instances_are_those_of_components.Goals as goal

pub returns : goal.returns
returns c = λ fitted well m its name. target_is fitted (c.components_are_named.ensures fitted well.names) m its name
