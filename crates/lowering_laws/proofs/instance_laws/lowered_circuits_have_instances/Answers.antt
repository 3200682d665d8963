use Rattle.lowering_laws.proofs.Standing.{has_instances}
use Rattle.lowering_laws.proofs.instance_laws.lowered_circuits_have_instances.Goals as goal

pub returns : goal.returns
returns c = λ fitted well lowered is driven expanded. has_instances fitted well lowered is driven expanded
