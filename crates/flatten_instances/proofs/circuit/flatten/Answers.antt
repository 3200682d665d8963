use Rattle.std.proofs.Common.{refl}
use Rattle.flatten_instances.proofs.Flattening.{is_flat}
use Rattle.flatten_instances.proofs.circuit.flatten.Goals as goal

pub returns : goal.returns
returns c = is_flat c.args.driven.now c.in_ok-plan.plan c.module_of-main.result.now _ c.in_ok-plan.ensures c.module_of-main.ensures refl c.in_ok-leaves.ensures c.in_ok-drivers.ensures c.in_ok-registers.ensures c.in_ok-memories.ensures
