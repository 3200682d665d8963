-- The passes one after the other: drivers in place of statements, then one circuit without instances, then its net.
use Rattle.ground_net.specs.declared.circuit.GroundCircuit.{GroundCircuit}
use Rattle.ground_net.specs.declared.circuit.DrivenCircuit.{DrivenCircuit}
use Rattle.ground_net.specs.declared.circuit.FlatCircuit.{FlatCircuit}
use Rattle.ground_net.specs.declared.net.Net.{Net}
use Rattle.ground_net.specs.Nets.{IsNet}
use Rattle.expand_whens.specs.Expanding.{IsExpanded}
use Rattle.flatten_instances.specs.Flat.{IsFlat}
use Rattle.flatten_instances.specs.Instances.{HasInstances}
use Rattle.memory_ports.specs.Placing.{IsPlaced}
use Rattle.memory_ports.specs.Sound.{IsSound}

-- With drivers in place of its statements the circuit has its instances and memories in turn.
abbrev pub IsInstanced : GroundCircuit → Type 0
IsInstanced lowered = (driven : DrivenCircuit) → IsExpanded lowered driven → HasInstances driven

-- The flat circuit is that of the circuit's drivers.
pub record IsFlatCircuitOf (lowered : GroundCircuit) (flat : FlatCircuit) : Type 0 where
  pub driven : DrivenCircuit
  pub expanded : IsExpanded lowered driven
  pub is : IsFlat driven flat

-- The net is that of the flat circuit, and well formed where the flat circuit has all that its net needs.
pub record IsNetOfPasses (lowered : GroundCircuit) (net : Net) : Type 0 where
  pub flat : FlatCircuit
  pub flattened : IsFlatCircuitOf lowered flat
  pub placed : IsPlaced flat net
  pub well_formed : IsSound flat → IsNet net
