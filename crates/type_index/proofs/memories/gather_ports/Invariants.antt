use Rattle.std.proofs.Common.{take}
use Rattle.fir_types.specs.declared.fir_type.FirType.{FirType}
use Rattle.type_index.specs.Gathering.{Gathers}
use Rattle.type_index.specs.Ports.{ArePorts, Keeps}
use Rattle.type_index.proofs.memories.gather_ports.Given as goal

abbrev pub invariant-loop-port : goal.invariant-loop-port
invariant-loop-port l =
    (element mask : FirType) → ArePorts element mask l.ports → Keeps l.names element mask l.fn.before
    → Gathers l.names (take l.port-index l.ports) l.gathered × Keeps l.names element mask l.kept
