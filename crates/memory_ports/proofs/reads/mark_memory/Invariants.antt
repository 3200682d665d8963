use Rattle.std.proofs.Common.{take}
use Rattle.std.specs.Prelude.{flat_map}
use Rattle.memory_ports.specs.Placing.{reads_of_port}
use Rattle.memory_ports.specs.Keeping.{Marks}
use Rattle.memory_ports.proofs.reads.mark_memory.Given as goal

abbrev pub invariant-loop-port : goal.invariant-loop-port
invariant-loop-port l = Marks (flat_map (λ port. reads_of_port l.number port port.read) (take l.port-index l.memory.ports)) l.fn.marks.items l.marks.items
