use Rattle.std.proofs.Common.{take, map}
use Rattle.ground_net.specs.Cones.{numbered}
use Rattle.memory_ports.specs.Placing.{data_of}
use Rattle.memory_ports.specs.Keeping.{Marks}
use Rattle.memory_ports.proofs.reads.mark_read.Given as goal

abbrev pub invariant-loop-element : goal.invariant-loop-element
invariant-loop-element l = Marks (map (λ both. (both.1, data_of l.memory both.0 l.port l.read)) (numbered (take l.element l.read.leaves))) l.fn.marks.items l.marks.items
