use Rattle.std.proofs.Common.{take, length, replicate, None}
use Rattle.memory_ports.specs.Placing.{reads_of}
use Rattle.memory_ports.specs.Keeping.{Marks}
use Rattle.memory_ports.proofs.reads.read_data.Given as goal

abbrev pub invariant-loop-number : goal.invariant-loop-number
invariant-loop-number l = Marks (reads_of (take l.number l.flat.memories)) (replicate (length l.flat.leaves) None) l.marks.items
