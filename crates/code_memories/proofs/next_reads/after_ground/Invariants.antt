use Rattle.std.proofs.Common.{◌≡◌, take, fold}
use Rattle.code_memories.specs.NextReads.{over_ground, there_ground}
use Rattle.code_memories.proofs.next_reads.after_ground.Given as goal

abbrev pub invariant-loop-writer : goal.invariant-loop-writer
invariant-loop-writer l = l.held ≡ fold (λ held writer. over_ground l.port.addr l.of.number writer held) (there_ground l.port.addr l.of) (take l.writer-index l.memory.ports)
