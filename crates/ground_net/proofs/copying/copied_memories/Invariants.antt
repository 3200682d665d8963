use Rattle.std.proofs.Common.{◌≡◌, take}
use Rattle.ground_net.proofs.copying.copied_memories.Given as goal

abbrev pub invariant-loop-memory : goal.invariant-loop-memory
invariant-loop-memory l = l.copies ≡ take l.memory-index l.memories
