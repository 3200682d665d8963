use Rattle.std.proofs.Common.{◌≡◌, ◌+◌, ℕ, map, take, slice_get, Some, sum_by}
use Rattle.ground_net.specs.declared.net.NetMemory.{NetMemory}
use Rattle.ground_net.specs.Words.{memory_words}
use Rattle.memory_ports.specs.Placing.{without_word}
use Rattle.memory_ports.proofs.memories.placed_memories.Given as goal

abbrev pub invariant-loop-memory : goal.invariant-loop-memory
invariant-loop-memory l = record {
  placed : map without_word l.placed ≡ take l.memory-index l.memories;
  word : l.word ≡ l.fn.word + sum_by memory_words l.placed;
  words : (m : ℕ) (memory : NetMemory) → slice_get l.placed m ≡ Some memory → memory.word ≡ l.fn.word + sum_by memory_words (take m l.placed);
}
