use Rattle.std.proofs.Common.{◌≡◌, ◌*◌, ◌≤◌, map, take, slice_get}
use Rattle.ground_net.specs.Nets.{shape_or_none}
use Rattle.ground_net.specs.Words.{count_words}
use Rattle.memory_ports.proofs.memories.register_words.Given as goal

abbrev pub invariant-loop-register : goal.invariant-loop-register
invariant-loop-register l = record {
  words : l.words ≡ count_words (map (λ register. shape_or_none (slice_get l.leaves register.leaf)) (take l.register-index l.registers));
  few : l.words ≤ 2 * l.register-index;
}
