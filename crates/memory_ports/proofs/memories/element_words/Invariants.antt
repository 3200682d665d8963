use Rattle.std.proofs.Common.{◌≡◌, ◌*◌, ◌≤◌, map, take}
use Rattle.ground_net.specs.Nets.{element_shape}
use Rattle.ground_net.specs.Words.{count_words}
use Rattle.memory_ports.proofs.memories.element_words.Given as goal

abbrev pub invariant-loop-element : goal.invariant-loop-element
invariant-loop-element l = record {
  words : l.words ≡ count_words (map element_shape (take l.element-index l.elements));
  few : l.words ≤ 2 * l.element-index;
}
