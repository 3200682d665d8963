use Rattle.std.proofs.Common.{◌≡◌, ◌*◌, ◌≤◌, take}
use Rattle.ground_net.specs.Nets.{element_shapes}
use Rattle.ground_net.specs.Words.{count_words}
use Rattle.part_compile.proofs.words.element_words.Given as goal

abbrev pub invariant-loop-leaf : goal.invariant-loop-leaf
invariant-loop-leaf l = record {
  words : l.words ≡ count_words (take l.leaf-index (element_shapes l.memory));
  few : l.words ≤ 2 * l.leaf-index;
}
