use Rattle.std.proofs.Common.{◌≡◌, ◌+◌, take}
use Rattle.ground_net.specs.Nets.{element_shapes}
use Rattle.ground_net.specs.Words.{count_words}
use Rattle.part_compile.specs.KeptRows.{AreElementsOf}
use Rattle.part_compile.proofs.sources.elements_of.Given as goal

abbrev pub invariant-loop-leaf : goal.invariant-loop-leaf
invariant-loop-leaf l = record {
  base : l.base ≡ l.memory.word + count_words (take l.leaf-index (element_shapes l.memory));
  are : AreElementsOf l.memory l.leaf-index l.sources;
}
