use Rattle.part_compile.proofs.Rowed.{AreStarts}
use Rattle.part_compile.proofs.words.words_from.Given as goal

abbrev pub invariant-loop-leaf : goal.invariant-loop-leaf
invariant-loop-leaf l = AreStarts l.net l.leaves l.first l.leaf-index l.next l.words
