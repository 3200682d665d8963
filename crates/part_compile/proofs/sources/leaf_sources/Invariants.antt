use Rattle.part_compile.specs.KeptRows.{AreSourcesOf}
use Rattle.part_compile.proofs.sources.leaf_sources.Given as goal

abbrev pub invariant-loop-leaf : goal.invariant-loop-leaf
invariant-loop-leaf l = AreSourcesOf l.net l.leaf-index l.sources
