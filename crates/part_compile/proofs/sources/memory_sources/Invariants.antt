use Rattle.part_compile.specs.KeptRows.{AreMemoriesOf}
use Rattle.part_compile.proofs.sources.memory_sources.Given as goal

abbrev pub invariant-loop-memory : goal.invariant-loop-memory
invariant-loop-memory l = AreMemoriesOf l.net.memories l.memory-index l.sources
