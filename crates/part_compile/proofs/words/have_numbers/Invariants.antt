use Rattle.std.proofs.Common.{take}
use Rattle.part_compile.specs.FirstWords.{HaveNumbers}
use Rattle.part_compile.proofs.words.have_numbers.Given as goal

abbrev pub invariant-loop-memory : goal.invariant-loop-memory
invariant-loop-memory l = HaveNumbers (take l.memory-index l.memories)
