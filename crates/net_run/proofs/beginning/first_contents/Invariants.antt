use Rattle.net_run.specs.Keeping.{AreZeroMemories}
use Rattle.net_run.proofs.beginning.first_contents.Given as goal

abbrev pub invariant-loop-memory : goal.invariant-loop-memory
invariant-loop-memory l = AreZeroMemories l.net.memories l.memory-index l.contents.items
