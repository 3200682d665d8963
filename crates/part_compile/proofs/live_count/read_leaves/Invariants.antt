use Rattle.part_compile.specs.Counts.{ReadsMore}
use Rattle.part_compile.proofs.live_count.read_leaves.Given as goal

abbrev pub invariant-loop-leaf : goal.invariant-loop-leaf
invariant-loop-leaf l = ReadsMore l.leaves l.fn.live l.live
