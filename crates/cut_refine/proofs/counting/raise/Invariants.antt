use Rattle.std.proofs.Common.{take}
use Rattle.cut_refine.specs.Standing.{Raises}
use Rattle.cut_refine.proofs.counting.raise.Given as goal

abbrev pub invariant-loop-leaf : goal.invariant-loop-leaf
invariant-loop-leaf l = Raises (take l.leaf-index l.cone) l.fn.counts l.counts
