use Rattle.std.proofs.Common.{take}
use Rattle.cone_cutter.specs.Marks.{Spreads}
use Rattle.cone_cutter.proofs.marking.spread.Given as goal

abbrev pub invariant-loop-leaf : goal.invariant-loop-leaf
invariant-loop-leaf l = Spreads (take l.leaf-index l.row) l.mark l.fn.marks l.marks
