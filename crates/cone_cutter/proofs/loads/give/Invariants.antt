use Rattle.std.proofs.Common.{take}
use Rattle.cone_cutter.specs.Loads.{Gets}
use Rattle.cone_cutter.proofs.loads.give.Given as goal

abbrev pub invariant-loop-leaf : goal.invariant-loop-leaf
invariant-loop-leaf l = Gets l.part (take l.leaf-index l.cone) l.fn.masks l.masks
