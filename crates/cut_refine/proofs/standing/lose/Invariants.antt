use Rattle.std.proofs.Common.{take}
use Rattle.cut_refine.specs.Standing.{Loses}
use Rattle.cut_refine.proofs.standing.lose.Given as goal

abbrev pub invariant-loop-leaf : goal.invariant-loop-leaf
invariant-loop-leaf l = Loses l.part (take l.leaf-index l.cone) l.counts l.fn.masks l.masks
