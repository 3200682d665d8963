use Rattle.std.proofs.Common.{take}
use Rattle.cone_cutter.specs.Walks.{Meets}
use Rattle.cone_cutter.proofs.walking.meet.Given as goal

abbrev pub invariant-loop-leaf : goal.invariant-loop-leaf
invariant-loop-leaf l = Meets (take l.leaf-index l.row) l.stamp l.fn.stamps l.fn.found.items l.stamps l.found.items
