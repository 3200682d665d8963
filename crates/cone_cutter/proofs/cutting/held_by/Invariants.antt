use Rattle.std.proofs.Common.{◌≡◌, take}
use Rattle.std.specs.List.{filter}
use Rattle.cone_cutter.specs.Loads.{holds}
use Rattle.cone_cutter.proofs.cutting.held_by.Given as goal

abbrev pub invariant-loop-leaf : goal.invariant-loop-leaf
invariant-loop-leaf l = l.kept ≡ filter (holds l.masks l.part) (take l.leaf-index l.sequence)
