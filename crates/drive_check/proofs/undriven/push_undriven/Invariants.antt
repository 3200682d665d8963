use Rattle.std.proofs.Common.{◌≡◌, ◌++◌, take}
use Rattle.std.specs.List.{flat_map}
use Rattle.drive_check.specs.Keys.{is_among}
use Rattle.drive_check.specs.Walks.{leaf_faults, sort_of}
use Rattle.drive_check.proofs.undriven.push_undriven.Given as goal

abbrev pub invariant-loop-leaf : goal.invariant-loop-leaf
invariant-loop-leaf l = l.faults.items ≡ l.fn.faults.items ++ flat_map (leaf_faults (is_among l.certain.keys.keys) l.component.0 (sort_of l.component.1)) (take l.leaf-index l.leaf-items)
