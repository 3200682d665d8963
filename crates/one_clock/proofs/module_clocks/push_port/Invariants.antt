use Rattle.std.proofs.Common.{◌≡◌, ◌++◌, map, take}
use Rattle.std.specs.List.{flat_map}
use Rattle.drive_check.specs.Keys.{leaf_of_key}
use Rattle.one_clock.specs.Modules.{input_leaf}
use Rattle.one_clock.proofs.module_clocks.push_port.Given as goal

abbrev pub invariant-loop-leaf : goal.invariant-loop-leaf
invariant-loop-leaf l = map leaf_of_key l.inputs.items ≡ map leaf_of_key l.fn.inputs.items ++ flat_map (input_leaf l.port.output l.port.name.id) (take l.leaf-index l.leaf-items)
