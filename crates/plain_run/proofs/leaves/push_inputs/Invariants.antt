use Rattle.std.proofs.Common.{◌≡◌, ◌++◌, map, take}
use Rattle.std.specs.Prelude.{filter}
use Rattle.drive_check.specs.Keys.{leaf_of_key}
use Rattle.plain_cycle.specs.Held.{held_sort}
use Rattle.plain_run.specs.Leaves.{is_given, leaf_named}
use Rattle.plain_run.proofs.leaves.push_inputs.Given as goal

abbrev pub invariant-loop-leaf : goal.invariant-loop-leaf
invariant-loop-leaf l =
    map leaf_of_key l.inputs ≡ map leaf_of_key l.fn.inputs ++ map (leaf_named l.declaration.name) (filter (is_given (held_sort l.declaration.sort)) (take l.leaf-index l.leaves))
