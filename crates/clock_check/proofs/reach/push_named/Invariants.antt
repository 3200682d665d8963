use Rattle.std.proofs.Common.{◌≡◌, ◌++◌, map, take}
use Rattle.std.specs.List.{flat_map}
use Rattle.fir_meaning.specs.Mentions.{leaves_at}
use Rattle.drive_check.specs.Keys.{leaf_of_key}
use Rattle.clock_check.specs.Driving.{region_at}
use Rattle.clock_check.proofs.reach.push_named.Given as goal

abbrev pub invariant-loop-leaf : goal.invariant-loop-leaf
invariant-loop-leaf l = map leaf_of_key l.keys.items ≡ map leaf_of_key l.fn.keys.items ++ flat_map (λ part. leaves_at (region_at l.reach) part.path) (take l.leaf-index l.leaf-items)
