use Rattle.std.proofs.Common.{◌≡◌, ◌++◌, map, take, zip}
use Rattle.std.specs.List.{flat_map}
use Rattle.drive_check.specs.Keys.{leaf_of_key}
use Rattle.clock_check.specs.Edges.{edges_of, node_edge}
use Rattle.clock_check.proofs.walk.push_pairs.Given as goal

abbrev pub invariant-loop-at : goal.invariant-loop-at
invariant-loop-at l = edges_of l.links.items ≡ edges_of l.fn.links.items ++ flat_map (node_edge l.name.id) (take l.at (zip l.parts (map leaf_of_key l.sources)))
