use Rattle.std.proofs.Common.{◌≡◌, ◌++◌, take}
use Rattle.std.specs.List.{flat_map}
use Rattle.clock_check.specs.Driving.{driver_of}
use Rattle.clock_check.specs.Edges.{edges_of, driven_edge, sort_of}
use Rattle.clock_check.proofs.walk.push_driven.Given as goal

abbrev pub invariant-loop-leaf : goal.invariant-loop-leaf
invariant-loop-leaf l = edges_of l.links.items ≡ edges_of l.fn.links.items ++ flat_map (driven_edge (driver_of l.drivers.known.entries) (sort_of l.component.1) l.component.0.id) (take l.leaf-index l.leaf-items)
