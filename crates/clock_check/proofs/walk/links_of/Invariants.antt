use Rattle.std.proofs.Common.{◌≡◌, ◌++◌, map, take}
use Rattle.std.specs.List.{flat_map}
use Rattle.drive_check.specs.HeldTypes.{types_in}
use Rattle.clock_check.specs.Driving.{driver_of}
use Rattle.clock_check.specs.Edges.{edges_of, edges_in, walked, port_edges}
use Rattle.clock_check.proofs.walk.links_of.Given as goal

abbrev pub invariant-loop-port : goal.invariant-loop-port
invariant-loop-port l = edges_of l.links.items
    ≡ edges_in (types_in l.types) (map (walked (types_in l.types)) l.holder.body) ++ flat_map (port_edges (types_in l.types) (driver_of l.drivers.known.entries)) (take l.port-index l.port-items)
