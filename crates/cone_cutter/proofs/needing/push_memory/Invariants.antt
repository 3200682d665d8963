use Rattle.std.proofs.Common.{◌≡◌, ◌++◌, take}
use Rattle.std.specs.List.{flat_map}
use Rattle.ground_net.specs.Cones.{port_needs}
use Rattle.comb_order.specs.Spreads.{assignments_among}
use Rattle.cone_cutter.proofs.needing.push_memory.Given as goal

abbrev pub invariant-loop-port : goal.invariant-loop-port
invariant-loop-port l = l.row ≡ l.fn.row ++ assignments_among l.leaves (flat_map (λ port. port_needs port port.write) (take l.port-index l.port-items))
