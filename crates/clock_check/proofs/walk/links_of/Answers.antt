use Rattle.std.proofs.Common.{◌∙◌, ◌++◌, ap, map, rules}
use Rattle.std.specs.List.{flat_map}
use Rattle.std.proofs.lemmas.List.{take_all}
use Rattle.drive_check.specs.HeldTypes.{types_in}
use Rattle.clock_check.specs.Driving.{driver_of}
use Rattle.clock_check.specs.Edges.{edges_of, edges_in, walked, port_edges}
use Rattle.clock_check.proofs.Walking.{module_done}
use Rattle.clock_check.proofs.walk.links_of.Goals as goal

pub returns : goal.returns
returns c =
    let types = types_in c.args.types.now in
    module_done types c.args.holder.now (driver_of c.in_ok-drivers.drivers.known.entries) (edges_of c.loop-port.links.items) (search rules)
    (c.loop-port.invariant
    ∙ ap (λ l. edges_in types (map (walked types) c.args.holder.now.body) ++ flat_map (port_edges types (driver_of c.in_ok-drivers.drivers.known.entries)) l)
    (take_all c.loop-port.port-index c.as_slice-port-items.result.now c.loop-port-test.false ∙ search rules))
