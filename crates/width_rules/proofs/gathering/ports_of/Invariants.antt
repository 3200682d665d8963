use Rattle.std.proofs.Common.{◌≡◌, ◌++◌, take, length}
use Rattle.std.specs.List.{flat_map}
use Rattle.width_rules.specs.Circuits.{ports_from, port_places}
use Rattle.width_rules.proofs.gathering.ports_of.Given as goal

abbrev pub invariant-loop-port : goal.invariant-loop-port
invariant-loop-port l = record {
  slots : l.all ≡ ports_from (length l.fn.places.items) (take l.port-index l.ports);
  places : l.places.items ≡ l.fn.places.items ++ flat_map port_places (take l.port-index l.ports);
}
