use Rattle.std.proofs.Common.{◌≡◌, ◌++◌, drop}
use Rattle.std.specs.Vec.Iter.{into_iter_items}
use Rattle.width_rules.specs.Circuits.{known_ports}
use Rattle.width_fit.specs.Judging.{ports_declared, ports_faults}
use Rattle.width_fit.specs.Walks.{solved}
use Rattle.width_fit.specs.Held.{HoldsFits}
use Rattle.width_fit.proofs.telling.declare_ports.Given as goal

abbrev pub invariant-loop-port : goal.invariant-loop-port
invariant-loop-port l = record {
  known : known_ports l.ports l.fn.widths l.fn.walk.known.entries ≡ known_ports (drop l.port-index l.ports) (into_iter_items l.widths) l.walk.known.entries;
  places : l.walk.places.items ≡ l.fn.walk.places.items;
  declared : l.fn.walk.declared.items ++ ports_declared (solved l.given) l.ports l.fn.widths ≡ l.walk.declared.items ++ ports_declared (solved l.given) (drop l.port-index l.ports) (into_iter_items l.widths);
  nodes : l.walk.found.nodes.items ≡ l.fn.walk.found.nodes.items;
  faults : l.fn.walk.found.faults.items ++ ports_faults (solved l.given) l.ports l.fn.widths ≡ l.walk.found.faults.items ++ ports_faults (solved l.given) (drop l.port-index l.ports) (into_iter_items l.widths);
  fits : HoldsFits l.given l.walk;
}
