use Rattle.std.proofs.Common.{◌≡◌, drop}
use Rattle.std.specs.Vec.Iter.{into_iter_items}
use Rattle.width_rules.specs.Circuits.{known_ports}
use Rattle.width_rules.proofs.gathering.note_ports.Given as goal

abbrev pub invariant-loop-port : goal.invariant-loop-port
invariant-loop-port l = known_ports l.ports l.fn.widths l.fn.known.entries ≡ known_ports (drop l.port-index l.ports) (into_iter_items l.widths) l.known.entries
