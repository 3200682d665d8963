use Rattle.std.proofs.Common.{◌≡◌, map, take}
use Rattle.size_check.specs.Kept.{types_of, AreMeasured}
use Rattle.size_check.specs.Typings.{in_turn, port_notes}
use Rattle.size_check.proofs.known.note_ports.Given as goal

abbrev pub invariant-loop-port : goal.invariant-loop-port
invariant-loop-port l = record {
  types : types_of l.known.types.entries ≡ in_turn (map port_notes (take l.port-index l.ports)) (types_of l.fn.known.types.entries);
  measured : AreMeasured l.names l.fn.known.types.entries → AreMeasured l.names l.known.types.entries;
}
