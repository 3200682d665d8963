use Rattle.std.proofs.Common.{rules}
use Rattle.size_check.specs.Kept.{types_of}
use Rattle.size_check.specs.Typings.{port_notes}
use Rattle.size_check.proofs.Noting.{notes_more}
use Rattle.size_check.proofs.known.note_ports.Goals as goal

pub loop-port-preserved : goal.loop-port-preserved
loop-port-preserved c = record {
  types = notes_more port_notes c.args.ports.now c.loop-port.port-index c.port-item.result (types_of c.args.known.now.types.entries) (types_of c.loop-port.known.types.entries) _
      (search rules) (search rules) c.loop-port.invariant.types (search rules);
  measured = λ all. c.in_ok-note.ensures.measured c.args.names.now c.in_ok-declared.ensures.measured (c.loop-port.invariant.measured all);
}
