use Rattle.std.proofs.Common.{◌≡◌, map, take}
use Rattle.size_check.specs.Kept.{types_of, AreMeasured}
use Rattle.size_check.specs.Typings.{in_turn, stmt_notes, arm_notes}
use Rattle.size_check.proofs.known.+note.Given as goal

abbrev pub invariant-note_statements-loop-statement : goal.invariant-note_statements-loop-statement
invariant-note_statements-loop-statement l = record {
  types : types_of l.known.types.entries ≡ in_turn (map (stmt_notes l.modules.all.now) (take l.statement-index l.statements)) (types_of l.fn.known.types.entries);
  measured : AreMeasured l.modules.names.now l.fn.known.types.entries → AreMeasured l.modules.names.now l.known.types.entries;
}

abbrev pub invariant-note_arms-loop-arm : goal.invariant-note_arms-loop-arm
invariant-note_arms-loop-arm l = record {
  types : types_of l.known.types.entries ≡ in_turn (map (arm_notes l.modules.all.now) (take l.arm-index l.arms)) (types_of l.fn.known.types.entries);
  measured : AreMeasured l.modules.names.now l.fn.known.types.entries → AreMeasured l.modules.names.now l.known.types.entries;
}
