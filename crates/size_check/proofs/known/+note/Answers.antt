use Rattle.std.proofs.Common.{rules, ◌∙◌, sym}
use Rattle.std.proofs.lemmas.Result.{on_ok_weaker}
use Rattle.size_check.specs.Kept.{types_of}
use Rattle.size_check.specs.Typings.{stmt_notes, arm_notes}
use Rattle.size_check.proofs.Noting.{notes_more, arm_notes_are}
use Rattle.size_check.proofs.known.+note.Goals as goal

pub note_statements-loop-statement-preserved : goal.note_statements-loop-statement-preserved
note_statements-loop-statement-preserved t c = record {
  types = notes_more (stmt_notes c.args.modules.now.all.now) c.args.statements.now c.loop-statement.statement-index c.statement-item.result (types_of c.args.known.now.types.entries) _ _
      (search rules) (search rules) c.loop-statement.invariant.types c.in_ok-note_statement.ensures.types;
  measured = λ all. c.in_ok-note_statement.ensures.measured (c.loop-statement.invariant.measured all);
}

pub note_arms-loop-arm-preserved : goal.note_arms-loop-arm-preserved
note_arms-loop-arm-preserved t c = record {
  types = notes_more (arm_notes c.args.modules.now.all.now) c.args.arms.now c.loop-arm.arm-index c.arm-item.result (types_of c.args.known.now.types.entries) _ _
      (search rules) (search rules) c.loop-arm.invariant.types
      (rw c.as_slice.ensures at c.in_ok-note_statements.ensures.types ∙ sym (arm_notes_are c.args.modules.now.all.now c.arm-item.result (types_of c.loop-arm.known.types.entries)));
  measured = λ all. c.in_ok-note_statements.ensures.measured (c.loop-arm.invariant.measured all);
}

pub note_statement-returns-in_ok-note_arms-in-When-clause-measured : goal.note_statement-returns-in_ok-note_arms-in-When-clause-measured
note_statement-returns-in_ok-note_arms-in-When-clause-measured t c =
    on_ok_weaker c.note_statements.result (λ rest all. rest (c.in_ok-note_arms-in-When.ensures.measured all)) c.note_statements.ensures.measured
