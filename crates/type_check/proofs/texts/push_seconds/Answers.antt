use Rattle.std.proofs.Common.{arith}
use Rattle.std.proofs.lemmas.Grind.{common_steps}
use Rattle.type_check.proofs.Seconds.{seconds_more, ids_more}
use Rattle.type_check.proofs.texts.push_seconds.Goals as goal

pub loop-field-preserved : goal.loop-field-preserved
loop-field-preserved c = record {
  faults = seconds_more c.args.fields.now c.loop-field.field-index c.field-item.result c.args.faults.now.items c.loop-field.faults.items c.push_unless.new.faults.items
      c.loop-field.ids.keys c.in_ok-_index.added (grind (arith, common_steps)) (grind (arith, common_steps)) c.loop-field.invariant.faults c.loop-field.invariant.held
      c.in_ok-_index.ensures.added c.in_ok-push_unless.ensures;
  held = ids_more c.args.fields.now c.loop-field.field-index c.field-item.result c.loop-field.ids.keys c.insert_full.new.self.keys (grind (arith, common_steps))
      (grind (arith, common_steps)) c.loop-field.invariant.held c.in_ok-_index.ensures.keys;
}
