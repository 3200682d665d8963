use Rattle.std.proofs.Common.{rules, arith}
use Rattle.std.proofs.lemmas.Grind.{common_steps}
use Rattle.width_rules.proofs.Spots.{spots-bundle, adds_more}
use Rattle.width_rules.proofs.sizes.+slots.Goals as goal

pub push_slots-returns-in-Bundle : goal.push_slots-returns-in-Bundle
push_slots-returns-in-Bundle t c = let e = spots-bundle c.inside_lengths-inside.result.now c.in-Bundle.fields c.in-Bundle.is in let h = c.inside_lengths-inside.ensures.places in grind (arith, common_steps, e, h)

pub push_field_slots-loop-field-preserved : goal.push_field_slots-loop-field-preserved
push_field_slots-loop-field-preserved t c = adds_more c.args.place c.args.fields.now c.loop-field.field-index c.field-item.result
    (search rules) (search rules) c.loop-field.invariant c.in_ok-push_slots.ensures
