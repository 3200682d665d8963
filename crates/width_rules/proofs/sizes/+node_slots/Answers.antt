use Rattle.std.proofs.Common.{rules, arith}
use Rattle.std.proofs.lemmas.Grind.{common_steps}
use Rattle.width_rules.proofs.Spots.{node-bundle, node_adds_more}
use Rattle.width_rules.proofs.sizes.+node_slots.Goals as goal

pub push_node_slots-returns-in-Bundle : goal.push_node_slots-returns-in-Bundle
push_node_slots-returns-in-Bundle t c = let e = node-bundle c.inside_node-inside.result.now c.in-Bundle.fields c.in-Bundle.is in let h = c.inside_node-inside.ensures.places in grind (arith, common_steps, e, h)

pub push_node_fields-loop-field-preserved : goal.push_node_fields-loop-field-preserved
push_node_fields-loop-field-preserved t c = node_adds_more c.args.place c.args.fields.now c.loop-field.field-index c.field-item.result
    (search rules) (search rules) c.loop-field.invariant c.in_ok-push_node_slots.ensures
