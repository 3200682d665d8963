use Rattle.std.proofs.Common.{rules, arith}
use Rattle.std.proofs.lemmas.Grind.{common_steps}
use Rattle.width_rules.proofs.Spots.{masks-bundle, masks_more}
use Rattle.width_rules.proofs.sizes.+mask.Goals as goal

pub push_mask-returns-in-Bundle : goal.push_mask-returns-in-Bundle
push_mask-returns-in-Bundle t c = let e = masks-bundle c.inside_lengths-inside.result.now c.in-Bundle.fields c.in-Bundle.is in let h = c.inside_lengths-inside.ensures.masks in grind (arith, common_steps, e, h)

pub push_field_masks-loop-field-preserved : goal.push_field_masks-loop-field-preserved
push_field_masks-loop-field-preserved t c = masks_more c.args.fields.now c.loop-field.field-index c.field-item.result c.args.slots.now c.loop-field.slots c.push_mask.new.slots
    (search rules) (search rules) c.loop-field.invariant c.in_ok-push_mask.ensures
