use Rattle.std.proofs.Common.{rules, arith}
use Rattle.std.proofs.lemmas.Grind.{common_steps}
use Rattle.fir_types.proofs.SpotLayers.{spots-bundle, flips_more}
use Rattle.fir_types.proofs.spots.+flips.Goals as goal

pub push_flips-returns-in-Bundle : goal.push_flips-returns-in-Bundle
push_flips-returns-in-Bundle t c = let e = spots-bundle c.inside_lengths-inside.result.now c.in-Bundle.fields c.in-Bundle.is in let h = c.inside_lengths-inside.ensures.places in grind (arith, common_steps, e, h)

pub push_field_flips-loop-field-preserved : goal.push_field_flips-loop-field-preserved
push_field_flips-loop-field-preserved t c = flips_more c.args.fields.now c.loop-field.field-index c.field-item.result c.args.flip c.args.flips.now.items c.loop-field.flips.items c.push_flips.new.flips.items
    (search rules) (search rules) c.loop-field.invariant c.in_ok-push_flips.ensures
