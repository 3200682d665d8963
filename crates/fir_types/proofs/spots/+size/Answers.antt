use Rattle.std.proofs.Common.{arith}
use Rattle.std.proofs.lemmas.Grind.{common_steps}
use Rattle.fir_types.proofs.SpotLayers.{size-bundle, size-field}
use Rattle.fir_types.proofs.spots.+size.Goals as goal

pub size-returns-in-Bundle : goal.size-returns-in-Bundle
size-returns-in-Bundle t c = let e = size-bundle c.inside_lengths-inside.result.now c.in-Bundle.fields c.in-Bundle.is in let h = c.inside_lengths-inside.ensures.places in grind (arith, common_steps, e, h)

pub sizes-loop-field-preserved : goal.sizes-loop-field-preserved
sizes-loop-field-preserved t c = let e = size-field c.field-item.result in grind (arith, common_steps, e)
