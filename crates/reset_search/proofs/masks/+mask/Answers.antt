use Rattle.std.proofs.Common.{arith}
use Rattle.std.proofs.lemmas.Grind.{common_steps}
use Rattle.reset_search.proofs.Masking.{masks-bundle, masks-field}
use Rattle.reset_search.proofs.masks.+mask.Goals as goal

pub mask_size-returns-in-Bundle : goal.mask_size-returns-in-Bundle
mask_size-returns-in-Bundle t c =
    let e = masks-bundle c.inside_lengths-inside.result.now c.in-Bundle.fields c.in-Bundle.is in
    let h = c.inside_lengths-inside.ensures.masks in
    grind (arith, common_steps, e, h)

pub mask_sizes-loop-field-preserved : goal.mask_sizes-loop-field-preserved
mask_sizes-loop-field-preserved t c = let e = masks-field c.field-item.result in grind (arith, common_steps, e)
