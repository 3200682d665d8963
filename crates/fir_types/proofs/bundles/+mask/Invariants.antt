use Rattle.std.proofs.Common.{◌≡◌, ◌≤◌, map, take}
use Rattle.fir_types.specs.declared.fir_type.FirType.{size-FirType}
use Rattle.fir_types.specs.Bundles.{mask_of_field}
use Rattle.fir_types.specs.Runs.{within}
use Rattle.fir_types.proofs.bundles.+mask.Given as goal

abbrev pub invariant-mask-loop-inside : goal.invariant-mask-loop-inside
invariant-mask-loop-inside l = (within l.lengths.items l.inside ≡ l.typ) × (size-FirType l.inside ≤ size-FirType l.typ)

abbrev pub invariant-mask_fields-loop-field : goal.invariant-mask_fields-loop-field
invariant-mask_fields-loop-field l = l.masks ≡ map mask_of_field (take l.field-index l.fields)
