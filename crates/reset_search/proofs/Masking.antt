-- The places of masks of bundles.
use Rattle.std.proofs.Common.{arith, ◌≡◌, ℕ, List, [], ◌∷◌, map, sum, refl, sym, ap, ap₂, ◌∙◌}
use Rattle.std.proofs.lemmas.Grind.{common_steps}
use Rattle.std.proofs.lemmas.Simd.{map-map}
use Rattle.fir_types.specs.declared.fir_type.FirType.{FirType, the_lemmas}
use Rattle.fir_types.specs.declared.fir_type.Shape.TheVariants as shape
use Rattle.fir_types.specs.declared.fir_type.Field.{Field}
use Rattle.fir_types.specs.Bundles.{mask_of, mask_of_field}
use Rattle.fir_types.specs.Spots.{field_size}
use Rattle.fir_types.proofs.SpotLayers.{size-bundle, size-field}
use Rattle.reset_search.specs.Layers.{mask_size, field_mask_size}

mask-bundle : (t : FirType) (fs : List Field) → t.shape ≡ shape.Bundle fs → (mask_of t).shape ≡ shape.Bundle (map mask_of_field fs)
mask-bundle t fs e = grind (arith, common_steps, the_lemmas)

pub masks-bundle : (t : FirType) (fs : List Field) → t.shape ≡ shape.Bundle fs → mask_size t ≡ sum (map field_mask_size fs)
masks-bundle t fs e = size-bundle (mask_of t) (map mask_of_field fs) (mask-bundle t fs e) ∙ ap sum (map-map field_size mask_of_field fs)

mask-field : (f : Field) → (mask_of_field f).typ ≡ mask_of f.typ
mask-field f = grind (arith, common_steps, the_lemmas)

pub masks-field : (f : Field) → field_mask_size f ≡ mask_size f.typ
masks-field f = grind (arith, common_steps, size-field (mask_of_field f), mask-field f)
