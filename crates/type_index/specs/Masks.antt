-- A type, or its mask (FIRRTL specification 3.0, "Memories").
use Rattle.std.specs.Prelude.{Bool, true, false}
use Rattle.fir_types.specs.declared.fir_type.FirType.{FirType}
use Rattle.fir_types.specs.declared.fir_type.Field.{Field}
use Rattle.fir_types.specs.Bundles.{mask_of, mask_of_field}

abbrev pub masked : Bool → FirType → FirType
masked true typ = mask_of typ
masked false typ = typ

abbrev pub masked_field : Bool → Field → Field
masked_field true field = mask_of_field field
masked_field false field = field
