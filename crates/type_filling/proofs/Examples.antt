-- Types with widths: a Reset becomes a UInt of its width, and an AsyncReset stays one.
use Rattle.std.proofs.Common.{◌≡◌, Bool, false, List, [], ◌∷◌, Some, None, arith}
use Rattle.std.proofs.lemmas.Grind.{common_steps}
use Rattle.place_text.specs.declared.place.Place.{Place}
use Rattle.fir_types.specs.declared.fir_type.FirType.{FirType, the_lemmas}
use Rattle.fir_types.specs.declared.fir_type.Shape.{Shape}
use Rattle.fir_types.specs.declared.fir_type.Shape.TheVariants as shape
use Rattle.fir_types.specs.declared.fir_type.Field.{Field}
use Rattle.prim_ops.specs.declared.widths.Width.TheVariants.{Bits}
use Rattle.type_filling.specs.Filling.{filled}

abbrev place : Place
place = record { line = 1; column = 1 }

abbrev typ : Shape → FirType
typ s = record { place = place; shape = s }

reset_filled : filled (typ shape.Reset) (Bits 1 ∷ []) ≡ typ (shape.Unsigned (Some 1))
reset_filled = grind (arith, common_steps, the_lemmas)

async_filled : filled (typ shape.AsyncReset) (Bits 1 ∷ []) ≡ typ shape.AsyncReset
async_filled = grind (arith, common_steps, the_lemmas)

-- It takes a width from the list, so the field behind it has its own.
abbrev two : Shape → Shape → FirType
two first second = typ (shape.Bundle (record { flip = false; name = record { id = 20; place = place }; typ = typ first } ∷ record { flip = false; name = record { id = 21; place = place }; typ = typ second } ∷ []))

async_takes_one : filled (two shape.AsyncReset (shape.Unsigned None)) (Bits 1 ∷ Bits 8 ∷ []) ≡ two shape.AsyncReset (shape.Unsigned (Some 8))
async_takes_one = grind (arith, common_steps, the_lemmas)
