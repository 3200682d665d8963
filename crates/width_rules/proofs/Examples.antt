-- The widths of nodes: each place has a variable, but for an AsyncReset.
use Rattle.std.proofs.Common.{◌≡◌, false, List, [], ◌∷◌, Some, None, arith}
use Rattle.std.proofs.lemmas.Grind.{common_steps}
use Rattle.place_text.specs.declared.place.Place.{Place}
use Rattle.fir_types.specs.declared.fir_type.FirType.{FirType, the_lemmas}
use Rattle.fir_types.specs.declared.fir_type.Shape.{Shape}
use Rattle.fir_types.specs.declared.fir_type.Shape.TheVariants as shape
use Rattle.fir_types.specs.declared.fir_type.Field.{Field}
use Rattle.width_rules.specs.declared.slot.Slot.TheVariants.{Fixed, Var}
use Rattle.width_rules.specs.Places.{node_slots, node_size}

abbrev place : Place
place = record { line = 1; column = 1 }

abbrev typ : Shape → FirType
typ s = record { place = place; shape = s }

-- { first, second }
abbrev two : Shape → Shape → FirType
two first second = typ (shape.Bundle (record { flip = false; name = record { id = 20; place = place }; typ = typ first } ∷ record { flip = false; name = record { id = 21; place = place }; typ = typ second } ∷ []))

-- A Reset has a variable, and so has a UInt with a width.
reset_varies : node_slots 7 (two shape.Reset (shape.Unsigned (Some 8))) ≡ Var 7 ∷ Var 8 ∷ []
reset_varies = grind (arith, common_steps, the_lemmas)

-- An AsyncReset has none: what stands behind it has the next one.
async_is_fixed : node_slots 7 (two shape.AsyncReset (shape.Unsigned (Some 8))) ≡ Fixed 1 ∷ Var 7 ∷ []
async_is_fixed = grind (arith, common_steps, the_lemmas)

one_variable : node_size (two shape.AsyncReset (shape.Unsigned (Some 8))) ≡ 1
one_variable = grind (arith, common_steps, the_lemmas)

elements_share : node_slots 7 (typ (shape.Vector (typ shape.AsyncReset) 3)) ≡ Fixed 1 ∷ []
elements_share = grind (arith, common_steps, the_lemmas)
