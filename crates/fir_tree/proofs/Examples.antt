-- Types that may and may not be a reset of a register.
use Rattle.std.proofs.Common.{◌≡◌, true, false, Some, arith}
use Rattle.std.proofs.lemmas.Grind.{common_steps}
use Rattle.place_text.specs.declared.place.Place.{Place}
use Rattle.fir_types.specs.declared.fir_type.FirType.{FirType, the_lemmas}
use Rattle.fir_types.specs.declared.fir_type.Shape.{Shape}
use Rattle.fir_types.specs.declared.fir_type.Shape.TheVariants as shape
use Rattle.fir_tree.specs.Kinds.{is_async, is_reset}

abbrev place : Place
place = record { line = 1; column = 1 }

abbrev typ : Shape → FirType
typ s = record { place = place; shape = s }

-- An AsyncReset and a UInt may be one, and a Reset, which is a UInt<1>.
an_async : is_reset (typ shape.AsyncReset) ≡ true
an_async = grind (arith, common_steps, the_lemmas)

a_uint : is_reset (typ (shape.Unsigned (Some 4))) ≡ true
a_uint = grind (arith, common_steps, the_lemmas)

a_reset : is_reset (typ shape.Reset) ≡ true
a_reset = grind (arith, common_steps, the_lemmas)

-- An SInt and a Clock may not.
a_sint : is_reset (typ (shape.Signed (Some 1))) ≡ false
a_sint = grind (arith, common_steps, the_lemmas)

a_clock : is_reset (typ shape.Clock) ≡ false
a_clock = grind (arith, common_steps, the_lemmas)

-- A Reset is no AsyncReset.
reset_is_no_async : is_async (typ shape.Reset) ≡ false
reset_is_no_async = grind (arith, common_steps, the_lemmas)
