-- What is known of an AsyncReset and of a Clock.
use Rattle.std.proofs.Common.{true, false, refl}
use Rattle.place_text.specs.declared.place.Place.{Place}
use Rattle.fir_types.specs.declared.fir_type.FirType.{FirType}
use Rattle.fir_types.specs.declared.fir_type.Shape.{Shape}
use Rattle.fir_types.specs.declared.fir_type.Shape.TheVariants as shape
use Rattle.fir_tree.specs.LeafNames.{Texts}
use Rattle.type_index.specs.declared.tree.Inside.TheVariants as inside
use Rattle.type_index.specs.Knowing.{Matches, IsRight}
use Rattle.type_index.proofs.Built.{async_matches, clock_matches}

abbrev place : Place
place = record { line = 1; column = 1 }

abbrev typ : Shape → FirType
typ s = record { place = place; shape = s }

-- An AsyncReset is a signal, no clock, and its place has a width.
an_async : (texts : Texts)
    → Matches (IsRight texts) (typ shape.AsyncReset) (record { leaves = 1; bytes = 0; passive = true; clocked = false; signals = true; places = 1; inside = inside.Ground })
an_async texts = async_matches texts (typ shape.AsyncReset) refl

-- A Clock is both, and has no place.
a_clock : (texts : Texts)
    → Matches (IsRight texts) (typ shape.Clock) (record { leaves = 1; bytes = 0; passive = true; clocked = true; signals = true; places = 0; inside = inside.Ground })
a_clock texts = clock_matches texts (typ shape.Clock) refl
