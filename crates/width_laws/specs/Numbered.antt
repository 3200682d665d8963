-- Types whose places all have numbers (FIRRTL specification 3.0, "Width Inference").
use Rattle.std.specs.Prelude.{◌≡◌, ℕ, nat_le, Bool, true, false, Option, Some, None}
use Rattle.std.specs.List.{list_all, list_any}
use Rattle.fir_types.specs.declared.fir_type.FirType.{FirType, fold-FirType}
use Rattle.fir_types.specs.declared.fir_type.Shape.TheOpen.{Shape-F}
use Rattle.width_fit.specs.Written.{place_widths}

-- a number from 0 to 128
abbrev pub is_number : Option ℕ → Bool
is_number (Some n) = nat_le n 128
is_number None = false

-- whether a `Reset` stands in a type
abbrev pub reset_layer : Shape-F Bool Bool Bool → Bool
reset_layer (Shape-F.Unsigned width) = false
reset_layer (Shape-F.Signed width) = false
reset_layer Shape-F.Clock = false
reset_layer Shape-F.Reset = true
reset_layer Shape-F.AsyncReset = false
reset_layer (Shape-F.Bundle fields) = list_any (λ f. f) fields
reset_layer (Shape-F.Vector element n) = element

abbrev pub has_reset : FirType → Bool
has_reset = fold-FirType Bool Bool Bool reset_layer (λ f. f.typ) (λ t. t.shape)

-- Each place has a number from 0 to 128, also in the element of a vector of length 0, and what was a `Reset` is a `UInt`.
pub record HasNumbers (typ : FirType) : Type 0 where
  pub numbers : list_all is_number (place_widths typ) ≡ true
  pub resets : has_reset typ ≡ false
