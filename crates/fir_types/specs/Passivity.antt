-- Passive types (FIRRTL specification 3.0, "Passive Types").
use Rattle.std.specs.Prelude.{◌≡◌, Bool, false, ◌||◌}
use Rattle.std.specs.List.{list_any}
use Rattle.fir_types.specs.declared.fir_type.FirType.{FirType, fold-FirType}
use Rattle.fir_types.specs.declared.fir_type.Shape.TheOpen.{Shape-F}
use Rattle.fir_types.specs.declared.fir_type.Field.{Field, fold-Field}

-- One layer, with the answer for each part in its place.
abbrev pub flip_in_shape : Shape-F Bool Bool Bool → Bool
flip_in_shape (Shape-F.Unsigned width) = false
flip_in_shape (Shape-F.Signed width) = false
flip_in_shape Shape-F.Clock = false
flip_in_shape Shape-F.Reset = false
flip_in_shape Shape-F.AsyncReset = false
flip_in_shape (Shape-F.Bundle fields) = list_any (λ there. there) fields
flip_in_shape (Shape-F.Vector element n) = element

-- whether a `flip` stands anywhere in the text of a type, also in that of an element of a vector of length 0
abbrev pub has_flip : FirType → Bool
has_flip = fold-FirType Bool Bool Bool flip_in_shape (λ f. f.flip || f.typ) (λ t. t.shape)

abbrev pub field_has_flip : Field → Bool
field_has_flip = fold-Field Bool Bool Bool flip_in_shape (λ f. f.flip || f.typ) (λ t. t.shape)

abbrev pub IsPassive : FirType → Type 0
IsPassive typ = has_flip typ ≡ false
