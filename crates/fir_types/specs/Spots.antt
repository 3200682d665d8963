-- The places of a type that have widths (FIRRTL specification 3.0, "Width Inference"): each `UInt`, `SInt` and `Reset` in its text, in
-- order, also in the element of a vector of length 0. All elements of a vector share the places of the element. A Clock has no width.
use Rattle.std.specs.Prelude.{ℕ, Bool, false, not, if◌then◌else◌, List, [], ◌∷◌, map, flat_map, length, Option, Some}
use Rattle.fir_types.specs.declared.fir_type.FirType.{FirType, fold-FirType}
use Rattle.fir_types.specs.declared.fir_type.Shape.TheOpen.{Shape-F, Field-F}
use Rattle.fir_types.specs.declared.fir_type.Field.{Field, fold-Field}

-- a place: whether an odd number of flips stand on the way to it, and the width that the text gives
pub record Spot : Type 0 where
  pub flip : Bool
  pub width : Option ℕ

abbrev pub one_spot : Option ℕ → List Spot
one_spot width = record { flip = false; width = width } ∷ []

abbrev pub turned : Bool → Spot → Spot
turned flip spot = record { flip = if flip then not spot.flip else spot.flip; width = spot.width }

abbrev pub of_shape : Shape-F (List Spot) (List Spot) (List Spot) → List Spot
of_shape (Shape-F.Unsigned width) = one_spot width
of_shape (Shape-F.Signed width) = one_spot width
of_shape Shape-F.Reset = one_spot (Some 1)
of_shape Shape-F.AsyncReset = one_spot (Some 1)
of_shape Shape-F.Clock = []
of_shape (Shape-F.Bundle fields) = flat_map (λ spots. spots) fields
of_shape (Shape-F.Vector element length) = element

abbrev pub of_field : Field-F (List Spot) (List Spot) (List Spot) → List Spot
of_field f = map (turned f.flip) f.typ

abbrev pub spots : FirType → List Spot
spots = fold-FirType (List Spot) (List Spot) (List Spot) of_shape of_field (λ t. t.shape)

-- how many places a type has
abbrev pub size : FirType → ℕ
size typ = length (spots typ)

-- By the fields of bundles

-- the places of a field, turned round where the field is flipped
abbrev pub field_spots : Field → List Spot
field_spots = fold-Field (List Spot) (List Spot) (List Spot) of_shape of_field (λ t. t.shape)

-- how many places a field has
abbrev pub field_size : Field → ℕ
field_size field = length (field_spots field)

-- whether a place is flipped, under a flip or not
abbrev pub flip_of : Bool → Spot → Bool
flip_of flip spot = if flip then not spot.flip else spot.flip

abbrev pub flips_under : Bool → FirType → List Bool
flips_under flip typ = map (flip_of flip) (spots typ)
