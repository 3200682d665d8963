-- The ground places of types (FIRRTL specification 3.0, "Reset Type" and "Type Equivalence"): those that may feed one another.
use Rattle.std.specs.Prelude.{ℕ, zero, suc, nat_eq, Bool, true, false, not, ◌&&◌, if◌then◌else◌, List, [], ◌∷◌, map, flat_map}
use Rattle.fir_types.specs.declared.fir_type.FirType.{FirType, fold-FirType}
use Rattle.fir_types.specs.declared.fir_type.Shape.{Shape}
use Rattle.fir_types.specs.declared.fir_type.Shape.TheOpen.{Shape-F, Field-F}
use Rattle.fir_types.specs.declared.fir_type.Shape.TheViews.{out-Shape}
use Rattle.fir_types.specs.declared.fir_type.Field.{Field}
use Rattle.reset_search.specs.declared.ground.Word.{Word}
use Rattle.reset_search.specs.declared.ground.Word.TheVariants.{OfUint, OfSint, OfReset, OfAsync}
use Rattle.reset_search.specs.declared.ground.Ground.{Ground}

abbrev pub one : Word → List Ground
one word = record { word = word; flip = false; leaf = true } ∷ []

abbrev pub turned : Bool → Ground → Ground
turned flip g = record { word = g.word; flip = if flip then not g.flip else g.flip; leaf = g.leaf }

-- in a vector of this length
abbrev pub within : ℕ → Ground → Ground
within zero g = record { word = g.word; flip = g.flip; leaf = false }
within (suc n) g = g

abbrev pub of_shape : Shape-F (List Ground) (List Ground) (List Ground) → List Ground
of_shape (Shape-F.Unsigned width) = one OfUint
of_shape (Shape-F.Signed width) = one OfSint
of_shape Shape-F.Clock = []
of_shape Shape-F.Reset = one OfReset
of_shape Shape-F.AsyncReset = one OfAsync
of_shape (Shape-F.Bundle fields) = flat_map (λ grounds. grounds) fields
of_shape (Shape-F.Vector element n) = map (within n) element

abbrev pub of_field : Field-F (List Ground) (List Ground) (List Ground) → List Ground
of_field f = map (turned f.flip) f.typ

-- The ground places of a type in order, which are its places with widths. All elements of a vector share those of the element; a Clock
-- has none.
abbrev pub grounds : FirType → List Ground
grounds = fold-FirType (List Ground) (List Ground) (List Ground) of_shape of_field (λ t. t.shape)

-- Whether two types are equivalent where Reset, AsyncReset and UInt are one type.

abbrev pub is_one_bit_or_uint : Shape-F Shape Field FirType → Bool
is_one_bit_or_uint (Shape-F.Unsigned width) = true
is_one_bit_or_uint Shape-F.Reset = true
is_one_bit_or_uint Shape-F.AsyncReset = true
is_one_bit_or_uint _ = false

abbrev pub is_sint : Shape-F Shape Field FirType → Bool
is_sint (Shape-F.Signed width) = true
is_sint _ = false

abbrev pub is_clock : Shape-F Shape Field FirType → Bool
is_clock Shape-F.Clock = true
is_clock _ = false

abbrev pub all_take : List (Field → Bool) → List Field → Bool
all_take [] [] = true
all_take [] (field ∷ fields) = false
all_take (take' ∷ takes) [] = false
all_take (take' ∷ takes) (field ∷ fields) = take' field && all_take takes fields

abbrev pub bundle_takes : List (Field → Bool) → Shape-F Shape Field FirType → Bool
bundle_takes takes (Shape-F.Bundle fields) = all_take takes fields
bundle_takes takes _ = false

abbrev pub vector_takes : (FirType → Bool) → ℕ → Shape-F Shape Field FirType → Bool
vector_takes takes length (Shape-F.Vector element other) = nat_eq length other && takes element
vector_takes takes length _ = false

abbrev pub shape_takes : Shape-F (Shape → Bool) (Field → Bool) (FirType → Bool) → Shape → Bool
shape_takes (Shape-F.Unsigned width) other = is_one_bit_or_uint (out-Shape other)
shape_takes (Shape-F.Signed width) other = is_sint (out-Shape other)
shape_takes Shape-F.Clock other = is_clock (out-Shape other)
shape_takes Shape-F.Reset other = is_one_bit_or_uint (out-Shape other)
shape_takes Shape-F.AsyncReset other = is_one_bit_or_uint (out-Shape other)
shape_takes (Shape-F.Bundle fields) other = bundle_takes fields (out-Shape other)
shape_takes (Shape-F.Vector element length) other = vector_takes element length (out-Shape other)

abbrev pub same_flip : Bool → Bool → Bool
same_flip true there' = there'
same_flip false there' = not there'

abbrev pub field_takes : Field-F (Shape → Bool) (Field → Bool) (FirType → Bool) → Field → Bool
field_takes f other = nat_eq f.name.id other.name.id && (same_flip f.flip other.flip && f.typ other.typ)

abbrev pub are_alike : FirType → FirType → Bool
are_alike = fold-FirType (Shape → Bool) (Field → Bool) (FirType → Bool) shape_takes field_takes (λ t other. t.shape other.shape)
