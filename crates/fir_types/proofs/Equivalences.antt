-- Equivalence goes both ways, and on and on, and each type is equivalent to itself.
use Rattle.std.proofs.Common.{◌≡◌, ℕ, List, [], ◌∷◌, map, refl, sym, ◌∙◌, subst}
use Rattle.place_text.specs.declared.place.Place.{Place}
use Rattle.fir_types.specs.declared.fir_type.FirType.{FirType, ind-FirType}
use Rattle.fir_types.specs.declared.fir_type.Shape.{Shape}
use Rattle.fir_types.specs.declared.fir_type.Shape.TheOpen.{Shape-F}
use Rattle.fir_types.specs.declared.fir_type.Shape.TheFolds.{map-Shape}
use Rattle.fir_types.specs.declared.fir_type.Shape.TheViews.{roll-Shape, roll-Field, roll-FirType}
use Rattle.fir_types.specs.declared.fir_type.Shape.TheVariants as shape
use Rattle.fir_types.specs.declared.fir_type.Shape.TheVariants.{rolls-Unsigned, rolls-Signed, rolls-Clock, rolls-Reset, rolls-AsyncReset, rolls-Bundle, rolls-Vector}
use Rattle.fir_types.specs.declared.fir_type.Field.{Field}
use Rattle.fir_types.specs.Equivalence.{Equivalent, SameFields, unsigned, signed, clocks, asyncs, vectors, bundles, no_fields, same_field, a_uint, a_reset, a_sint}
use Rattle.fir_types.proofs.Cases.{of_unsigned, of_signed, of_clock, of_async, of_vector, of_bundle, IsVectorLike, vector_like, IsBundleLike, bundle_like}

mutual
  pub turned_round : {l r : FirType} → Equivalent l r → Equivalent r l
  turned_round (unsigned u v) = unsigned v u
  turned_round (signed u v) = signed v u
  turned_round (clocks u v) = clocks v u
  turned_round (asyncs u v) = asyncs v u
  turned_round (vectors e o n u v q) = vectors o e n v u (turned_round q)
  turned_round (bundles fs gs u v q) = bundles gs fs v u (fields_turned q)

  fields_turned : {fs gs : List Field} → SameFields fs gs → SameFields gs fs
  fields_turned no_fields = no_fields
  fields_turned (same_field a b q rest) = same_field (sym a) (sym b) (turned_round q) (fields_turned rest)

from_vector : {l r : FirType} (e o : FirType) (n : ℕ) → l.shape ≡ shape.Vector e n → IsVectorLike o n r → ((w : FirType) → Equivalent o w → Equivalent e w) → Equivalent l r
from_vector e o n u (vector_like w f s) further = vectors e w n u f (further w s)

from_bundle : {l r : FirType} (fs gs : List Field) → l.shape ≡ shape.Bundle fs → IsBundleLike gs r → ((hs : List Field) → SameFields gs hs → SameFields fs hs) → Equivalent l r
from_bundle fs gs u (bundle_like hs f s) further = bundles fs hs u f (further hs s)

mutual
  pub on_and_on : {l m r : FirType} → Equivalent l m → Equivalent m r → Equivalent l r
  on_and_on (unsigned u v) q = unsigned u (of_unsigned v q)
  on_and_on (signed u v) q = signed u (of_signed v q)
  on_and_on (clocks u v) q = clocks u (of_clock v q)
  on_and_on (asyncs u v) q = asyncs u (of_async v q)
  on_and_on (vectors e o n u v p) q = from_vector e o n u (of_vector o n v q) (λ w s. on_and_on p s)
  on_and_on (bundles fs gs u v p) q = from_bundle fs gs u (of_bundle gs v q) (λ hs s. on_fields p s)

  on_fields : {fs gs hs : List Field} → SameFields fs gs → SameFields gs hs → SameFields fs hs
  on_fields no_fields q = q
  on_fields (same_field a b p ps) (same_field c d q qs) = same_field (a ∙ c) (b ∙ d) (on_and_on p q) (on_fields ps qs)

-- each type is equivalent to itself

abbrev ShapeAlike : Shape → Type 0
ShapeAlike s = (place : Place) → Equivalent (record { place = place; shape = s }) (record { place = place; shape = s })

abbrev FieldAlike : Field → Type 0
FieldAlike f = Equivalent f.typ f.typ

abbrev Alike : FirType → Type 0
Alike t = Equivalent t t

fields_alike : (ps : List ((f : Field) × FieldAlike f)) → SameFields (map (λ e. e.0) ps) (map (λ e. e.0) ps)
fields_alike [] = no_fields
fields_alike (p ∷ ps) = same_field refl refl p.1 (fields_alike ps)

shape_alike : (y : Shape-F ((s : Shape) × ShapeAlike s) ((f : Field) × FieldAlike f) ((t : FirType) × Alike t))
    → ShapeAlike (roll-Shape (map-Shape _ _ _ Shape Field FirType (λ e. e.0) (λ e. e.0) (λ e. e.0) y))
shape_alike (Shape-F.Unsigned w) = subst ShapeAlike (sym (rolls-Unsigned w)) (λ place. unsigned (a_uint w refl) (a_uint w refl))
shape_alike (Shape-F.Signed w) = subst ShapeAlike (sym (rolls-Signed w)) (λ place. signed (a_sint w refl) (a_sint w refl))
shape_alike Shape-F.Clock = subst ShapeAlike (sym rolls-Clock) (λ place. clocks refl refl)
shape_alike Shape-F.Reset = subst ShapeAlike (sym rolls-Reset) (λ place. unsigned (a_reset refl) (a_reset refl))
shape_alike Shape-F.AsyncReset = subst ShapeAlike (sym rolls-AsyncReset) (λ place. asyncs refl refl)
shape_alike (Shape-F.Bundle fields) =
    let fs : List Field = map (λ e. e.0) fields in
    subst ShapeAlike (sym (rolls-Bundle fs)) (λ place. bundles fs fs refl refl (fields_alike fields))
shape_alike (Shape-F.Vector element n) = subst ShapeAlike (sym (rolls-Vector element.0 n)) (λ place. vectors element.0 element.0 n refl refl element.1)

pub alike : (t : FirType) → Equivalent t t
alike = ind-FirType ShapeAlike FieldAlike Alike
    (λ x y is. subst (λ z. ShapeAlike (roll-Shape z)) is (shape_alike y))
    (λ x y is. subst (λ z. FieldAlike (roll-Field z)) is y.typ.1)
    (λ x y is. subst (λ z. Alike (roll-FirType z)) is (y.shape.1 y.place))
