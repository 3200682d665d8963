-- The shape of a type is one of seven.
use Rattle.std.proofs.Common.{◌≡◌, ℕ, List, map, Option, subst}
use Rattle.fir_types.specs.declared.fir_type.FirType.{FirType}
use Rattle.fir_types.specs.declared.fir_type.Shape.{Shape, ind-Shape}
use Rattle.fir_types.specs.declared.fir_type.Shape.TheOpen.{Shape-F}
use Rattle.fir_types.specs.declared.fir_type.Shape.TheFolds.{map-Shape}
use Rattle.fir_types.specs.declared.fir_type.Shape.TheViews.{roll-Shape}
use Rattle.fir_types.specs.declared.fir_type.Shape.TheVariants as shape
use Rattle.fir_types.specs.declared.fir_type.Shape.TheVariants.{rolls-Unsigned, rolls-Signed, rolls-Clock, rolls-Reset, rolls-AsyncReset, rolls-Bundle, rolls-Vector}
use Rattle.fir_types.specs.declared.fir_type.Field.{Field}

-- what a shape is
pub data ShapeCase (s : Shape) : Type 0 where
  shape_uint : (width : Option ℕ) → s ≡ shape.Unsigned width → ShapeCase s
  shape_sint : (width : Option ℕ) → s ≡ shape.Signed width → ShapeCase s
  shape_clock : s ≡ shape.Clock → ShapeCase s
  shape_reset : s ≡ shape.Reset → ShapeCase s
  shape_async : s ≡ shape.AsyncReset → ShapeCase s
  shape_bundle : (fields : List Field) → s ≡ shape.Bundle fields → ShapeCase s
  shape_vector : (element : FirType) (length : ℕ) → s ≡ shape.Vector element length → ShapeCase s

case_of_layer : (y : Shape-F ((s : Shape) × ShapeCase s) ((f : Field) × Unit {0}) ((t : FirType) × Unit {0}))
    → ShapeCase (roll-Shape (map-Shape _ _ _ Shape Field FirType (λ e. e.0) (λ e. e.0) (λ e. e.0) y))
case_of_layer (Shape-F.Unsigned w) = shape_uint w (rolls-Unsigned w)
case_of_layer (Shape-F.Signed w) = shape_sint w (rolls-Signed w)
case_of_layer Shape-F.Clock = shape_clock rolls-Clock
case_of_layer Shape-F.Reset = shape_reset rolls-Reset
case_of_layer Shape-F.AsyncReset = shape_async rolls-AsyncReset
case_of_layer (Shape-F.Bundle fields) = shape_bundle (map (λ e. e.0) fields) (rolls-Bundle (map (λ e. e.0) fields))
case_of_layer (Shape-F.Vector element n) = shape_vector element.0 n (rolls-Vector element.0 n)

pub case_of : (s : Shape) → ShapeCase s
case_of = ind-Shape ShapeCase (λ f. Unit {0}) (λ t. Unit {0}) (λ x y is. subst (λ z. ShapeCase (roll-Shape z)) is (case_of_layer y)) (λ x y is. tt) (λ x y is. tt)
