-- A type has as many ground places as places with widths.
use Rattle.std.proofs.Common.{◌≡◌, ℕ, ◌+◌, Bool, List, [], ◌∷◌, ◌++◌, map, length, refl, sym, ap, ap₂, ◌∙◌, subst, arith}
use Rattle.std.proofs.lemmas.Grind.{common_steps}
use Rattle.std.specs.Prelude.{flat_map}
use Rattle.std.proofs.lemmas.List.{length-map}
use Rattle.fir_types.specs.declared.fir_type.FirType.{FirType, ind-FirType, the_lemmas}
use Rattle.fir_types.specs.declared.fir_type.Shape.{Shape, fold-Shape}
use Rattle.fir_types.specs.declared.fir_type.Shape.TheOpen.{Shape-F, Field-F, FirType-F}
use Rattle.fir_types.specs.declared.fir_type.Shape.TheFolds.{map-Shape, map-Field, map-FirType}
use Rattle.fir_types.specs.declared.fir_type.Shape.TheViews.{roll-Shape, roll-Field, roll-FirType}
use Rattle.fir_types.specs.declared.fir_type.Field.{Field, fold-Field}
use Rattle.fir_types.specs.Spots as spotting
use Rattle.fir_types.specs.Spots.{Spot, spots}
use Rattle.reset_search.specs.declared.ground.Ground.{Ground}
use Rattle.reset_search.specs.Grounds as grounding
use Rattle.reset_search.specs.Grounds.{grounds}

abbrev shape_grounds : Shape → List Ground
shape_grounds = fold-Shape (List Ground) (List Ground) (List Ground) grounding.of_shape grounding.of_field (λ t. t.shape)

abbrev field_grounds : Field → List Ground
field_grounds = fold-Field (List Ground) (List Ground) (List Ground) grounding.of_shape grounding.of_field (λ t. t.shape)

abbrev shape_spots : Shape → List Spot
shape_spots = fold-Shape (List Spot) (List Spot) (List Spot) spotting.of_shape spotting.of_field (λ t. t.shape)

abbrev field_spots : Field → List Spot
field_spots = fold-Field (List Spot) (List Spot) (List Spot) spotting.of_shape spotting.of_field (λ t. t.shape)

abbrev ShapeCounts : Shape → Type 0
ShapeCounts s = length (shape_grounds s) ≡ length (shape_spots s)

abbrev FieldCounts : Field → Type 0
FieldCounts f = length (field_grounds f) ≡ length (field_spots f)

abbrev TypeCounts : FirType → Type 0
TypeCounts t = length (grounds t) ≡ length (spots t)

fields_count : (ps : List ((f : Field) × FieldCounts f)) → length (flat_map (λ x. x) (map field_grounds (map (λ e. e.0) ps))) ≡ length (flat_map (λ x. x) (map field_spots (map (λ e. e.0) ps)))
fields_count [] = refl
fields_count (p ∷ ps) = grind (arith, common_steps, p.1, fields_count ps)

shape_step : (y : Shape-F ((s : Shape) × ShapeCounts s) ((f : Field) × FieldCounts f) ((t : FirType) × TypeCounts t))
    → ShapeCounts (roll-Shape (map-Shape _ _ _ Shape Field FirType (λ e. e.0) (λ e. e.0) (λ e. e.0) y))
shape_step (Shape-F.Unsigned w) = grind (arith, common_steps, the_lemmas)
shape_step (Shape-F.Signed w) = grind (arith, common_steps, the_lemmas)
shape_step Shape-F.Clock = grind (arith, common_steps, the_lemmas)
shape_step Shape-F.Reset = grind (arith, common_steps, the_lemmas)
shape_step Shape-F.AsyncReset = grind (arith, common_steps, the_lemmas)
shape_step (Shape-F.Bundle fields) = grind (arith, common_steps, the_lemmas, fields_count fields)
shape_step (Shape-F.Vector element n) = grind (arith, common_steps, the_lemmas, length-map (grounds element.0) (grounding.within n), element.1)

field_step : (y : Field-F ((s : Shape) × ShapeCounts s) ((f : Field) × FieldCounts f) ((t : FirType) × TypeCounts t))
    → FieldCounts (roll-Field (map-Field _ _ _ Shape Field FirType (λ e. e.0) (λ e. e.0) (λ e. e.0) y))
field_step y = grind (arith, common_steps, the_lemmas, length-map (grounds y.typ.0) (grounding.turned y.flip), length-map (spots y.typ.0) (spotting.turned y.flip), y.typ.1)

type_step : (y : FirType-F ((s : Shape) × ShapeCounts s) ((f : Field) × FieldCounts f) ((t : FirType) × TypeCounts t))
    → TypeCounts (roll-FirType (map-FirType _ _ _ Shape Field FirType (λ e. e.0) (λ e. e.0) (λ e. e.0) y))
type_step y = grind (arith, common_steps, the_lemmas, y.shape.1)

pub as_many : (t : FirType) → TypeCounts t
as_many = ind-FirType ShapeCounts FieldCounts TypeCounts
    (λ x y is. subst (λ z. ShapeCounts (roll-Shape z)) is (shape_step y))
    (λ x y is. subst (λ z. FieldCounts (roll-Field z)) is (field_step y))
    (λ x y is. subst (λ z. TypeCounts (roll-FirType z)) is (type_step y))
