-- Where no place is reached, a type stays as it is.
use Rattle.std.proofs.Common.{◌≡◌, ℕ, ◌+◌, Bool, false, List, [], ◌∷◌, map, refl, sym, ap, ap₂, ◌∙◌, subst, arith}
use Rattle.std.proofs.lemmas.Grind.{common_steps}
use Rattle.fir_types.specs.declared.fir_type.FirType.{FirType, ind-FirType, the_lemmas}
use Rattle.fir_types.specs.declared.fir_type.Shape.{Shape, fold-Shape}
use Rattle.fir_types.specs.declared.fir_type.Shape.TheOpen.{Shape-F, Field-F, FirType-F}
use Rattle.fir_types.specs.declared.fir_type.Shape.TheFolds.{map-Shape, map-Field, map-FirType}
use Rattle.fir_types.specs.declared.fir_type.Shape.TheViews.{roll-Shape, roll-Field, roll-FirType}
use Rattle.fir_types.specs.declared.fir_type.Field.{Field, fold-Field}
use Rattle.reset_search.specs.Resolved as resolving
use Rattle.reset_search.specs.Resolved.{Becomes, all_from, becomes, none_reached}

abbrev shape_becomes : Shape → Becomes Shape
shape_becomes = fold-Shape (Becomes Shape) (Becomes Field) (Becomes FirType) (resolving.of_shape none_reached) (resolving.of_field none_reached) (resolving.of_type none_reached)

abbrev field_becomes : Field → Becomes Field
field_becomes = fold-Field (Becomes Shape) (Becomes Field) (Becomes FirType) (resolving.of_shape none_reached) (resolving.of_field none_reached) (resolving.of_type none_reached)

abbrev ShapeStays : Shape → Type 0
ShapeStays s = (n : ℕ) → (shape_becomes s).1 n ≡ s

abbrev FieldStays : Field → Type 0
FieldStays f = (n : ℕ) → (field_becomes f).1 n ≡ f

abbrev TypeStays : FirType → Type 0
TypeStays t = (n : ℕ) → (becomes none_reached t).1 n ≡ t

fields_stay : (ps : List ((f : Field) × FieldStays f)) (n : ℕ) → all_from (map field_becomes (map (λ e. e.0) ps)) n ≡ map (λ e. e.0) ps
fields_stay [] n = refl
fields_stay (p ∷ ps) n = ap₂ (λ x xs. x ∷ xs) (p.1 n) (fields_stay ps (n + (field_becomes p.0).0))

shape_step : (y : Shape-F ((s : Shape) × ShapeStays s) ((f : Field) × FieldStays f) ((t : FirType) × TypeStays t))
    → ShapeStays (roll-Shape (map-Shape _ _ _ Shape Field FirType (λ e. e.0) (λ e. e.0) (λ e. e.0) y))
shape_step (Shape-F.Unsigned w) n = grind (arith, common_steps, the_lemmas)
shape_step (Shape-F.Signed w) n = grind (arith, common_steps, the_lemmas)
shape_step Shape-F.Clock n = grind (arith, common_steps, the_lemmas)
shape_step Shape-F.Reset n = grind (arith, common_steps, the_lemmas)
shape_step Shape-F.AsyncReset n = grind (arith, common_steps, the_lemmas)
shape_step (Shape-F.Bundle fields) n = grind (arith, common_steps, the_lemmas, fields_stay fields n)
shape_step (Shape-F.Vector element length) n = grind (arith, common_steps, the_lemmas, element.1 n)

field_step : (y : Field-F ((s : Shape) × ShapeStays s) ((f : Field) × FieldStays f) ((t : FirType) × TypeStays t))
    → FieldStays (roll-Field (map-Field _ _ _ Shape Field FirType (λ e. e.0) (λ e. e.0) (λ e. e.0) y))
field_step y n = grind (arith, common_steps, the_lemmas, y.typ.1 n)

type_step : (y : FirType-F ((s : Shape) × ShapeStays s) ((f : Field) × FieldStays f) ((t : FirType) × TypeStays t))
    → TypeStays (roll-FirType (map-FirType _ _ _ Shape Field FirType (λ e. e.0) (λ e. e.0) (λ e. e.0) y))
type_step y n = grind (arith, common_steps, the_lemmas, y.shape.1 n)

pub type_stays : (t : FirType) → TypeStays t
type_stays = ind-FirType ShapeStays FieldStays TypeStays
    (λ x y is. subst (λ z. ShapeStays (roll-Shape z)) is (shape_step y))
    (λ x y is. subst (λ z. FieldStays (roll-Field z)) is (field_step y))
    (λ x y is. subst (λ z. TypeStays (roll-FirType z)) is (type_step y))
