-- The number of leaves is the length of their list.
use Rattle.std.proofs.Common.{◌≡◌, ℕ, zero, suc, ◌*◌, List, [], ◌∷◌, map, sum, length, refl, subst, arith}
use Rattle.std.specs.List.{flat_map}
use Rattle.std.proofs.lemmas.Grind.{common_steps}
use Rattle.std.proofs.lemmas.List.Folds.{flat_map-map}
use Rattle.place_text.specs.declared.place.Place.{Place}
use Rattle.fir_types.specs.declared.fir_type.FirType.{FirType, ind-FirType, the_lemmas}
use Rattle.fir_types.specs.declared.fir_type.Shape.{Shape}
use Rattle.fir_types.specs.declared.fir_type.Shape.TheOpen.{Shape-F, Field-F, FirType-F}
use Rattle.fir_types.specs.declared.fir_type.Shape.TheFolds.{map-Shape, map-Field, map-FirType}
use Rattle.fir_types.specs.declared.fir_type.Shape.TheViews.{roll-Shape, roll-Field, roll-FirType}
use Rattle.fir_types.specs.declared.fir_type.Field.{Field}
use Rattle.fir_types.specs.declared.leaf.TypeLeaf.{TypeLeaf}
use Rattle.fir_types.specs.Leaves.{leaves, count, field_leaves, field_count, shape_leaves, shape_count, elements}

abbrev ShapeCounted : Shape → Type 0
ShapeCounted s = (place : Place) → shape_count s ≡ length (shape_leaves s place)

abbrev FieldCounted : Field → Type 0
FieldCounted f = field_count f ≡ length (field_leaves f)

abbrev Counted : FirType → Type 0
Counted t = count t ≡ length (leaves t)

abbrev Parts : Type 0
Parts = Shape-F ((s : Shape) × ShapeCounted s) ((f : Field) × FieldCounted f) ((t : FirType) × Counted t)

length-elements : (ls : List TypeLeaf) (n : ℕ) → length (elements ls n) ≡ n * length ls
length-elements ls zero = grind (arith, common_steps)
length-elements ls (suc n) = grind (arith, common_steps, length-elements ls n)

sum_counted : (ps : List ((f : Field) × FieldCounted f)) → sum (map field_count (map (λ e. e.0) ps)) ≡ length (flat_map field_leaves (map (λ e. e.0) ps))
sum_counted [] = refl
sum_counted (p ∷ ps) = grind (arith, common_steps, p.1, sum_counted ps)

field_step : (y : Field-F ((s : Shape) × ShapeCounted s) ((f : Field) × FieldCounted f) ((t : FirType) × Counted t))
    → FieldCounted (roll-Field (map-Field _ _ _ Shape Field FirType (λ e. e.0) (λ e. e.0) (λ e. e.0) y))
field_step y = grind (arith, common_steps, the_lemmas, y.typ.1)

type_step : (y : FirType-F ((s : Shape) × ShapeCounted s) ((f : Field) × FieldCounted f) ((t : FirType) × Counted t))
    → Counted (roll-FirType (map-FirType _ _ _ Shape Field FirType (λ e. e.0) (λ e. e.0) (λ e. e.0) y))
type_step y = grind (arith, common_steps, the_lemmas, y.shape.1 y.place)

shape_step : (y : Parts) → ShapeCounted (roll-Shape (map-Shape _ _ _ Shape Field FirType (λ e. e.0) (λ e. e.0) (λ e. e.0) y))
shape_step (Shape-F.Unsigned w) place = grind (arith, common_steps, the_lemmas)
shape_step (Shape-F.Signed w) place = grind (arith, common_steps, the_lemmas)
shape_step Shape-F.Clock place = grind (arith, common_steps, the_lemmas)
shape_step Shape-F.Reset place = grind (arith, common_steps, the_lemmas)
shape_step Shape-F.AsyncReset place = grind (arith, common_steps, the_lemmas)
shape_step (Shape-F.Bundle fields) place = grind (arith, common_steps, the_lemmas, flat_map-map, sum_counted fields)
shape_step (Shape-F.Vector element n) place = grind (arith, common_steps, the_lemmas, element.1, length-elements (leaves element.0) n)

pub counted : (typ : FirType) → count typ ≡ length (leaves typ)
counted = ind-FirType ShapeCounted FieldCounted Counted
    (λ x y is. subst (λ z. ShapeCounted (roll-Shape z)) is (shape_step y))
    (λ x y is. subst (λ z. FieldCounted (roll-Field z)) is (field_step y))
    (λ x y is. subst (λ z. Counted (roll-FirType z)) is (type_step y))
