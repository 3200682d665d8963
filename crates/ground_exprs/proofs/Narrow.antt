-- The leaves of narrow types.
use Rattle.std.proofs.Common.{◌≡◌, ℕ, zero, suc, ◌&&◌, nat_le, Bool, true, false, List, [], ◌∷◌, map, refl, sym, ap, ◌∙◌, subst, arith}
use Rattle.std.specs.List.{flat_map, list_all}
use Rattle.std.proofs.lemmas.Grind.{common_steps}
use Rattle.std.proofs.lemmas.List.Folds.{flat_map-map, list_all-append}
use Rattle.std.proofs.lemmas.List.Concat.{flat_map-cons}
use Rattle.place_text.specs.declared.place.Place.{Place}
use Rattle.fir_types.specs.declared.fir_type.FirType.{FirType, ind-FirType, the_lemmas}
use Rattle.fir_types.specs.declared.fir_type.Shape.{Shape, fold-Shape}
use Rattle.fir_types.specs.declared.fir_type.Shape.TheOpen.{Shape-F, Field-F, FirType-F}
use Rattle.fir_types.specs.declared.fir_type.Shape.TheFolds.{map-Shape, map-Field, map-FirType}
use Rattle.fir_types.specs.declared.fir_type.Shape.TheViews.{roll-Shape, roll-Field, roll-FirType}
use Rattle.fir_types.specs.declared.fir_type.Field.{Field}
use Rattle.fir_types.specs.declared.leaf.TypeLeaf.{TypeLeaf}
use Rattle.fir_types.specs.declared.leaf.PathStep.{PathStep}
use Rattle.fir_types.specs.declared.leaf.PathStep.TheVariants as step
use Rattle.fir_types.specs.Leaves.{leaves, field_leaves, shape_leaves, elements, under}
use Rattle.fir_meaning.specs.Components.{width_of_leaf}
use Rattle.ground_net.proofs.Shaping.{both_true}
use Rattle.ground_exprs.specs.Numbers.{narrow_field}
use Rattle.fir_meaning.specs.WellTyped.{is_narrow, narrow_layer}

abbrev narrow_leaf : TypeLeaf → Bool
narrow_leaf leaf = nat_le (width_of_leaf leaf) 128

abbrev shape_narrow : Shape → Bool
shape_narrow = fold-Shape Bool Bool Bool narrow_layer (λ f. f.typ) (λ t. t.shape)

abbrev ShapeNarrow : Shape → Type 0
ShapeNarrow s = (place : Place) → shape_narrow s ≡ true → list_all narrow_leaf (shape_leaves s place) ≡ true

abbrev FieldNarrow : Field → Type 0
FieldNarrow f = narrow_field f ≡ true → list_all narrow_leaf (field_leaves f) ≡ true

abbrev Narrow : FirType → Type 0
Narrow t = is_narrow t ≡ true → list_all narrow_leaf (leaves t) ≡ true

abbrev Parts : Type 0
Parts = Shape-F ((s : Shape) × ShapeNarrow s) ((f : Field) × FieldNarrow f) ((t : FirType) × Narrow t)

abbrev bare : Parts → Shape
bare y = roll-Shape (map-Shape ((s : Shape) × ShapeNarrow s) ((f : Field) × FieldNarrow f) ((t : FirType) × Narrow t) Shape Field FirType (λ e. e.0) (λ e. e.0) (λ e. e.0) y)

under_narrow : (path : List PathStep) (flip : Bool) (ls : List TypeLeaf) → list_all narrow_leaf (map (under path flip) ls) ≡ list_all narrow_leaf ls
under_narrow path flip [] = refl
under_narrow path flip (l ∷ ls) = ap (λ b. narrow_leaf l && b) (under_narrow path flip ls)

elements_narrow : (ls : List TypeLeaf) (n : ℕ) → list_all narrow_leaf ls ≡ true → list_all narrow_leaf (elements ls n) ≡ true
elements_narrow ls zero h = refl
elements_narrow ls (suc n) h =
    list_all-append narrow_leaf (elements ls n) (map (under (step.Element n ∷ []) false) ls)
    ∙ (ap (λ b. b && list_all narrow_leaf (map (under (step.Element n ∷ []) false) ls)) (elements_narrow ls n h) ∙ (under_narrow (step.Element n ∷ []) false ls ∙ h))

fields_narrow : (ps : List ((f : Field) × FieldNarrow f)) → list_all (λ b. b) (map narrow_field (map (λ e. e.0) ps)) ≡ true → list_all narrow_leaf (flat_map field_leaves (map (λ e. e.0) ps)) ≡ true
fields_narrow [] h = refl
fields_narrow (p ∷ ps) h =
    let split = both_true (narrow_field p.0) (list_all (λ b. b) (map narrow_field (map (λ e. e.0) ps))) h in
    ap (list_all narrow_leaf) (flat_map-cons field_leaves p.0 (map (λ e. e.0) ps)) ∙ (list_all-append narrow_leaf (field_leaves p.0) (flat_map field_leaves (map (λ e. e.0) ps))
    ∙ (ap (λ b. b && list_all narrow_leaf (flat_map field_leaves (map (λ e. e.0) ps))) (p.1 split.0) ∙ fields_narrow ps split.1))

abbrev bare_field : Field-F ((s : Shape) × ShapeNarrow s) ((f : Field) × FieldNarrow f) ((t : FirType) × Narrow t) → Field
bare_field y = roll-Field (map-Field ((s : Shape) × ShapeNarrow s) ((f : Field) × FieldNarrow f) ((t : FirType) × Narrow t) Shape Field FirType (λ e. e.0) (λ e. e.0) (λ e. e.0) y)

abbrev bare_type : FirType-F ((s : Shape) × ShapeNarrow s) ((f : Field) × FieldNarrow f) ((t : FirType) × Narrow t) → FirType
bare_type y = roll-FirType (map-FirType ((s : Shape) × ShapeNarrow s) ((f : Field) × FieldNarrow f) ((t : FirType) × Narrow t) Shape Field FirType (λ e. e.0) (λ e. e.0) (λ e. e.0) y)

field_step : (y : Field-F ((s : Shape) × ShapeNarrow s) ((f : Field) × FieldNarrow f) ((t : FirType) × Narrow t))
    → FieldNarrow (bare_field y)
field_step y = λ h.
    let is : narrow_field (bare_field y) ≡ is_narrow y.typ.0 = grind (arith, common_steps, the_lemmas) in
    let list : field_leaves (bare_field y) ≡ map (under (step.Field y.name.id ∷ []) y.flip) (leaves y.typ.0) = grind (arith, common_steps, the_lemmas) in
    ap (list_all narrow_leaf) list ∙ (under_narrow (step.Field y.name.id ∷ []) y.flip (leaves y.typ.0) ∙ y.typ.1 (sym is ∙ h))

type_step : (y : FirType-F ((s : Shape) × ShapeNarrow s) ((f : Field) × FieldNarrow f) ((t : FirType) × Narrow t))
    → Narrow (bare_type y)
type_step y = λ h.
    let is : is_narrow (bare_type y) ≡ shape_narrow y.shape.0 = grind (arith, common_steps, the_lemmas) in
    let list : leaves (bare_type y) ≡ shape_leaves y.shape.0 y.place = grind (arith, common_steps, the_lemmas) in
    ap (list_all narrow_leaf) list ∙ y.shape.1 y.place (sym is ∙ h)

shape_step : (y : Parts) → ShapeNarrow (bare y)
shape_step (Shape-F.Unsigned w) place h = grind (arith, common_steps, the_lemmas, h)
shape_step (Shape-F.Signed w) place h = grind (arith, common_steps, the_lemmas, h)
shape_step Shape-F.Clock place h = grind (arith, common_steps, the_lemmas)
shape_step Shape-F.Reset place h = grind (arith, common_steps, the_lemmas)
shape_step Shape-F.AsyncReset place h = grind (arith, common_steps, the_lemmas)
shape_step (Shape-F.Bundle fields) place h =
    let is : shape_narrow (bare (Shape-F.Bundle fields)) ≡ list_all (λ b. b) (map narrow_field (map (λ e. e.0) fields))
    = grind (arith, common_steps, the_lemmas) in
    let list : shape_leaves (bare (Shape-F.Bundle fields)) place ≡ flat_map field_leaves (map (λ e. e.0) fields)
    = grind (arith, common_steps, the_lemmas, flat_map-map) in
    ap (list_all narrow_leaf) list ∙ fields_narrow fields (sym is ∙ h)
shape_step (Shape-F.Vector element n) place h =
    let is : shape_narrow (bare (Shape-F.Vector element n)) ≡ is_narrow element.0 = grind (arith, common_steps, the_lemmas) in
    let list : shape_leaves (bare (Shape-F.Vector element n)) place ≡ elements (leaves element.0) n = grind (arith, common_steps, the_lemmas) in
    ap (list_all narrow_leaf) list ∙ elements_narrow (leaves element.0) n (element.1 (sym is ∙ h))

pub narrow : (t : FirType) → Narrow t
narrow = ind-FirType ShapeNarrow FieldNarrow Narrow
    (λ x y is. subst (λ z. ShapeNarrow (roll-Shape z)) is (shape_step y))
    (λ x y is. subst (λ z. FieldNarrow (roll-Field z)) is (field_step y))
    (λ x y is. subst (λ z. Narrow (roll-FirType z)) is (type_step y))
