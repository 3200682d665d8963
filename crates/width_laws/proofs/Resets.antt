-- A type with widths has no `Reset`.
use Rattle.std.proofs.Common.{◌≡◌, Bool, false, List, [], ◌∷◌, map, refl, ap, ap₂, subst, arith}
use Rattle.std.specs.Prelude.{◌||◌}
use Rattle.std.specs.List.{list_any}
use Rattle.std.proofs.lemmas.Grind.{common_steps}
use Rattle.fir_types.specs.declared.fir_type.FirType.{FirType, ind-FirType, the_lemmas}
use Rattle.fir_types.specs.declared.fir_type.Shape.{Shape, fold-Shape}
use Rattle.fir_types.specs.declared.fir_type.Shape.TheOpen.{Shape-F, Field-F, FirType-F}
use Rattle.fir_types.specs.declared.fir_type.Shape.TheFolds.{map-Shape, map-Field, map-FirType}
use Rattle.fir_types.specs.declared.fir_type.Shape.TheViews.{roll-Shape, roll-Field, roll-FirType}
use Rattle.fir_types.specs.declared.fir_type.Field.{Field, fold-Field}
use Rattle.prim_ops.specs.declared.widths.Width.{Width}
use Rattle.type_filling.specs.Filling.{taking, filled}
use Rattle.type_filling.specs.Layers.{shape_taking, field_taking, fields_taking}
use Rattle.width_laws.specs.Numbered.{reset_layer, has_reset}

abbrev shape_reset : Shape → Bool
shape_reset = fold-Shape Bool Bool Bool reset_layer (λ f. f.typ) (λ t. t.shape)

abbrev field_reset : Field → Bool
field_reset = fold-Field Bool Bool Bool reset_layer (λ f. f.typ) (λ t. t.shape)

abbrev ShapeFree : Shape → Type 0
ShapeFree s = (ws : List Width) → shape_reset (shape_taking s ws).0 ≡ false

abbrev FieldFree : Field → Type 0
FieldFree f = (ws : List Width) → field_reset (field_taking f ws).0 ≡ false

abbrev TypeFree : FirType → Type 0
TypeFree t = (ws : List Width) → has_reset (taking t ws).0 ≡ false

any_of : (fs : List Field) → list_any (λ b. b) (map field_reset fs) ≡ list_any field_reset fs
any_of [] = refl
any_of (f ∷ fs) = ap (λ b. field_reset f || b) (any_of fs)

fields_free : (ps : List ((f : Field) × FieldFree f)) (ws : List Width) → list_any field_reset (fields_taking (map (λ e. e.0) ps) ws).0 ≡ false
fields_free [] ws = refl
fields_free (p ∷ ps) ws = ap₂ (λ a b. a || b) (p.1 ws) (fields_free ps (field_taking p.0 ws).1)

field_step : (y : Field-F ((s : Shape) × ShapeFree s) ((f : Field) × FieldFree f) ((t : FirType) × TypeFree t))
    → FieldFree (roll-Field (map-Field _ _ _ Shape Field FirType (λ e. e.0) (λ e. e.0) (λ e. e.0) y))
field_step y ws = grind (arith, common_steps, the_lemmas, y.typ.1 ws)

type_step : (y : FirType-F ((s : Shape) × ShapeFree s) ((f : Field) × FieldFree f) ((t : FirType) × TypeFree t))
    → TypeFree (roll-FirType (map-FirType _ _ _ Shape Field FirType (λ e. e.0) (λ e. e.0) (λ e. e.0) y))
type_step y ws = grind (arith, common_steps, the_lemmas, y.shape.1 ws)

shape_step : (y : Shape-F ((s : Shape) × ShapeFree s) ((f : Field) × FieldFree f) ((t : FirType) × TypeFree t))
    → ShapeFree (roll-Shape (map-Shape _ _ _ Shape Field FirType (λ e. e.0) (λ e. e.0) (λ e. e.0) y))
shape_step (Shape-F.Unsigned w) ws = grind (arith, common_steps, the_lemmas)
shape_step (Shape-F.Signed w) ws = grind (arith, common_steps, the_lemmas)
shape_step Shape-F.Clock ws = grind (arith, common_steps, the_lemmas)
shape_step Shape-F.Reset ws = grind (arith, common_steps, the_lemmas)
shape_step Shape-F.AsyncReset ws = grind (arith, common_steps, the_lemmas)
shape_step (Shape-F.Bundle fields) ws =
    let a = any_of (fields_taking (map (λ e. e.0) fields) ws).0 in
    let b = fields_free fields ws in
    grind (arith, common_steps, the_lemmas, a, b)
shape_step (Shape-F.Vector element n) ws = grind (arith, common_steps, the_lemmas, element.1 ws)

-- what was a `Reset` is a `UInt`
pub filled_free : (t : FirType) (ws : List Width) → has_reset (filled t ws) ≡ false
filled_free = ind-FirType ShapeFree FieldFree TypeFree
    (λ x y is. subst (λ z. ShapeFree (roll-Shape z)) is (shape_step y))
    (λ x y is. subst (λ z. FieldFree (roll-Field z)) is (field_step y))
    (λ x y is. subst (λ z. TypeFree (roll-FirType z)) is (type_step y))
