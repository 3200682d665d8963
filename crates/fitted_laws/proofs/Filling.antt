-- Types with widths in their places: what they take, their parts, and the kinds and widths of their leaves.
use Rattle.std.proofs.Common.{◌≡◌, ℕ, zero, suc, ◌+◌, ◌-◌, ◌==◌, ◌<◌, ◌≤◌, max, Bool, true, false, ◌&&◌, if◌then◌else◌, List, [], ◌∷◌, ◌++◌, map, zip, length, take, drop, Option, Some, refl, sym, ap, ap₂, ◌∙◌, subst, arith, length-append}
use Rattle.std.specs.Prelude.{find, option_map, option_and_then, nat_le}
use Rattle.std.specs.List.{flat_map, list_all}
use Rattle.std.proofs.lemmas.Grind.{common_steps}
use Rattle.std.proofs.lemmas.Bool.{le-leb, leb-true, leb-false}
use Rattle.std.proofs.lemmas.List.{take-take, drop-drop, drop-take, length-drop, length-map, map-append}
use Rattle.std.proofs.lemmas.List.Folds.{flat_map-map}
use Rattle.place_text.specs.declared.place.Place.{Place}
use Rattle.bit_words.specs.declared.value.Kind.TheVariants.{Unsigned, Signed}
use Rattle.fir_types.specs.declared.fir_type.FirType.{FirType, ind-FirType, the_lemmas}
use Rattle.fir_types.specs.declared.fir_type.Shape.{Shape, fold-Shape}
use Rattle.fir_types.specs.declared.fir_type.Shape.TheOpen.{Shape-F, Field-F, FirType-F}
use Rattle.fir_types.specs.declared.fir_type.Shape.TheFolds.{map-Shape, map-Field, map-FirType}
use Rattle.fir_types.specs.declared.fir_type.Shape.TheViews.{roll-Shape, roll-Field, roll-FirType}
use Rattle.fir_types.specs.declared.fir_type.Shape.TheVariants as shape
use Rattle.fir_types.specs.declared.fir_type.Shape.TheVariants.{rolls-Unsigned, rolls-Signed, rolls-Clock, rolls-Reset, rolls-AsyncReset, rolls-Bundle, rolls-Vector}
use Rattle.fir_types.specs.declared.fir_type.Field.{Field}
use Rattle.fir_types.specs.declared.leaf.TypeLeaf.{TypeLeaf}
use Rattle.fir_types.specs.declared.leaf.PathStep.{PathStep}
use Rattle.fir_types.specs.declared.leaf.PathStep.TheVariants as step
use Rattle.fir_types.specs.Leaves.{leaves, field_leaves, elements, under}
use Rattle.fir_types.specs.Equivalence.{Equivalent, SameFields, IsUnsigned, IsSigned, unsigned, signed, clocks, asyncs, vectors, bundles, no_fields, same_field, a_uint, a_sint, a_reset}
use Rattle.fir_types.proofs.Layers.{leaves-bundle, leaves-vector, leaves-field}
use Rattle.prim_ops.specs.declared.widths.Width.{Width}
use Rattle.prim_ops.specs.declared.widths.Width.TheVariants.{Bits, Over}
use Rattle.width_rules.specs.Formulas.{greatest}
use Rattle.width_rules.specs.Places.{Spot, spots, size, turned, of_shape, of_field}
use Rattle.width_rules.specs.Layers.{field_spots}
use Rattle.width_rules.specs.Solutions.{IsWidth}
use Rattle.width_rules.proofs.Bounds.{Each}
use Rattle.type_filling.specs.Filling.{Taking, taking, filled, number, first_number, behind_first}
use Rattle.type_filling.specs.Layers.{shape_taking, field_taking, fields_taking}
use Rattle.prim_ops.specs.Shapes.{Shape as ValueShape, shaped}
use Rattle.fir_meaning.specs.Components.{width_or_none}
use Rattle.fir_meaning.specs.WellTyped.{leaf_shape, wider_each, wider, is_narrow}
use Rattle.fir_names.proofs.Graphs.{some_same}
use Rattle.circuit_laws.proofs.Pieces.{mapped_some, field_narrow, narrow-bundle, narrow-vector, narrow-field}
use Rattle.circuit_laws.proofs.Typing.{and_then_some}

-- How many widths a type takes

pub record Takes {X : Type 0} (f : Taking X) (n : ℕ) : Type 0 where
  pub rest : (ws : List Width) → (f ws).1 ≡ drop n ws
  pub own : (ws : List Width) → (f (take n ws)).0 ≡ (f ws).0

abbrev shape_spots : Shape → List Spot
shape_spots = fold-Shape (List Spot) (List Spot) (List Spot) of_shape of_field (λ t. t.shape)

abbrev ShapeTakes : Shape → Type 0
ShapeTakes s = Takes (shape_taking s) (length (shape_spots s))

abbrev FieldTakes : Field → Type 0
FieldTakes f = Takes (field_taking f) (length (field_spots f))

abbrev TypeTakes : FirType → Type 0
TypeTakes t = Takes (taking t) (size t)

first_taken : (ws : List Width) → first_number (take 1 ws) ≡ first_number ws
first_taken [] = refl
first_taken (w ∷ ws) = refl

behind_is : (ws : List Width) → behind_first ws ≡ drop 1 ws
behind_is [] = refl
behind_is (w ∷ ws) = refl

abbrev count : List ((f : Field) × FieldTakes f) → ℕ
count ps = length (flat_map field_spots (map (λ e. e.0) ps))

count_more : (p : (f : Field) × FieldTakes f) (ps : List ((f : Field) × FieldTakes f)) → count (p ∷ ps) ≡ length (field_spots p.0) + count ps
count_more p ps = length-append (field_spots p.0) (flat_map field_spots (map (λ e. e.0) ps))

more_own : {X : Type 0} (f : Taking X) (n m : ℕ) → Takes f n → (ws : List Width) → (f (take (n + m) ws)).0 ≡ (f ws).0
more_own f n m h ws =
    let le : n ≤ n + m = omega arith in
    sym (h.own (take (n + m) ws)) ∙ (ap (λ vs. (f vs).0) (take-take n (n + m) ws le) ∙ h.own ws)

more_rest : {X : Type 0} (f : Taking X) (n m : ℕ) → Takes f n → (ws : List Width) → (f (take (n + m) ws)).1 ≡ take m (drop n ws)
more_rest f n m h ws = h.rest (take (n + m) ws) ∙ drop-take n m ws

fields_rest : (ps : List ((f : Field) × FieldTakes f)) (ws : List Width) → (fields_taking (map (λ e. e.0) ps) ws).1 ≡ drop (count ps) ws
fields_rest [] ws = refl
fields_rest (p ∷ ps) ws = rw (count_more p ps)
    (fields_rest ps (field_taking p.0 ws).1 ∙ (ap (drop (count ps)) (p.1.rest ws) ∙ drop-drop (count ps) (length (field_spots p.0)) ws))

fields_own : (ps : List ((f : Field) × FieldTakes f)) (ws : List Width) → (fields_taking (map (λ e. e.0) ps) (take (count ps) ws)).0 ≡ (fields_taking (map (λ e. e.0) ps) ws).0
fields_own [] ws = refl
fields_own (p ∷ ps) ws = rw (count_more p ps) (
    let m : ℕ = count ps in
    let n : ℕ = length (field_spots p.0) in
    let a : (field_taking p.0 (take (n + m) ws)).0 ≡ (field_taking p.0 ws).0 = more_own (field_taking p.0) n m p.1 ws in
    let b : (fields_taking (map (λ e. e.0) ps) (field_taking p.0 (take (n + m) ws)).1).0 ≡ (fields_taking (map (λ e. e.0) ps) (field_taking p.0 ws).1).0
    = ap (λ vs. (fields_taking (map (λ e. e.0) ps) vs).0) (more_rest (field_taking p.0) n m p.1 ws)
    ∙ (fields_own ps (drop n ws) ∙ ap (λ vs. (fields_taking (map (λ e. e.0) ps) vs).0) (sym (p.1.rest ws))) in
    ap (λ f. f ∷ (fields_taking (map (λ e. e.0) ps) (field_taking p.0 (take (n + m) ws)).1).0) a
    ∙ ap (λ fs. (field_taking p.0 ws).0 ∷ fs) b)

field_step : (y : Field-F ((s : Shape) × ShapeTakes s) ((f : Field) × FieldTakes f) ((t : FirType) × TypeTakes t))
    → FieldTakes (roll-Field (map-Field _ _ _ Shape Field FirType (λ e. e.0) (λ e. e.0) (λ e. e.0) y))
field_step y =
    let l : length (map (turned y.flip) (spots y.typ.0)) ≡ length (spots y.typ.0) = length-map (spots y.typ.0) (turned y.flip) in
    record {
      rest = λ ws. grind (arith, common_steps, the_lemmas, y.typ.1.rest ws, l);
      own = λ ws. grind (arith, common_steps, the_lemmas, y.typ.1.own ws, l);
    }

type_step : (y : FirType-F ((s : Shape) × ShapeTakes s) ((f : Field) × FieldTakes f) ((t : FirType) × TypeTakes t))
    → TypeTakes (roll-FirType (map-FirType _ _ _ Shape Field FirType (λ e. e.0) (λ e. e.0) (λ e. e.0) y))
type_step y = record {
  rest = λ ws. grind (arith, common_steps, the_lemmas, y.shape.1.rest ws);
  own = λ ws. grind (arith, common_steps, the_lemmas, y.shape.1.own ws);
}

shape_step : (y : Shape-F ((s : Shape) × ShapeTakes s) ((f : Field) × FieldTakes f) ((t : FirType) × TypeTakes t))
    → ShapeTakes (roll-Shape (map-Shape _ _ _ Shape Field FirType (λ e. e.0) (λ e. e.0) (λ e. e.0) y))
shape_step (Shape-F.Unsigned w) = record { rest = λ ws. grind (arith, common_steps, the_lemmas, behind_is ws); own = λ ws. grind (arith, common_steps, the_lemmas, first_taken ws) }
shape_step (Shape-F.Signed w) = record { rest = λ ws. grind (arith, common_steps, the_lemmas, behind_is ws); own = λ ws. grind (arith, common_steps, the_lemmas, first_taken ws) }
shape_step Shape-F.Clock = record { rest = λ ws. grind (arith, common_steps, the_lemmas); own = λ ws. grind (arith, common_steps, the_lemmas) }
shape_step Shape-F.Reset = record { rest = λ ws. grind (arith, common_steps, the_lemmas, behind_is ws); own = λ ws. grind (arith, common_steps, the_lemmas, first_taken ws) }
shape_step Shape-F.AsyncReset = record { rest = λ ws. grind (arith, common_steps, the_lemmas, behind_is ws); own = λ ws. grind (arith, common_steps, the_lemmas, first_taken ws) }
shape_step (Shape-F.Bundle fields) = record {
  rest = λ ws. grind (arith, common_steps, the_lemmas, flat_map-map, fields_rest fields ws);
  own = λ ws. grind (arith, common_steps, the_lemmas, flat_map-map, fields_own fields ws);
}
shape_step (Shape-F.Vector element n) = record {
  rest = λ ws. grind (arith, common_steps, the_lemmas, element.1.rest ws);
  own = λ ws. grind (arith, common_steps, the_lemmas, element.1.own ws);
}

-- a type takes as many widths as it has places, and looks at no others
pub takes : (typ : FirType) → TypeTakes typ
takes = ind-FirType ShapeTakes FieldTakes TypeTakes
    (λ x y is. subst (λ z. ShapeTakes (roll-Shape z)) is (shape_step y))
    (λ x y is. subst (λ z. FieldTakes (roll-Field z)) is (field_step y))
    (λ x y is. subst (λ z. TypeTakes (roll-FirType z)) is (type_step y))

-- Layers

abbrev pub filled_field : Field → List Width → Field
filled_field f ws = record { flip = f.flip; name = f.name; typ = filled f.typ ws }

abbrev pub filled_fields : List Field → List Width → List Field
filled_fields [] ws = []
filled_fields (f ∷ fs) ws = filled_field f ws ∷ filled_fields fs (drop (size f.typ) ws)

taken_field : (f : Field) (ws : List Width) → (field_taking f ws).0 ≡ filled_field f ws
taken_field f ws = grind (arith, common_steps, the_lemmas)

taken_rest : (f : Field) (ws : List Width) → (field_taking f ws).1 ≡ drop (size f.typ) ws
taken_rest f ws = let r = (takes f.typ).rest ws in grind (arith, common_steps, the_lemmas, r)

fields_are : (fs : List Field) (ws : List Width) → (fields_taking fs ws).0 ≡ filled_fields fs ws
fields_are [] ws = refl
fields_are (f ∷ fs) ws = ap₂ (λ x xs. x ∷ xs) (taken_field f ws) (ap (λ vs. (fields_taking fs vs).0) (taken_rest f ws) ∙ fields_are fs (drop (size f.typ) ws))

taken-bundle : (t : FirType) (fs : List Field) → t.shape ≡ shape.Bundle fs → (ws : List Width) → (filled t ws).shape ≡ shape.Bundle (fields_taking fs ws).0
taken-bundle t fs e ws = grind (arith, common_steps, the_lemmas)

pub filled-bundle : (t : FirType) (fs : List Field) → t.shape ≡ shape.Bundle fs → (ws : List Width) → (filled t ws).shape ≡ shape.Bundle (filled_fields fs ws)
filled-bundle t fs e ws = taken-bundle t fs e ws ∙ ap shape.Bundle (fields_are fs ws)

pub filled-vector : (t e : FirType) (n : ℕ) → t.shape ≡ shape.Vector e n → (ws : List Width) → (filled t ws).shape ≡ shape.Vector (filled e ws) n
filled-vector t e n h ws = grind (arith, common_steps, the_lemmas)

pub filled-unsigned : (t : FirType) (w : Option ℕ) → t.shape ≡ shape.Unsigned w → (ws : List Width) → (filled t ws).shape ≡ shape.Unsigned (first_number ws)
filled-unsigned t w h ws = grind (arith, common_steps, the_lemmas)

pub filled-signed : (t : FirType) (w : Option ℕ) → t.shape ≡ shape.Signed w → (ws : List Width) → (filled t ws).shape ≡ shape.Signed (first_number ws)
filled-signed t w h ws = grind (arith, common_steps, the_lemmas)

pub filled-clock : (t : FirType) → t.shape ≡ shape.Clock → (ws : List Width) → (filled t ws).shape ≡ shape.Clock
filled-clock t h ws = grind (arith, common_steps, the_lemmas)

pub filled-reset : (t : FirType) → t.shape ≡ shape.Reset → (ws : List Width) → (filled t ws).shape ≡ shape.Unsigned (first_number ws)
filled-reset t h ws = grind (arith, common_steps, the_lemmas)

pub filled-async : (t : FirType) → t.shape ≡ shape.AsyncReset → (ws : List Width) → (filled t ws).shape ≡ shape.AsyncReset
filled-async t h ws = grind (arith, common_steps, the_lemmas)

pub filled-place : (t : FirType) (ws : List Width) → (filled t ws).place ≡ t.place
filled-place t ws = grind (arith, common_steps, the_lemmas)

-- Sizes

pub size-bundle : (t : FirType) (fs : List Field) → t.shape ≡ shape.Bundle fs → size t ≡ length (flat_map field_spots fs)
size-bundle t fs e = grind (arith, common_steps, the_lemmas, flat_map-map)

pub size-vector : (t e : FirType) (n : ℕ) → t.shape ≡ shape.Vector e n → size t ≡ size e
size-vector t e n h = grind (arith, common_steps, the_lemmas)

pub size-field : (f : Field) → length (field_spots f) ≡ size f.typ
size-field f = let l = length-map (spots f.typ) (turned f.flip) in grind (arith, common_steps, the_lemmas, l)

pub size-unsigned : (t : FirType) (w : Option ℕ) → t.shape ≡ shape.Unsigned w → size t ≡ 1
size-unsigned t w e = grind (arith, common_steps, the_lemmas)

pub size-signed : (t : FirType) (w : Option ℕ) → t.shape ≡ shape.Signed w → size t ≡ 1
size-signed t w e = grind (arith, common_steps, the_lemmas)

pub size-clock : (t : FirType) → t.shape ≡ shape.Clock → size t ≡ 0
size-clock t e = grind (arith, common_steps, the_lemmas)

pub size-reset : (t : FirType) → t.shape ≡ shape.Reset → size t ≡ 1
size-reset t e = grind (arith, common_steps, the_lemmas)

pub size-async : (t : FirType) → t.shape ≡ shape.AsyncReset → size t ≡ 1
size-async t e = grind (arith, common_steps, the_lemmas)

pub size-fields : (f : Field) (fs : List Field) → length (flat_map field_spots (f ∷ fs)) ≡ size f.typ + length (flat_map field_spots fs)
size-fields f fs = length-append (field_spots f) (flat_map field_spots fs) ∙ ap (λ n. n + length (flat_map field_spots fs)) (size-field f)

-- Equivalence

abbrev TypeAlike : FirType → Type 0
TypeAlike t = (ws : List Width) → Equivalent t (filled t ws)

abbrev FieldAlike : Field → Type 0
FieldAlike f = TypeAlike f.typ

abbrev ShapeAlike : Shape → Type 0
ShapeAlike s = (place : Place) → TypeAlike (record { place = place; shape = s })

fields_alike : (ps : List ((f : Field) × FieldAlike f)) (ws : List Width) → SameFields (map (λ e. e.0) ps) (filled_fields (map (λ e. e.0) ps) ws)
fields_alike [] ws = no_fields
fields_alike (p ∷ ps) ws = same_field refl refl (p.1 ws) (fields_alike ps (drop (size p.0.typ) ws))

shape_alike : (y : Shape-F ((s : Shape) × ShapeAlike s) ((f : Field) × FieldAlike f) ((t : FirType) × TypeAlike t))
    → ShapeAlike (roll-Shape (map-Shape _ _ _ Shape Field FirType (λ e. e.0) (λ e. e.0) (λ e. e.0) y))
shape_alike (Shape-F.Unsigned w) = subst ShapeAlike (sym (rolls-Unsigned w)) (λ place ws.
    unsigned (a_uint w refl) (a_uint (first_number ws) (filled-unsigned (record { place = place; shape = shape.Unsigned w }) w refl ws)))
shape_alike (Shape-F.Signed w) = subst ShapeAlike (sym (rolls-Signed w)) (λ place ws.
    signed (a_sint w refl) (a_sint (first_number ws) (filled-signed (record { place = place; shape = shape.Signed w }) w refl ws)))
shape_alike Shape-F.Clock = subst ShapeAlike (sym rolls-Clock) (λ place ws. clocks refl (filled-clock (record { place = place; shape = shape.Clock }) refl ws))
shape_alike Shape-F.Reset = subst ShapeAlike (sym rolls-Reset) (λ place ws.
    unsigned (a_reset refl) (a_uint (first_number ws) (filled-reset (record { place = place; shape = shape.Reset }) refl ws)))
shape_alike Shape-F.AsyncReset = subst ShapeAlike (sym rolls-AsyncReset) (λ place ws. asyncs refl (filled-async (record { place = place; shape = shape.AsyncReset }) refl ws))
shape_alike (Shape-F.Bundle ps) = subst ShapeAlike (sym (rolls-Bundle (map (λ e. e.0) ps))) (λ place ws.
    let fs : List Field = map (λ e. e.0) ps in
    bundles fs (filled_fields fs ws) refl (filled-bundle (record { place = place; shape = shape.Bundle (map (λ e. e.0) ps) }) fs refl ws) (fields_alike ps ws))
shape_alike (Shape-F.Vector p n) = subst ShapeAlike (sym (rolls-Vector p.0 n)) (λ place ws.
    vectors p.0 (filled p.0 ws) n refl (filled-vector (record { place = place; shape = shape.Vector p.0 n }) p.0 n refl ws) (p.1 ws))

pub filled_equivalent : (t : FirType) (ws : List Width) → Equivalent t (filled t ws)
filled_equivalent = ind-FirType ShapeAlike FieldAlike TypeAlike
    (λ x y is. subst (λ z. ShapeAlike (roll-Shape z)) is (shape_alike y))
    (λ x y is. subst (λ z. FieldAlike (roll-Field z)) is y.typ.1)
    (λ x y is. subst (λ z. TypeAlike (roll-FirType z)) is (y.shape.1 y.place))

pub unsigned_size : {t : FirType} → IsUnsigned t → size t ≡ 1
unsigned_size {t} (a_uint w e) = size-unsigned t w e
unsigned_size {t} (a_reset e) = size-reset t e

pub signed_size : {t : FirType} → IsSigned t → size t ≡ 1
signed_size {t} (a_sint w e) = size-signed t w e

mutual
  pub size_alike : {a b : FirType} → Equivalent a b → size a ≡ size b
  size_alike (unsigned u v) = unsigned_size u ∙ sym (unsigned_size v)
  size_alike (signed u v) = signed_size u ∙ sym (signed_size v)
  size_alike {a} {b} (clocks u v) = size-clock a u ∙ sym (size-clock b v)
  size_alike {a} {b} (asyncs u v) = size-async a u ∙ sym (size-async b v)
  size_alike {a} {b} (vectors e o n u v q) = size-vector a e n u ∙ size_alike q ∙ sym (size-vector b o n v)
  size_alike {a} {b} (bundles fs gs u v q) = size-bundle a fs u ∙ fields_size_alike q ∙ sym (size-bundle b gs v)

  fields_size_alike : {fs gs : List Field} → SameFields fs gs → length (flat_map field_spots fs) ≡ length (flat_map field_spots gs)
  fields_size_alike no_fields = refl
  fields_size_alike (same_field {field = f} {other = g} {rest = fs} {others = gs} a b q rest) =
      size-fields f fs ∙ ap₂ (λ n m. n + m) (size_alike q) (fields_size_alike rest) ∙ sym (size-fields g gs)

-- The widths of a field

abbrev pub field_widths : ℕ → List Field → List Width → List Width
field_widths name [] ws = ws
field_widths name (f ∷ fs) ws = if f.name.id == name then take (size f.typ) ws else field_widths name fs (drop (size f.typ) ws)

pub field_of_filled : (name : ℕ) (fs : List Field) (ws : List Width)
    → option_map (λ (f : Field). f.typ) (find (λ (f : Field). f.name.id == name) (filled_fields fs ws))
    ≡ option_map (λ (f : Field). filled f.typ (field_widths name fs ws)) (find (λ (f : Field). f.name.id == name) fs)
field_of_filled name [] ws = refl
field_of_filled name (f ∷ fs) ws = by (f.name.id == name) (field_of_filled name fs (drop (size f.typ) ws)) where
  by : (b : Bool)
      → option_map (λ (f : Field). f.typ) (find (λ (f : Field). f.name.id == name) (filled_fields fs (drop (size f.typ) ws)))
      ≡ option_map (λ (g : Field). filled g.typ (field_widths name fs (drop (size f.typ) ws))) (find (λ (f : Field). f.name.id == name) fs)
      → option_map (λ (f : Field). f.typ) (if b then Some (filled_field f ws) else find (λ (f : Field). f.name.id == name) (filled_fields fs (drop (size f.typ) ws)))
      ≡ option_map (λ (g : Field). filled g.typ (if b then take (size f.typ) ws else field_widths name fs (drop (size f.typ) ws))) (if b then Some f else find (λ (f : Field). f.name.id == name) fs)
  by true rest = ap Some (sym ((takes f.typ).own ws))
  by false rest = rest

-- Kinds and widths of leaves

abbrev pub leaf_shapes : FirType → List ValueShape
leaf_shapes t = map leaf_shape (leaves t)

abbrev pub times : ℕ → List ValueShape → List ValueShape
times zero ss = []
times (suc n) ss = times n ss ++ ss

shapes_under : (path : List PathStep) (flip : Bool) (ls : List TypeLeaf) → map leaf_shape (map (under path flip) ls) ≡ map leaf_shape ls
shapes_under path flip [] = refl
shapes_under path flip (l ∷ ls) = ap (λ r. leaf_shape l ∷ r) (shapes_under path flip ls)

shapes_of_elements : (ls : List TypeLeaf) (n : ℕ) → map leaf_shape (elements ls n) ≡ times n (map leaf_shape ls)
shapes_of_elements ls zero = refl
shapes_of_elements ls (suc n) = map-append leaf_shape (elements ls n) (map (under (step.Element n ∷ []) false) ls)
    ∙ ap₂ (λ a b. a ++ b) (shapes_of_elements ls n) (shapes_under (step.Element n ∷ []) false ls)

shapes_of_fields : (fs : List Field) → map leaf_shape (flat_map field_leaves fs) ≡ flat_map (λ f. leaf_shapes f.typ) fs
shapes_of_fields [] = refl
shapes_of_fields (f ∷ fs) = map-append leaf_shape (field_leaves f) (flat_map field_leaves fs)
    ∙ ap₂ (λ a b. a ++ b) (ap (map leaf_shape) (leaves-field f) ∙ shapes_under (step.Field f.name.id ∷ []) f.flip (leaves f.typ)) (shapes_of_fields fs)

pub shapes-bundle : (t : FirType) (fs : List Field) → t.shape ≡ shape.Bundle fs → leaf_shapes t ≡ flat_map (λ f. leaf_shapes f.typ) fs
shapes-bundle t fs e = ap (map leaf_shape) (leaves-bundle t fs e) ∙ shapes_of_fields fs

pub shapes-vector : (t e : FirType) (n : ℕ) → t.shape ≡ shape.Vector e n → leaf_shapes t ≡ times n (leaf_shapes e)
shapes-vector t e n h = ap (map leaf_shape) (leaves-vector t e n h) ∙ shapes_of_elements (leaves e) n

pub shapes-unsigned : (t : FirType) (w : Option ℕ) → t.shape ≡ shape.Unsigned w → leaf_shapes t ≡ shaped Unsigned (width_or_none w) ∷ []
shapes-unsigned t w e = grind (arith, common_steps, the_lemmas)

pub shapes-signed : (t : FirType) (w : Option ℕ) → t.shape ≡ shape.Signed w → leaf_shapes t ≡ shaped Signed (width_or_none w) ∷ []
shapes-signed t w e = grind (arith, common_steps, the_lemmas)

pub shapes-clock : (t : FirType) → t.shape ≡ shape.Clock → leaf_shapes t ≡ shaped Unsigned 0 ∷ []
shapes-clock t e = grind (arith, common_steps, the_lemmas)

pub shapes-async : (t : FirType) → t.shape ≡ shape.AsyncReset → leaf_shapes t ≡ shaped Unsigned 1 ∷ []
shapes-async t e = grind (arith, common_steps, the_lemmas)

abbrev pub first_width : List Width → ℕ
first_width ws = width_or_none (first_number ws)

pub filled_unsigned : {t : FirType} → IsUnsigned t → (ws : List Width) → leaf_shapes (filled t ws) ≡ shaped Unsigned (first_width ws) ∷ []
filled_unsigned {t} (a_uint w e) ws = shapes-unsigned (filled t ws) (first_number ws) (filled-unsigned t w e ws)
filled_unsigned {t} (a_reset e) ws = shapes-unsigned (filled t ws) (first_number ws) (filled-reset t e ws)

pub filled_signed : {t : FirType} → IsSigned t → (ws : List Width) → leaf_shapes (filled t ws) ≡ shaped Signed (first_width ws) ∷ []
filled_signed {t} (a_sint w e) ws = shapes-signed (filled t ws) (first_number ws) (filled-signed t w e ws)

-- an AsyncReset has one bit, whatever fills it
pub async_shapes : (t : FirType) → t.shape ≡ shape.AsyncReset → (ws : List Width) → leaf_shapes (filled t ws) ≡ shaped Unsigned 1 ∷ []
async_shapes t e ws = shapes-async (filled t ws) (filled-async t e ws)

-- The wider of two types with widths

-- numbers of bits, none Over
abbrev pub IsNumber : Width → Type 0
IsNumber (Bits n) = Unit {0}
IsNumber Over = ⊥

abbrev pub bigger : Width × Width → Width
bigger both = greatest (both.0 ∷ both.1 ∷ [])

greater_number : (m n : ℕ) → greatest (Bits m ∷ Bits n ∷ []) ≡ Bits (max m n)
greater_number m n = by (nat_le n 0) refl where
  one : (b : Bool) → nat_le m n ≡ b → (if b then Bits n else Bits m) ≡ Bits (max m n)
  one true e = ap Bits (let h : m ≤ n = leb-true m n e in let k : n ≡ max m n = omega (arith, h) in k)
  one false e = ap Bits (let h : n < m = leb-false m n e in let k : m ≡ max m n = omega (arith, h) in k)

  zeroed : n ≤ 0 → (if nat_le m 0 then Bits 0 else Bits m) ≡ Bits (max m n)
  zeroed le = other (nat_le m 0) refl where
    other : (b : Bool) → nat_le m 0 ≡ b → (if b then Bits 0 else Bits m) ≡ Bits (max m n)
    other true e = ap Bits (let h : m ≤ 0 = leb-true m 0 e in let k : 0 ≡ max m n = omega (arith, h, le) in k)
    other false e = ap Bits (let h : 0 < m = leb-false m 0 e in let k : m ≡ max m n = omega (arith, h, le) in k)

  by : (b : Bool) → nat_le n 0 ≡ b → greatest (Bits m ∷ Bits n ∷ []) ≡ Bits (max m n)
  by true e = rw e (zeroed (leb-true n 0 e))
  by false e = rw e (one (nat_le m n) refl)

wider-append : (a b c d us vs : List ValueShape) → wider_each a c ≡ Some us → wider_each b d ≡ Some vs → wider_each (a ++ b) (c ++ d) ≡ Some (us ++ vs)
wider-append [] b [] d us vs e f = f ∙ ap (λ xs. Some (xs ++ vs)) (some_same e)
wider-append [] b (c ∷ cs) d us vs e f = cc
wider-append (a ∷ as') b [] d us vs e f = cc
wider-append (a ∷ as') b (c ∷ cs) d us vs e f =
    let one = and_then_some (λ u. option_map (λ us. u ∷ us) (wider_each as' cs)) (wider a c) us e in
    let rest = mapped_some (λ us. one.0 ∷ us) (wider_each as' cs) us one.2 in
    ap (option_and_then (λ u. option_map (λ us. u ∷ us) (wider_each (as' ++ b) (cs ++ d)))) one.1
    ∙ ap (option_map (λ us. one.0 ∷ us)) (wider-append as' b cs d rest.0 vs rest.1 f) ∙ ap (λ xs. Some (xs ++ vs)) rest.2

wider-times : (n : ℕ) (a c us : List ValueShape) → wider_each a c ≡ Some us → wider_each (times n a) (times n c) ≡ Some (times n us)
wider-times zero a c us e = refl
wider-times (suc n) a c us e = wider-append (times n a) a (times n c) c (times n us) us (wider-times n a c us e) e

big_first : (us vs : List Width) → Each IsNumber us → Each IsNumber vs → 1 ≤ length us → 1 ≤ length vs → first_width (map bigger (zip us vs)) ≡ max (first_width us) (first_width vs)
big_first [] vs h k l m = absurd (omega (arith, l))
big_first (u ∷ us) [] h k l m = absurd (omega (arith, m))
big_first (Bits x ∷ us) (Bits y ∷ vs) h k l m = ap (λ w. width_or_none (number w)) (greater_number x y)
big_first (Over ∷ us) (v ∷ vs) h k l m = absurd h.0
big_first (Bits x ∷ us) (Over ∷ vs) h k l m = absurd k.0

each_drop : {X : Type 0} (P : X → Type 0) (n : ℕ) (xs : List X) → Each P xs → Each P (drop n xs)
each_drop P zero xs h = h
each_drop P (suc n) [] h = tt
each_drop P (suc n) (x ∷ xs) h = each_drop P n xs h.1

drop-zip : (n : ℕ) (us vs : List Width) → drop n (map bigger (zip us vs)) ≡ map bigger (zip (drop n us) (drop n vs))
drop-zip zero us vs = refl
drop-zip (suc n) [] vs = refl
drop-zip (suc n) (u ∷ us) [] = none (drop n us) where
  none : (xs : List Width) → [] ≡ map bigger (zip xs [])
  none [] = refl
  none (x ∷ xs) = refl
drop-zip (suc n) (u ∷ us) (v ∷ vs) = drop-zip n us vs

wider_unsigned : (x y z : ℕ) → z ≡ max x y → wider_each (shaped Unsigned x ∷ []) (shaped Unsigned y ∷ []) ≡ Some (shaped Unsigned z ∷ [])
wider_unsigned x y z e = ap (λ w. Some (shaped Unsigned w ∷ [])) (sym e)

wider_signed : (x y z : ℕ) → z ≡ max x y → wider_each (shaped Signed x ∷ []) (shaped Signed y ∷ []) ≡ Some (shaped Signed z ∷ [])
wider_signed x y z e = ap (λ w. Some (shaped Signed w ∷ [])) (sym e)

mutual
  -- equivalent types with widths have a wider one, with the greater widths in its places
  pub wider_filled : {a b : FirType} → Equivalent a b → (us vs : List Width) → Each IsNumber us → Each IsNumber vs → size a ≤ length us → size b ≤ length vs
      → wider_each (leaf_shapes (filled a us)) (leaf_shapes (filled b vs)) ≡ Some (leaf_shapes (filled a (map bigger (zip us vs))))
  wider_filled (unsigned p q) us vs h k l m =
      ap₂ wider_each (filled_unsigned p us) (filled_unsigned q vs)
      ∙ wider_unsigned (first_width us) (first_width vs) (first_width (map bigger (zip us vs)))
      (big_first us vs h k (subst (λ n. n ≤ length us) (unsigned_size p) l) (subst (λ n. n ≤ length vs) (unsigned_size q) m))
      ∙ ap Some (sym (filled_unsigned p (map bigger (zip us vs))))
  wider_filled (signed p q) us vs h k l m =
      ap₂ wider_each (filled_signed p us) (filled_signed q vs)
      ∙ wider_signed (first_width us) (first_width vs) (first_width (map bigger (zip us vs)))
      (big_first us vs h k (subst (λ n. n ≤ length us) (signed_size p) l) (subst (λ n. n ≤ length vs) (signed_size q) m))
      ∙ ap Some (sym (filled_signed p (map bigger (zip us vs))))
  wider_filled {a} {b} (clocks p q) us vs h k l m =
      ap₂ wider_each (shapes-clock (filled a us) (filled-clock a p us)) (shapes-clock (filled b vs) (filled-clock b q vs))
      ∙ ap Some (sym (shapes-clock (filled a (map bigger (zip us vs))) (filled-clock a p (map bigger (zip us vs)))))
  wider_filled {a} {b} (asyncs p q) us vs h k l m =
      ap₂ wider_each (async_shapes a p us) (async_shapes b q vs) ∙ ap Some (sym (async_shapes a p (map bigger (zip us vs))))
  wider_filled {a} {b} (vectors e o n p q r) us vs h k l m =
      ap₂ wider_each (shapes-vector (filled a us) (filled e us) n (filled-vector a e n p us)) (shapes-vector (filled b vs) (filled o vs) n (filled-vector b o n q vs))
      ∙ wider-times n (leaf_shapes (filled e us)) (leaf_shapes (filled o vs)) (leaf_shapes (filled e (map bigger (zip us vs))))
      (wider_filled r us vs h k (subst (λ n. n ≤ length us) (size-vector a e n p) l) (subst (λ n. n ≤ length vs) (size-vector b o n q) m))
      ∙ ap Some (sym (shapes-vector (filled a (map bigger (zip us vs))) (filled e (map bigger (zip us vs))) n (filled-vector a e n p (map bigger (zip us vs)))))
  wider_filled {a} {b} (bundles fs gs p q r) us vs h k l m =
      ap₂ wider_each (shapes-bundle (filled a us) (filled_fields fs us) (filled-bundle a fs p us)) (shapes-bundle (filled b vs) (filled_fields gs vs) (filled-bundle b gs q vs))
      ∙ wider_fields r us vs h k (subst (λ n. n ≤ length us) (size-bundle a fs p) l) (subst (λ n. n ≤ length vs) (size-bundle b gs q) m)
      ∙ ap Some (sym (shapes-bundle (filled a (map bigger (zip us vs))) (filled_fields fs (map bigger (zip us vs))) (filled-bundle a fs p (map bigger (zip us vs)))))

  wider_fields : {fs gs : List Field} → SameFields fs gs → (us vs : List Width) → Each IsNumber us → Each IsNumber vs
      → length (flat_map field_spots fs) ≤ length us → length (flat_map field_spots gs) ≤ length vs
      → wider_each (flat_map (λ f. leaf_shapes f.typ) (filled_fields fs us)) (flat_map (λ f. leaf_shapes f.typ) (filled_fields gs vs))
      ≡ Some (flat_map (λ f. leaf_shapes f.typ) (filled_fields fs (map bigger (zip us vs))))
  wider_fields no_fields us vs h k l m = refl
  wider_fields (same_field {field = f} {other = g} {rest = fs} {others = gs} a b q rest) us vs h k l m =
      let n : ℕ = size f.typ in
      let same : size f.typ ≡ size g.typ = size_alike q in
      let big : List Width = map bigger (zip us vs) in
      let drops : drop n big ≡ map bigger (zip (drop n us) (drop n vs)) = drop-zip n us vs in
      let lu : n + length (flat_map field_spots fs) ≤ length us = subst (λ x. x ≤ length us) (size-fields f fs) l in
      let lv : size g.typ + length (flat_map field_spots gs) ≤ length vs = subst (λ x. x ≤ length vs) (size-fields g gs) m in
      let du : length (drop n us) ≡ length us - n = length-drop n us in
      let dv : length (drop (size g.typ) vs) ≡ length vs - size g.typ = length-drop (size g.typ) vs in
      wider-append (leaf_shapes (filled f.typ us)) (flat_map (λ x. leaf_shapes x.typ) (filled_fields fs (drop n us)))
      (leaf_shapes (filled g.typ vs)) (flat_map (λ x. leaf_shapes x.typ) (filled_fields gs (drop (size g.typ) vs)))
      (leaf_shapes (filled f.typ big)) (flat_map (λ x. leaf_shapes x.typ) (filled_fields fs (drop n big)))
      (wider_filled q us vs h k (omega (arith, lu)) (omega (arith, lv)))
      (subst (λ d. wider_each (flat_map (λ x. leaf_shapes x.typ) (filled_fields fs (drop n us))) (flat_map (λ x. leaf_shapes x.typ) (filled_fields gs (drop (size g.typ) vs)))
      ≡ Some (flat_map (λ x. leaf_shapes x.typ) (filled_fields fs d)))
      (ap (λ j. map bigger (zip (drop n us) (drop j vs))) (sym same) ∙ sym drops)
      (wider_fields rest (drop n us) (drop (size g.typ) vs) (each_drop IsNumber n us h) (each_drop IsNumber (size g.typ) vs k) (omega (arith, lu, du)) (omega (arith, lv, dv))))

-- Narrow types

abbrev TypeNarrow : FirType → Type 0
TypeNarrow t = (ws : List Width) → Each IsWidth ws → is_narrow (filled t ws) ≡ true

abbrev FieldNarrow : Field → Type 0
FieldNarrow f = TypeNarrow f.typ

abbrev ShapeNarrow : Shape → Type 0
ShapeNarrow s = (place : Place) → TypeNarrow (record { place = place; shape = s })

first_narrow : (ws : List Width) → Each IsWidth ws → first_width ws ≤ 128
first_narrow [] h = omega arith
first_narrow (Bits n ∷ ws) h = h.0
first_narrow (Over ∷ ws) h = omega arith

pub is_narrow-unsigned : (t : FirType) (w : Option ℕ) → t.shape ≡ shape.Unsigned w → is_narrow t ≡ nat_le (width_or_none w) 128
is_narrow-unsigned t w e = grind (arith, common_steps, the_lemmas)

pub is_narrow-signed : (t : FirType) (w : Option ℕ) → t.shape ≡ shape.Signed w → is_narrow t ≡ nat_le (width_or_none w) 128
is_narrow-signed t w e = grind (arith, common_steps, the_lemmas)

pub is_narrow-clock : (t : FirType) → t.shape ≡ shape.Clock → is_narrow t ≡ true
is_narrow-clock t e = grind (arith, common_steps, the_lemmas)

pub is_narrow-async : (t : FirType) → t.shape ≡ shape.AsyncReset → is_narrow t ≡ true
is_narrow-async t e = grind (arith, common_steps, the_lemmas)

list_all-of : {A : Type 0} (f : A → Bool) (xs : List A) → list_all (λ b. b) (map f xs) ≡ list_all f xs
list_all-of f [] = refl
list_all-of f (x ∷ xs) = ap (λ b. f x && b) (list_all-of f xs)

pub is_narrow-bundle : (t : FirType) (fs : List Field) → t.shape ≡ shape.Bundle fs → is_narrow t ≡ list_all (λ f. is_narrow f.typ) fs
is_narrow-bundle t fs e = narrow-bundle t fs e ∙ same fs where
  same : (fs : List Field) → list_all field_narrow fs ≡ list_all (λ f. is_narrow f.typ) fs
  same [] = refl
  same (f ∷ fs) = ap₂ (λ a b. a && b) (narrow-field f) (same fs)

fields_narrow : (ps : List ((f : Field) × FieldNarrow f)) (ws : List Width) → Each IsWidth ws → list_all (λ f. is_narrow f.typ) (filled_fields (map (λ e. e.0) ps) ws) ≡ true
fields_narrow [] ws h = refl
fields_narrow (p ∷ ps) ws h = ap₂ (λ a b. a && b) (p.1 ws h) (fields_narrow ps (drop (size p.0.typ) ws) (each_drop IsWidth (size p.0.typ) ws h))

shape_narrow : (y : Shape-F ((s : Shape) × ShapeNarrow s) ((f : Field) × FieldNarrow f) ((t : FirType) × TypeNarrow t))
    → ShapeNarrow (roll-Shape (map-Shape _ _ _ Shape Field FirType (λ e. e.0) (λ e. e.0) (λ e. e.0) y))
shape_narrow (Shape-F.Unsigned w) = subst ShapeNarrow (sym (rolls-Unsigned w)) (λ place ws h.
    let t : FirType = record { place = place; shape = shape.Unsigned w } in
    is_narrow-unsigned (filled t ws) (first_number ws) (filled-unsigned t w refl ws) ∙ le-leb (first_width ws) 128 (first_narrow ws h))
shape_narrow (Shape-F.Signed w) = subst ShapeNarrow (sym (rolls-Signed w)) (λ place ws h.
    let t : FirType = record { place = place; shape = shape.Signed w } in
    is_narrow-signed (filled t ws) (first_number ws) (filled-signed t w refl ws) ∙ le-leb (first_width ws) 128 (first_narrow ws h))
shape_narrow Shape-F.Clock = subst ShapeNarrow (sym rolls-Clock) (λ place ws h.
    let t : FirType = record { place = place; shape = shape.Clock } in is_narrow-clock (filled t ws) (filled-clock t refl ws))
shape_narrow Shape-F.Reset = subst ShapeNarrow (sym rolls-Reset) (λ place ws h.
    let t : FirType = record { place = place; shape = shape.Reset } in
    is_narrow-unsigned (filled t ws) (first_number ws) (filled-reset t refl ws) ∙ le-leb (first_width ws) 128 (first_narrow ws h))
shape_narrow Shape-F.AsyncReset = subst ShapeNarrow (sym rolls-AsyncReset) (λ place ws h.
    let t : FirType = record { place = place; shape = shape.AsyncReset } in is_narrow-async (filled t ws) (filled-async t refl ws))
shape_narrow (Shape-F.Bundle ps) = subst ShapeNarrow (sym (rolls-Bundle (map (λ e. e.0) ps))) (λ place ws h.
    let fs : List Field = map (λ e. e.0) ps in
    let t : FirType = record { place = place; shape = shape.Bundle (map (λ e. e.0) ps) } in
    is_narrow-bundle (filled t ws) (filled_fields fs ws) (filled-bundle t fs refl ws) ∙ fields_narrow ps ws h)
shape_narrow (Shape-F.Vector p n) = subst ShapeNarrow (sym (rolls-Vector p.0 n)) (λ place ws h.
    let t : FirType = record { place = place; shape = shape.Vector p.0 n } in
    narrow-vector (filled t ws) (filled p.0 ws) n (filled-vector t p.0 n refl ws) ∙ p.1 ws h)

-- a type with widths is narrow: a place whose width is over 128 has no number
pub filled_narrow : (t : FirType) (ws : List Width) → Each IsWidth ws → is_narrow (filled t ws) ≡ true
filled_narrow = ind-FirType ShapeNarrow FieldNarrow TypeNarrow
    (λ x y is. subst (λ z. ShapeNarrow (roll-Shape z)) is (shape_narrow y))
    (λ x y is. subst (λ z. FieldNarrow (roll-Field z)) is y.typ.1)
    (λ x y is. subst (λ z. TypeNarrow (roll-FirType z)) is (y.shape.1 y.place))
