-- The parts that the steps of a reference go to: their leaves are leaves of the whole, and they are as narrow.
use Rattle.std.proofs.Common.{◌≡◌, ℕ, zero, suc, ◌==◌, ◌<◌, ◌≤◌, Bool, true, false, cond, ◌&&◌, List, [], ◌∷◌, map, Option, Some, None, refl, sym, ap, ◌∙◌, subst, arith, ◌⊎◌, inl, inr, ⊎_elim}
use Rattle.std.proofs.lemmas.List.Elements.{Contains-append_left, Contains-append_right, Contains-append_cases}
use Rattle.std.specs.Prelude.{find, option_map, Contains}
use Rattle.std.specs.List.{flat_map, list_all}
use Rattle.std.proofs.lemmas.Grind.{common_steps}
use Rattle.std.proofs.lemmas.Bool.{eqb-true, leb-true, cases_order}
use Rattle.place_text.specs.declared.place.Place.{Place}
use Rattle.fir_types.specs.declared.fir_type.FirType.{FirType, ind-FirType, the_lemmas}
use Rattle.fir_types.specs.declared.fir_type.Shape.{Shape}
use Rattle.fir_types.specs.declared.fir_type.Shape.TheOpen.{Shape-F}
use Rattle.fir_types.specs.declared.fir_type.Shape.TheFolds.{map-Shape}
use Rattle.fir_types.specs.declared.fir_type.Shape.TheViews.{roll-Shape, roll-Field, roll-FirType, out-Shape}
use Rattle.fir_types.specs.declared.fir_type.Shape.TheVariants as shape
use Rattle.fir_types.specs.declared.fir_type.Shape.TheVariants.{rolls-Unsigned, rolls-Signed, rolls-Clock, rolls-Reset, rolls-AsyncReset, rolls-Bundle, rolls-Vector, outs-Unsigned, outs-Signed, outs-Clock, outs-Reset, outs-AsyncReset, outs-Bundle, outs-Vector}
use Rattle.fir_types.specs.declared.fir_type.Field.{Field, fold-Field}
use Rattle.fir_types.specs.declared.leaf.TypeLeaf.{TypeLeaf}
use Rattle.fir_types.specs.declared.leaf.PathStep.{PathStep}
use Rattle.fir_types.specs.declared.leaf.PathStep.TheVariants as step
use Rattle.fir_types.specs.Leaves.{leaves, field_leaves, elements, under}
use Rattle.fir_types.proofs.Layers.{leaves-bundle, leaves-vector, leaves-field}
use Rattle.fir_tree.proofs.Shapes.{ShapeCase, shape_uint, shape_sint, shape_clock, shape_reset, shape_async, shape_bundle, shape_vector, case_of}
use Rattle.fir_meaning.specs.Components.{width_of_leaf}
use Rattle.fir_meaning.specs.Values.{field_of_shape, element_of_shape, length_of_shape, vector_length}
use Rattle.fir_meaning.specs.WellTyped.{is_narrow, narrow_layer}
use Rattle.fir_names.proofs.Graphs.{some_same}
use Rattle.fir_names.proofs.Members.{Contains-first, Contains-later, Contains-none, Contains-one, Contains-map, Contains-from_map, Contains-flat_map}

-- Items of lists

pub found_in : {X : Type 0} (test : X → Bool) (xs : List X) (x : X) → find test xs ≡ Some x → Contains xs x × (test x ≡ true)
found_in test [] x e = cc
found_in {X} test (y ∷ xs) x e = by (test y) refl (found_in test xs x) where
  by : (b : Bool) → test y ≡ b → (find test xs ≡ Some x → Contains xs x × (test x ≡ true)) → Contains (y ∷ xs) x × (test x ≡ true)
  by true q rest =
      let same : y ≡ x = some_same (subst (λ c. cond c (Some y) (find test xs) ≡ Some x) q e) in
      (subst (λ z. Contains (y ∷ xs) z) same (Contains-first xs), subst (λ z. test z ≡ true) same q)
  by false q rest = let more = rest (subst (λ c. cond c (Some y) (find test xs) ≡ Some x) q e) in (Contains-later y xs more.0, more.1)

pub mapped_some : {X Y : Type 0} (f : X → Y) (o : Option X) (y : Y) → option_map f o ≡ Some y → (x : X) × (o ≡ Some x) × (f x ≡ y)
mapped_some f None y e = cc
mapped_some f (Some x) y e = (x, refl, some_same e)

-- Fields and elements

-- a field of a bundle
pub record IsField (typ : FirType) (name : ℕ) (part : FirType) : Type 0 where
  pub fields : List Field
  pub is : typ.shape ≡ shape.Bundle fields
  pub field : Field
  pub found : find (λ f. f.name.id == name) fields ≡ Some field
  pub part_is : field.typ ≡ part

-- the elements of a vector
pub record IsElement (typ : FirType) (part : FirType) : Type 0 where
  pub length : ℕ
  pub is : typ.shape ≡ shape.Vector part length
  pub counted : vector_length typ ≡ length

pub field_there : (typ : FirType) (name : ℕ) (part : FirType) → field_of_shape name (out-Shape typ.shape) ≡ Some part → IsField typ name part
field_there typ name part e = by (case_of typ.shape) where
  by : ShapeCase typ.shape → IsField typ name part
  by (shape_uint w is) = absurd (let f = sym (ap (λ s. field_of_shape name (out-Shape s)) is ∙ ap (field_of_shape name) (outs-Unsigned w)) ∙ e in cc)
  by (shape_sint w is) = absurd (let f = sym (ap (λ s. field_of_shape name (out-Shape s)) is ∙ ap (field_of_shape name) (outs-Signed w)) ∙ e in cc)
  by (shape_clock is) = absurd (let f = sym (ap (λ s. field_of_shape name (out-Shape s)) is ∙ ap (field_of_shape name) outs-Clock) ∙ e in cc)
  by (shape_reset is) = absurd (let f = sym (ap (λ s. field_of_shape name (out-Shape s)) is ∙ ap (field_of_shape name) outs-Reset) ∙ e in cc)
  by (shape_async is) = absurd (let f = sym (ap (λ s. field_of_shape name (out-Shape s)) is ∙ ap (field_of_shape name) outs-AsyncReset) ∙ e in cc)
  by (shape_bundle fields is) =
      let found : option_map (λ f. f.typ) (find (λ f. f.name.id == name) fields) ≡ Some part
      = sym (ap (λ s. field_of_shape name (out-Shape s)) is ∙ ap (field_of_shape name) (outs-Bundle fields)) ∙ e in
      let one = mapped_some (λ (f : Field). f.typ) (find (λ f. f.name.id == name) fields) part found in
      record { fields = fields; is = is; field = one.0; found = one.1; part_is = one.2 }
  by (shape_vector element n is) = absurd (let f = sym (ap (λ s. field_of_shape name (out-Shape s)) is ∙ ap (field_of_shape name) (outs-Vector element n)) ∙ e in cc)

pub element_there : (typ part : FirType) → element_of_shape (out-Shape typ.shape) ≡ Some part → IsElement typ part
element_there typ part e = by (case_of typ.shape) where
  by : ShapeCase typ.shape → IsElement typ part
  by (shape_uint w is) = absurd (let f = sym (ap (λ s. element_of_shape (out-Shape s)) is ∙ ap element_of_shape (outs-Unsigned w)) ∙ e in cc)
  by (shape_sint w is) = absurd (let f = sym (ap (λ s. element_of_shape (out-Shape s)) is ∙ ap element_of_shape (outs-Signed w)) ∙ e in cc)
  by (shape_clock is) = absurd (let f = sym (ap (λ s. element_of_shape (out-Shape s)) is ∙ ap element_of_shape outs-Clock) ∙ e in cc)
  by (shape_reset is) = absurd (let f = sym (ap (λ s. element_of_shape (out-Shape s)) is ∙ ap element_of_shape outs-Reset) ∙ e in cc)
  by (shape_async is) = absurd (let f = sym (ap (λ s. element_of_shape (out-Shape s)) is ∙ ap element_of_shape outs-AsyncReset) ∙ e in cc)
  by (shape_bundle fields is) = absurd (let f = sym (ap (λ s. element_of_shape (out-Shape s)) is ∙ ap element_of_shape (outs-Bundle fields)) ∙ e in cc)
  by (shape_vector element n is) =
      let same : element ≡ part = some_same (sym (ap (λ s. element_of_shape (out-Shape s)) is ∙ ap element_of_shape (outs-Vector element n)) ∙ e) in
      record {
        length = n;
        is = subst (λ t. typ.shape ≡ shape.Vector t n) same is;
        counted = ap (λ s. length_of_shape (out-Shape s)) is ∙ ap length_of_shape (outs-Vector element n);
      }

-- A leaf of a part is a leaf of the whole, by the way to the part.
pub record IsLeafAt (typ : FirType) (way : List PathStep) : Type 0 where
  pub leaf : TypeLeaf
  pub listed : Contains (leaves typ) leaf
  pub at : leaf.path ≡ way

pub field_leaf : (typ part : FirType) (name : ℕ) → IsField typ name part → (l : TypeLeaf) → Contains (leaves part) l → IsLeafAt typ (step.Field name ∷ l.path)
field_leaf typ part name f l i =
    let one = found_in (λ (x : Field). x.name.id == name) f.fields f.field f.found in
    let inside : Contains (field_leaves f.field) (under (step.Field f.field.name.id ∷ []) f.field.flip l) =
    subst (λ ls. Contains ls (under (step.Field f.field.name.id ∷ []) f.field.flip l)) (sym (leaves-field f.field))
    (Contains-map (under (step.Field f.field.name.id ∷ []) f.field.flip) (leaves f.field.typ) l (subst (λ t. Contains (leaves t) l) (sym f.part_is) i)) in
    record {
      leaf = under (step.Field f.field.name.id ∷ []) f.field.flip l;
      listed = subst (λ ls. Contains ls (under (step.Field f.field.name.id ∷ []) f.field.flip l)) (sym (leaves-bundle typ f.fields f.is))
          (Contains-flat_map field_leaves f.fields f.field (under (step.Field f.field.name.id ∷ []) f.field.flip l) one.0 inside);
      at = ap (λ n. step.Field n ∷ l.path) (eqb-true f.field.name.id name one.1);
    }

element_in : (ls : List TypeLeaf) (l : TypeLeaf) (n k : ℕ) → Contains ls l → k < n → Contains (elements ls n) (under (step.Element k ∷ []) false l)
element_in ls l zero k i h = absurd (omega arith)
element_in ls l (suc n) k i h = by (cases_order k n) (element_in ls l n k i) where
  by : (k ≡ n) ⊎ ((k < n) ⊎ (n < k)) → (k < n → Contains (elements ls n) (under (step.Element k ∷ []) false l)) → Contains (elements ls (suc n)) (under (step.Element k ∷ []) false l)
  by (inl e) front = subst (λ j. Contains (elements ls (suc n)) (under (step.Element j ∷ []) false l)) (sym e)
      (Contains-append_right (elements ls n) _ _ (Contains-map (under (step.Element n ∷ []) false) ls l i))
  by (inr (inl below)) front = Contains-append_left _ (map (under (step.Element n ∷ []) false) ls) _ (front below)
  by (inr (inr above)) front = absurd (omega (arith, above, h))

pub element_leaf : (typ part : FirType) (k : ℕ) → IsElement typ part → k < vector_length typ → (l : TypeLeaf) → Contains (leaves part) l → IsLeafAt typ (step.Element k ∷ l.path)
element_leaf typ part k e h l i = record {
  leaf = under (step.Element k ∷ []) false l;
  listed = subst (λ ls. Contains ls (under (step.Element k ∷ []) false l)) (sym (leaves-vector typ part e.length e.is))
      (element_in (leaves part) l e.length k i (subst (λ n. k < n) e.counted h));
  at = refl;
}

-- Narrow types

abbrev pub field_narrow : Field → Bool
field_narrow = fold-Field Bool Bool Bool narrow_layer (λ f. f.typ) (λ t. t.shape)

list_all-of : {A : Type 0} (f : A → Bool) (xs : List A) → list_all (λ b. b) (map f xs) ≡ list_all f xs
list_all-of f [] = refl
list_all-of f (x ∷ xs) = ap (λ b. f x && b) (list_all-of f xs)

pub narrow-bundle : (t : FirType) (fs : List Field) → t.shape ≡ shape.Bundle fs → is_narrow t ≡ list_all field_narrow fs
narrow-bundle t fs e = grind (arith, common_steps, the_lemmas, list_all-of)

pub narrow-vector : (t e : FirType) (n : ℕ) → t.shape ≡ shape.Vector e n → is_narrow t ≡ is_narrow e
narrow-vector t e n h = grind (arith, common_steps, the_lemmas)

pub narrow-field : (f : Field) → field_narrow f ≡ is_narrow f.typ
narrow-field f = grind (arith, common_steps, the_lemmas)

left_true : (a b : Bool) → (a && b) ≡ true → a ≡ true
left_true true b e = refl
left_true false b e = absurd cc

right_true : (a b : Bool) → (a && b) ≡ true → b ≡ true
right_true true b e = e
right_true false b e = absurd cc

pub all_true : {A : Type 0} (f : A → Bool) (xs : List A) (x : A) → list_all f xs ≡ true → Contains xs x → f x ≡ true
all_true f [] x h i = absurd (Contains-none i)
all_true f (y ∷ xs) x h i = ⊎_elim (λ l. subst (λ z. f z ≡ true) (sym (Contains-one l)) (left_true (f y) (list_all f xs) h))
    (λ r. all_true f xs x (right_true (f y) (list_all f xs) h) r) (Contains-append_cases (y ∷ []) xs _ i)

pub narrow_field : (typ part : FirType) (name : ℕ) → IsField typ name part → is_narrow typ ≡ true → is_narrow part ≡ true
narrow_field typ part name f h =
    let one = found_in (λ (x : Field). x.name.id == name) f.fields f.field f.found in
    subst (λ t. is_narrow t ≡ true) f.part_is
    (sym (narrow-field f.field) ∙ all_true field_narrow f.fields f.field (sym (narrow-bundle typ f.fields f.is) ∙ h) one.0)

pub narrow_element : (typ part : FirType) → IsElement typ part → is_narrow typ ≡ true → is_narrow part ≡ true
narrow_element typ part e h = sym (narrow-vector typ part e.length e.is) ∙ h

abbrev IsNarrowLeaf : TypeLeaf → Type 0
IsNarrowLeaf l = width_of_leaf l ≤ 128

abbrev Narrow : FirType → Type 0
Narrow t = is_narrow t ≡ true → (l : TypeLeaf) → Contains (leaves t) l → IsNarrowLeaf l

abbrev NarrowField : Field → Type 0
NarrowField f = field_narrow f ≡ true → (l : TypeLeaf) → Contains (field_leaves f) l → IsNarrowLeaf l

abbrev NarrowShape : Shape → Type 0
NarrowShape s = (place : Place) → Narrow (record { place = place; shape = s })

narrow_under : (path : List PathStep) (flip : Bool) (ls : List TypeLeaf) → ((l : TypeLeaf) → Contains ls l → IsNarrowLeaf l) → (l : TypeLeaf) → Contains (map (under path flip) ls) l → IsNarrowLeaf l
narrow_under path flip ls h l i = let from = Contains-from_map (under path flip) ls l i in subst IsNarrowLeaf from.2 (h from.0 from.1)

narrow_elements : (ls : List TypeLeaf) (n : ℕ) → ((l : TypeLeaf) → Contains ls l → IsNarrowLeaf l) → (l : TypeLeaf) → Contains (elements ls n) l → IsNarrowLeaf l
narrow_elements ls zero h l i = absurd (Contains-none i)
narrow_elements ls (suc n) h l i =
    ⊎_elim (λ a. narrow_elements ls n h l a) (λ b. narrow_under (step.Element n ∷ []) false ls h l b) (Contains-append_cases (elements ls n) (map (under (step.Element n ∷ []) false) ls) _ i)

fields_narrow : (ps : List ((f : Field) × NarrowField f)) → list_all field_narrow (map (λ e. e.0) ps) ≡ true → (l : TypeLeaf)
    → Contains (flat_map field_leaves (map (λ e. e.0) ps)) l → IsNarrowLeaf l
fields_narrow [] h l i = absurd (Contains-none i)
fields_narrow (p ∷ ps) h l i =
    ⊎_elim (λ a. p.1 (left_true (field_narrow p.0) (list_all field_narrow (map (λ e. e.0) ps)) h) l a)
    (λ b. fields_narrow ps (right_true (field_narrow p.0) (list_all field_narrow (map (λ e. e.0) ps)) h) l b)
    (Contains-append_cases (field_leaves p.0) (flat_map field_leaves (map (λ e. e.0) ps)) _ i)

ground_narrow : (t : FirType) → leaves t ≡ record { path = []; flip = false; typ = t } ∷ []
    → (is_narrow t ≡ true → width_of_leaf (record { path = []; flip = false; typ = t }) ≤ 128) → Narrow t
ground_narrow t e w h l i = subst IsNarrowLeaf (sym (Contains-one (subst (λ list. Contains list l) e i))) (w h)

unsigned_narrow : (place : Place) (w : Option ℕ) → Narrow (record { place = place; shape = shape.Unsigned w })
unsigned_narrow place w = ground_narrow (record { place = place; shape = shape.Unsigned w }) (grind (arith, common_steps, the_lemmas))
    (λ h. grind (arith, common_steps, the_lemmas, leb-true, h))

signed_narrow : (place : Place) (w : Option ℕ) → Narrow (record { place = place; shape = shape.Signed w })
signed_narrow place w = ground_narrow (record { place = place; shape = shape.Signed w }) (grind (arith, common_steps, the_lemmas))
    (λ h. grind (arith, common_steps, the_lemmas, leb-true, h))

clock_narrow : (place : Place) → Narrow (record { place = place; shape = shape.Clock })
clock_narrow place = ground_narrow (record { place = place; shape = shape.Clock }) (grind (arith, common_steps, the_lemmas)) (λ h. grind (arith, common_steps, the_lemmas))

reset_narrow : (place : Place) → Narrow (record { place = place; shape = shape.Reset })
reset_narrow place = ground_narrow (record { place = place; shape = shape.Reset }) (grind (arith, common_steps, the_lemmas)) (λ h. grind (arith, common_steps, the_lemmas))

async_narrow : (place : Place) → Narrow (record { place = place; shape = shape.AsyncReset })
async_narrow place = ground_narrow (record { place = place; shape = shape.AsyncReset }) (grind (arith, common_steps, the_lemmas)) (λ h. grind (arith, common_steps, the_lemmas))

shape_narrow : (y : Shape-F ((s : Shape) × NarrowShape s) ((f : Field) × NarrowField f) ((t : FirType) × Narrow t))
    → NarrowShape (roll-Shape (map-Shape _ _ _ Shape Field FirType (λ e. e.0) (λ e. e.0) (λ e. e.0) y))
shape_narrow (Shape-F.Unsigned w) = subst NarrowShape (sym (rolls-Unsigned w)) (λ place. unsigned_narrow place w)
shape_narrow (Shape-F.Signed w) = subst NarrowShape (sym (rolls-Signed w)) (λ place. signed_narrow place w)
shape_narrow Shape-F.Clock = subst NarrowShape (sym rolls-Clock) clock_narrow
shape_narrow Shape-F.Reset = subst NarrowShape (sym rolls-Reset) reset_narrow
shape_narrow Shape-F.AsyncReset = subst NarrowShape (sym rolls-AsyncReset) async_narrow
shape_narrow (Shape-F.Bundle ps) = subst NarrowShape (sym (rolls-Bundle (map (λ e. e.0) ps))) (λ place h l i.
    let fs : List Field = map (λ e. e.0) ps in
    let t : FirType = record { place = place; shape = shape.Bundle (map (λ e. e.0) ps) } in
    fields_narrow ps (sym (narrow-bundle t fs refl) ∙ h) l (subst (λ list. Contains list l) (leaves-bundle t fs refl) i))
shape_narrow (Shape-F.Vector p n) = subst NarrowShape (sym (rolls-Vector p.0 n)) (λ place h l i.
    let t : FirType = record { place = place; shape = shape.Vector p.0 n } in
    narrow_elements (leaves p.0) n (p.1 (sym (narrow-vector t p.0 n refl) ∙ h)) l (subst (λ list. Contains list l) (leaves-vector t p.0 n refl) i))

field_is_narrow : (f : Field) → Narrow f.typ → NarrowField f
field_is_narrow f h k l i =
    narrow_under (step.Field f.name.id ∷ []) f.flip (leaves f.typ) (h (sym (narrow-field f) ∙ k)) l (subst (λ list. Contains list l) (leaves-field f) i)

pub narrow_leaves : (t : FirType) → is_narrow t ≡ true → (l : TypeLeaf) → Contains (leaves t) l → width_of_leaf l ≤ 128
narrow_leaves = ind-FirType NarrowShape NarrowField Narrow
    (λ x y is. subst (λ z. NarrowShape (roll-Shape z)) is (shape_narrow y))
    (λ x y is. subst (λ z. NarrowField (roll-Field z)) is (field_is_narrow (record { flip = y.flip; name = y.name; typ = y.typ.0 }) y.typ.1))
    (λ x y is. subst (λ z. Narrow (roll-FirType z)) is (y.shape.1 y.place))
