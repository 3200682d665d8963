-- Leaves with different paths: those of a type in which no bundle has two fields of one name.
use Rattle.std.proofs.Common.{◌≡◌, ◌≢◌, ℕ, zero, suc, ◌<◌, Bool, true, false, ◌||◌, List, [], ◌∷◌, ◌++◌, map, Some, refl, sym, ap, ap₂, ◌∙◌, subst, arith, slice_get}
use Rattle.std.specs.Prelude.{⊤, nat_eq}
use Rattle.std.specs.List.{flat_map, list_any, AllByRecursion}
use Rattle.std.proofs.lemmas.Grind.{common_steps}
use Rattle.std.proofs.lemmas.Bool.{both_ways, or_parts, eq-eqb}
use Rattle.std.proofs.lemmas.List.{append_cancel_left}
use Rattle.place_text.specs.declared.place.Place.{Place}
use Rattle.fir_types.specs.declared.fir_type.FirType.{FirType, ind-FirType, the_lemmas}
use Rattle.fir_types.specs.declared.fir_type.Shape.{Shape}
use Rattle.fir_types.specs.declared.fir_type.Shape.TheOpen.{Shape-F}
use Rattle.fir_types.specs.declared.fir_type.Shape.TheFolds.{map-Shape}
use Rattle.fir_types.specs.declared.fir_type.Shape.TheViews.{roll-Shape, roll-Field, roll-FirType}
use Rattle.fir_types.specs.declared.fir_type.Shape.TheVariants as shape
use Rattle.fir_types.specs.declared.fir_type.Shape.TheVariants.{rolls-Unsigned, rolls-Signed, rolls-Clock, rolls-Reset, rolls-AsyncReset, rolls-Bundle, rolls-Vector}
use Rattle.fir_types.specs.declared.fir_type.Field.{Field, fold-Field}
use Rattle.fir_types.specs.declared.leaf.TypeLeaf.{TypeLeaf}
use Rattle.fir_types.specs.declared.leaf.PathStep.{PathStep}
use Rattle.fir_types.specs.declared.leaf.PathStep.TheVariants as step
use Rattle.fir_types.specs.Leaves.{leaves, field_leaves, elements, under}
use Rattle.fir_types.proofs.Layers.{leaves-bundle, leaves-vector, leaves-field}
use Rattle.check_laws.specs.DoubledFields.{is_doubled, doubled_in_shape, doubled_in_field, has_doubled_field, HasNoDoubledField}
use Rattle.check_laws.specs.Paths.{HaveDifferentPaths}

-- facts of each leaf

all_both : (P : TypeLeaf → Type 0) (xs ys : List TypeLeaf) → AllByRecursion P xs → AllByRecursion P ys → AllByRecursion P (xs ++ ys)
all_both P [] ys a b = b
all_both P (x ∷ xs) ys a b = (a.0, all_both P xs ys a.1 b)

all_weaker : (P Q : TypeLeaf → Type 0) → ((l : TypeLeaf) → P l → Q l) → (ls : List TypeLeaf) → AllByRecursion P ls → AllByRecursion Q ls
all_weaker P Q f [] a = tt
all_weaker P Q f (l ∷ ls) a = (f l a.0, all_weaker P Q f ls a.1)

-- By recursion: a leaf has another path than each leaf behind it.
abbrev pub Apart : List TypeLeaf → Type 0
Apart [] = ⊤
Apart (l ∷ ls) = AllByRecursion (λ m. l.path ≢ m.path) ls × Apart ls

apart_from : (path : List PathStep) (flip : Bool) (l : TypeLeaf) (ls : List TypeLeaf) → AllByRecursion (λ m. l.path ≢ m.path) ls
    → AllByRecursion (λ m. path ++ l.path ≢ m.path) (map (under path flip) ls)
apart_from path flip l [] h = tt
apart_from path flip l (m ∷ ls) h = (λ e. h.0 (append_cancel_left path l.path m.path e), apart_from path flip l ls h.1)

apart_under : (path : List PathStep) (flip : Bool) (ls : List TypeLeaf) → Apart ls → Apart (map (under path flip) ls)
apart_under path flip [] h = tt
apart_under path flip (l ∷ ls) h = (apart_from path flip l ls h.0, apart_under path flip ls h.1)

-- the path of a leaf begins with such a step
abbrev Begins : (PathStep → Type 0) → TypeLeaf → Type 0
Begins P l = (s : PathStep) × (way : List PathStep) × P s × (l.path ≡ s ∷ way)

begins_under : (P : PathStep → Type 0) (s : PathStep) (flip : Bool) (ls : List TypeLeaf) → P s → AllByRecursion (Begins P) (map (under (s ∷ []) flip) ls)
begins_under P s flip [] p = tt
begins_under P s flip (l ∷ ls) p = ((s, l.path, p, refl), begins_under P s flip ls p)

begins_weaker : (P Q : PathStep → Type 0) → ((s : PathStep) → P s → Q s) → (ls : List TypeLeaf) → AllByRecursion (Begins P) ls → AllByRecursion (Begins Q) ls
begins_weaker P Q f ls a = all_weaker (Begins P) (Begins Q) (λ l b. (b.0, b.1, f b.0 b.2, b.3)) ls a

same_head : {x y : PathStep} {xs ys : List PathStep} → x ∷ xs ≡ y ∷ ys → x ≡ y
same_head e = cc

-- Leaves are apart from leaves that begin otherwise.
apart_both : (P Q : PathStep → Type 0) → ((s t : PathStep) → P s → Q t → s ≢ t) → (xs ys : List TypeLeaf) → AllByRecursion (Begins P) xs → AllByRecursion (Begins Q) ys
    → Apart xs → Apart ys → Apart (xs ++ ys)
apart_both P Q c [] ys b d h k = k
apart_both P Q c (x ∷ xs) ys b d h k = (
  all_both (λ m. x.path ≢ m.path) xs ys h.0
      (all_weaker (Begins Q) (λ m. x.path ≢ m.path) (λ m q e. c b.0.0 q.0 b.0.2 q.2 (same_head (sym b.0.3 ∙ e ∙ q.3))) ys d),
  apart_both P Q c xs ys b.1 d h.1 k,
)

-- vectors

abbrev ElementBelow : ℕ → PathStep → Type 0
ElementBelow n s = (k : ℕ) × (k < n) × (s ≡ step.Element k)

begin_elements : (ls : List TypeLeaf) (n : ℕ) → AllByRecursion (Begins (ElementBelow n)) (elements ls n)
begin_elements ls zero = tt
begin_elements ls (suc n) =
    all_both (Begins (ElementBelow (suc n))) (elements ls n) (map (under (step.Element n ∷ []) false) ls)
    (begins_weaker (ElementBelow n) (ElementBelow (suc n)) (λ s p. (p.0, omega (arith, p.1), p.2)) (elements ls n) (begin_elements ls n))
    (begins_under (ElementBelow (suc n)) (step.Element n) false ls (n, omega arith, refl))

same_element : (j k : ℕ) → step.Element j ≡ step.Element k → j ≡ k
same_element j k e = cc

apart_elements : (ls : List TypeLeaf) (n : ℕ) → Apart ls → Apart (elements ls n)
apart_elements ls zero h = tt
apart_elements ls (suc n) h =
    apart_both (ElementBelow n) (λ s. s ≡ step.Element n)
    (λ s t p q e. let k : p.0 ≡ n = same_element p.0 n (sym p.2 ∙ e ∙ q) in omega (arith, p.1, k))
    (elements ls n) (map (under (step.Element n ∷ []) false) ls) (begin_elements ls n) (begins_under (λ s. s ≡ step.Element n) (step.Element n) false ls refl)
    (apart_elements ls n h) (apart_under (step.Element n ∷ []) false ls h)

-- bundles

abbrev pub ids : List Field → List ℕ
ids fs = map (λ (f : Field). f.name.id) fs

abbrev FieldAmong : List ℕ → PathStep → Type 0
FieldAmong names s = (k : ℕ) × (list_any (nat_eq k) names ≡ true) × (s ≡ step.Field k)

first_among : (k : ℕ) (names : List ℕ) → list_any (nat_eq k) (k ∷ names) ≡ true
first_among k names = ap (λ b. b || list_any (nat_eq k) names) (eq-eqb k k refl)

or_true : (a b : Bool) → b ≡ true → (a || b) ≡ true
or_true true b e = refl
or_true false b e = e

begin_field : (P : PathStep → Type 0) (f : Field) → P (step.Field f.name.id) → AllByRecursion (Begins P) (field_leaves f)
begin_field P f p = subst (AllByRecursion (Begins P)) (sym (leaves-field f)) (begins_under P (step.Field f.name.id) f.flip (leaves f.typ) p)

begin_fields : (fs : List Field) → AllByRecursion (Begins (FieldAmong (ids fs))) (flat_map field_leaves fs)
begin_fields [] = tt
begin_fields (f ∷ fs) =
    all_both (Begins (FieldAmong (ids (f ∷ fs)))) (field_leaves f) (flat_map field_leaves fs)
    (begin_field (FieldAmong (ids (f ∷ fs))) f (f.name.id, first_among f.name.id (ids fs), refl))
    (begins_weaker (FieldAmong (ids fs)) (FieldAmong (ids (f ∷ fs))) (λ s p. (p.0, or_true (nat_eq p.0 f.name.id) _ p.1, p.2)) (flat_map field_leaves fs) (begin_fields fs))

same_field_name : (j k : ℕ) → step.Field j ≡ step.Field k → j ≡ k
same_field_name j k e = cc

pub apart_fields : (fs : List Field) → is_doubled (ids fs) ≡ false → AllByRecursion (λ (f : Field). Apart (leaves f.typ)) fs → Apart (flat_map field_leaves fs)
apart_fields [] d h = tt
apart_fields (f ∷ fs) d h =
    let parts = or_parts (list_any (nat_eq f.name.id) (ids fs)) (is_doubled (ids fs)) d in
    apart_both (λ s. s ≡ step.Field f.name.id) (FieldAmong (ids fs))
    (λ s t p q e. let k : f.name.id ≡ q.0 = same_field_name f.name.id q.0 (sym p ∙ e ∙ q.2) in both_ways _ parts.0 (subst (λ n. list_any (nat_eq n) (ids fs) ≡ true) (sym k) q.1))
    (field_leaves f) (flat_map field_leaves fs) (begin_field (λ s. s ≡ step.Field f.name.id) f refl) (begin_fields fs)
    (subst Apart (sym (leaves-field f)) (apart_under (step.Field f.name.id ∷ []) f.flip (leaves f.typ) h.0)) (apart_fields fs parts.1 h.1)

pub apart_bundle : (t : FirType) (fs : List Field) → t.shape ≡ shape.Bundle fs → is_doubled (ids fs) ≡ false → AllByRecursion (λ (f : Field). Apart (leaves f.typ)) fs → Apart (leaves t)
apart_bundle t fs e d h = subst Apart (sym (leaves-bundle t fs e)) (apart_fields fs d h)

-- what the definition says of bundles and vectors

abbrev field_doubled : Field → ℕ × Bool
field_doubled = fold-Field Bool (ℕ × Bool) Bool doubled_in_shape doubled_in_field (λ t. t.shape)

field_doubled_is : (f : Field) → field_doubled f ≡ (f.name.id, has_doubled_field f.typ)
field_doubled_is f = grind (arith, common_steps, the_lemmas)

doubled-bundle : (t : FirType) (fs : List Field) → t.shape ≡ shape.Bundle fs
    → has_doubled_field t ≡ (is_doubled (map (λ f. f.0) (map field_doubled fs)) || list_any (λ f. f.1) (map field_doubled fs))
doubled-bundle t fs e = grind (arith, common_steps, the_lemmas)

doubled-vector : (t e : FirType) (n : ℕ) → t.shape ≡ shape.Vector e n → has_doubled_field t ≡ has_doubled_field e
doubled-vector t e n h = grind (arith, common_steps, the_lemmas)

names_doubled : (fs : List Field) → map (λ f. f.0) (map field_doubled fs) ≡ ids fs
names_doubled [] = refl
names_doubled (f ∷ fs) = ap₂ (λ x xs. x ∷ xs) (ap (λ (p : ℕ × Bool). p.0) (field_doubled_is f)) (names_doubled fs)

types_doubled : (fs : List Field) → list_any (λ f. f.1) (map field_doubled fs) ≡ list_any (λ (f : Field). has_doubled_field f.typ) fs
types_doubled [] = refl
types_doubled (f ∷ fs) = ap₂ (λ x xs. x || xs) (ap (λ (p : ℕ × Bool). p.1) (field_doubled_is f)) (types_doubled fs)

pub doubled_of_bundle : (t : FirType) (fs : List Field) → t.shape ≡ shape.Bundle fs
    → has_doubled_field t ≡ (is_doubled (ids fs) || list_any (λ (f : Field). has_doubled_field f.typ) fs)
doubled_of_bundle t fs e = doubled-bundle t fs e ∙ ap₂ (λ a b. is_doubled a || b) (names_doubled fs) (types_doubled fs)

-- types

abbrev TypeApart : FirType → Type 0
TypeApart t = has_doubled_field t ≡ false → Apart (leaves t)

abbrev FieldApart : Field → Type 0
FieldApart f = TypeApart f.typ

abbrev ShapeApart : Shape → Type 0
ShapeApart s = (place : Place) → TypeApart (record { place = place; shape = s })

fields_apart : (ps : List ((f : Field) × FieldApart f)) → list_any (λ (f : Field). has_doubled_field f.typ) (map (λ e. e.0) ps) ≡ false
    → AllByRecursion (λ (f : Field). Apart (leaves f.typ)) (map (λ e. e.0) ps)
fields_apart [] h = tt
fields_apart (p ∷ ps) h =
    let parts = or_parts (has_doubled_field p.0.typ) (list_any (λ (f : Field). has_doubled_field f.typ) (map (λ e. e.0) ps)) h in
    (p.1 parts.0, fields_apart ps parts.1)

one_apart : (t : FirType) → leaves t ≡ record { path = []; flip = false; typ = t } ∷ [] → Apart (leaves t)
one_apart t e = subst Apart (sym e) (tt, tt)

shape_apart : (y : Shape-F ((s : Shape) × ShapeApart s) ((f : Field) × FieldApart f) ((t : FirType) × TypeApart t))
    → ShapeApart (roll-Shape (map-Shape _ _ _ Shape Field FirType (λ e. e.0) (λ e. e.0) (λ e. e.0) y))
shape_apart (Shape-F.Unsigned w) = subst ShapeApart (sym (rolls-Unsigned w)) (λ place h. one_apart (record { place = place; shape = shape.Unsigned w }) (grind (arith, common_steps, the_lemmas)))
shape_apart (Shape-F.Signed w) = subst ShapeApart (sym (rolls-Signed w)) (λ place h. one_apart (record { place = place; shape = shape.Signed w }) (grind (arith, common_steps, the_lemmas)))
shape_apart Shape-F.Clock = subst ShapeApart (sym rolls-Clock) (λ place h. one_apart (record { place = place; shape = shape.Clock }) (grind (arith, common_steps, the_lemmas)))
shape_apart Shape-F.Reset = subst ShapeApart (sym rolls-Reset) (λ place h. one_apart (record { place = place; shape = shape.Reset }) (grind (arith, common_steps, the_lemmas)))
shape_apart Shape-F.AsyncReset = subst ShapeApart (sym rolls-AsyncReset) (λ place h. one_apart (record { place = place; shape = shape.AsyncReset }) (grind (arith, common_steps, the_lemmas)))
shape_apart (Shape-F.Bundle ps) = subst ShapeApart (sym (rolls-Bundle (map (λ e. e.0) ps))) (λ place h.
    let fs : List Field = map (λ e. e.0) ps in
    let t : FirType = record { place = place; shape = shape.Bundle (map (λ e. e.0) ps) } in
    let parts = or_parts (is_doubled (ids fs)) (list_any (λ (f : Field). has_doubled_field f.typ) fs) (sym (doubled_of_bundle t fs refl) ∙ h) in
    apart_bundle t fs refl parts.0 (fields_apart ps parts.1))
shape_apart (Shape-F.Vector p n) = subst ShapeApart (sym (rolls-Vector p.0 n)) (λ place h.
    let t : FirType = record { place = place; shape = shape.Vector p.0 n } in
    subst Apart (sym (leaves-vector t p.0 n refl)) (apart_elements (leaves p.0) n (p.1 (sym (doubled-vector t p.0 n refl) ∙ h))))

pub apart_leaves : (t : FirType) → HasNoDoubledField t → Apart (leaves t)
apart_leaves = ind-FirType ShapeApart FieldApart TypeApart
    (λ x y is. subst (λ z. ShapeApart (roll-Shape z)) is (shape_apart y))
    (λ x y is. subst (λ z. FieldApart (roll-Field z)) is y.typ.1)
    (λ x y is. subst (λ z. TypeApart (roll-FirType z)) is (y.shape.1 y.place))

-- by places

some_same : {a b : TypeLeaf} → Some a ≡ Some b → a ≡ b
some_same e = cc

apart_at : (l : TypeLeaf) (ls : List TypeLeaf) → AllByRecursion (λ m. l.path ≢ m.path) ls → (k : ℕ) (b : TypeLeaf) → slice_get ls k ≡ Some b → l.path ≢ b.path
apart_at l [] h k b e = cc
apart_at l (m ∷ ls) h zero b e = subst (λ (x : TypeLeaf). l.path ≢ x.path) (some_same e) h.0
apart_at l (m ∷ ls) h (suc k) b e = apart_at l ls h.1 k b e

pub apart_places : (ls : List TypeLeaf) → Apart ls → HaveDifferentPaths ls
apart_places [] d j k a b e f s = cc
apart_places (l ∷ ls) d zero zero a b e f s = refl
apart_places (l ∷ ls) d zero (suc k) a b e f s = absurd (apart_at l ls d.0 k b f (ap (λ (x : TypeLeaf). x.path) (some_same e) ∙ s))
apart_places (l ∷ ls) d (suc j) zero a b e f s = absurd (apart_at l ls d.0 j a e (ap (λ (x : TypeLeaf). x.path) (some_same f) ∙ sym s))
apart_places (l ∷ ls) d (suc j) (suc k) a b e f s = ap suc (apart_places ls d.1 j k a b e f s)
