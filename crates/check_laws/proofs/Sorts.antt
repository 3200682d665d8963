-- Leaf by leaf, equivalent types have the same kinds, and each leaf has one.
use Rattle.std.proofs.Common.{◌≡◌, ℕ, zero, suc, Bool, true, false, List, [], ◌∷◌, ◌++◌, map, Option, Some, refl, sym, ap, ap₂, ◌∙◌, subst, arith}
use Rattle.std.specs.Prelude.{is_some}
use Rattle.std.specs.List.{flat_map, AllByRecursion}
use Rattle.std.proofs.lemmas.Grind.{common_steps}
use Rattle.std.proofs.lemmas.List.{map-append}
use Rattle.place_text.specs.declared.place.Place.{Place}
use Rattle.fir_types.specs.declared.fir_type.FirType.{FirType, ind-FirType, the_lemmas}
use Rattle.fir_types.specs.declared.fir_type.Shape.{Shape}
use Rattle.fir_types.specs.declared.fir_type.Shape.TheOpen.{Shape-F}
use Rattle.fir_types.specs.declared.fir_type.Shape.TheFolds.{map-Shape}
use Rattle.fir_types.specs.declared.fir_type.Shape.TheViews.{roll-Shape, roll-Field, roll-FirType}
use Rattle.fir_types.specs.declared.fir_type.Shape.TheVariants as shape
use Rattle.fir_types.specs.declared.fir_type.Shape.TheVariants.{rolls-Unsigned, rolls-Signed, rolls-Clock, rolls-Reset, rolls-AsyncReset, rolls-Bundle, rolls-Vector}
use Rattle.fir_types.specs.declared.fir_type.Field.{Field}
use Rattle.fir_types.specs.declared.leaf.TypeLeaf.{TypeLeaf}
use Rattle.fir_types.specs.declared.leaf.PathStep.{PathStep}
use Rattle.fir_types.specs.declared.leaf.PathStep.TheVariants as step
use Rattle.fir_types.specs.Leaves.{leaves, field_leaves, elements, under}
use Rattle.fir_types.specs.Equivalence.{Equivalent, IsUnsigned, IsSigned, SameFields, unsigned, signed, clocks, asyncs, vectors, bundles, no_fields, same_field, a_uint, a_reset, a_sint}
use Rattle.fir_types.proofs.Layers.{leaves-bundle, leaves-vector, leaves-field}
use Rattle.check_laws.specs.GroundKinds.{GroundKind, An_unsigned, A_signed, A_clock, An_async, ground_kind}

abbrev kinds : List TypeLeaf → List (Option GroundKind)
kinds ls = map ground_kind ls

kinds_under : (path : List PathStep) (flip : Bool) (ls : List TypeLeaf) → kinds (map (under path flip) ls) ≡ kinds ls
kinds_under path flip [] = refl
kinds_under path flip (l ∷ ls) = ap (λ ks. ground_kind l ∷ ks) (kinds_under path flip ls)

kinds_both : (xs bs cs ds : List TypeLeaf) → kinds xs ≡ kinds bs → kinds cs ≡ kinds ds → kinds (xs ++ cs) ≡ kinds (bs ++ ds)
kinds_both xs bs cs ds e f = map-append ground_kind xs cs ∙ ap₂ (λ x y. x ++ y) e f ∙ sym (map-append ground_kind bs ds)

kinds_elements : (ls ms : List TypeLeaf) (n : ℕ) → kinds ls ≡ kinds ms → kinds (elements ls n) ≡ kinds (elements ms n)
kinds_elements ls ms zero e = refl
kinds_elements ls ms (suc n) e =
    kinds_both (elements ls n) (elements ms n) (map (under (step.Element n ∷ []) false) ls) (map (under (step.Element n ∷ []) false) ms) (kinds_elements ls ms n e)
    (kinds_under (step.Element n ∷ []) false ls ∙ e ∙ sym (kinds_under (step.Element n ∷ []) false ms))

kinds_field : (f : Field) → kinds (field_leaves f) ≡ kinds (leaves f.typ)
kinds_field f = ap kinds (leaves-field f) ∙ kinds_under (step.Field f.name.id ∷ []) f.flip (leaves f.typ)

unsigned_kind : {t : FirType} → IsUnsigned t → kinds (leaves t) ≡ Some An_unsigned ∷ []
unsigned_kind {t} (a_uint w e) = grind (arith, common_steps, the_lemmas)
unsigned_kind {t} (a_reset e) = grind (arith, common_steps, the_lemmas)

signed_kind : {t : FirType} → IsSigned t → kinds (leaves t) ≡ Some A_signed ∷ []
signed_kind {t} (a_sint w e) = grind (arith, common_steps, the_lemmas)

clock_kind : (t : FirType) → t.shape ≡ shape.Clock → kinds (leaves t) ≡ Some A_clock ∷ []
clock_kind t e = grind (arith, common_steps, the_lemmas)

async_kind : (t : FirType) → t.shape ≡ shape.AsyncReset → kinds (leaves t) ≡ Some An_async ∷ []
async_kind t e = grind (arith, common_steps, the_lemmas)

mutual
  pub same_kinds : {l r : FirType} → Equivalent l r → kinds (leaves l) ≡ kinds (leaves r)
  same_kinds (unsigned u v) = unsigned_kind u ∙ sym (unsigned_kind v)
  same_kinds (signed u v) = signed_kind u ∙ sym (signed_kind v)
  same_kinds {l} {r} (clocks u v) = clock_kind l u ∙ sym (clock_kind r v)
  same_kinds {l} {r} (asyncs u v) = async_kind l u ∙ sym (async_kind r v)
  same_kinds {l} {r} (vectors e o n u v q) =
      ap kinds (leaves-vector l e n u) ∙ kinds_elements (leaves e) (leaves o) n (same_kinds q) ∙ sym (ap kinds (leaves-vector r o n v))
  same_kinds {l} {r} (bundles fs gs u v q) = ap kinds (leaves-bundle l fs u) ∙ same_bundle_kinds q ∙ sym (ap kinds (leaves-bundle r gs v))

  same_bundle_kinds : {fs gs : List Field} → SameFields fs gs → kinds (flat_map field_leaves fs) ≡ kinds (flat_map field_leaves gs)
  same_bundle_kinds no_fields = refl
  same_bundle_kinds (same_field {field = f} {other = g} {rest = fs} {others = gs} a b q rest) =
      kinds_both (field_leaves f) (field_leaves g) (flat_map field_leaves fs) (flat_map field_leaves gs)
      (kinds_field f ∙ same_kinds q ∙ sym (kinds_field g)) (same_bundle_kinds rest)

-- each leaf has a kind

abbrev HasKind : TypeLeaf → Type 0
HasKind l = is_some (ground_kind l) ≡ true

abbrev AllKinds : List TypeLeaf → Type 0
AllKinds ls = AllByRecursion HasKind ls

all_both : (xs ys : List TypeLeaf) → AllKinds xs → AllKinds ys → AllKinds (xs ++ ys)
all_both [] ys a b = b
all_both (x ∷ xs) ys a b = (a.0, all_both xs ys a.1 b)

all_under : (path : List PathStep) (flip : Bool) (ls : List TypeLeaf) → AllKinds ls → AllKinds (map (under path flip) ls)
all_under path flip [] a = tt
all_under path flip (l ∷ ls) a = (a.0, all_under path flip ls a.1)

all_elements : (ls : List TypeLeaf) (n : ℕ) → AllKinds ls → AllKinds (elements ls n)
all_elements ls zero a = tt
all_elements ls (suc n) a = all_both (elements ls n) (map (under (step.Element n ∷ []) false) ls) (all_elements ls n a) (all_under (step.Element n ∷ []) false ls a)

abbrev TypeKinds : FirType → Type 0
TypeKinds t = AllKinds (leaves t)

abbrev FieldKinds : Field → Type 0
FieldKinds f = TypeKinds f.typ

abbrev ShapeKinds : Shape → Type 0
ShapeKinds s = (place : Place) → TypeKinds (record { place = place; shape = s })

all_fields : (ps : List ((f : Field) × FieldKinds f)) → AllKinds (flat_map field_leaves (map (λ e. e.0) ps))
all_fields [] = tt
all_fields (p ∷ ps) =
    all_both (field_leaves p.0) (flat_map field_leaves (map (λ e. e.0) ps))
    (subst AllKinds (sym (leaves-field p.0)) (all_under (step.Field p.0.name.id ∷ []) p.0.flip (leaves p.0.typ) p.1)) (all_fields ps)

one_kind : (t : FirType) → leaves t ≡ record { path = []; flip = false; typ = t } ∷ [] → is_some (ground_kind (record { path = []; flip = false; typ = t })) ≡ true → TypeKinds t
one_kind t e h = subst AllKinds (sym e) (h, tt)

shape_kinds : (y : Shape-F ((s : Shape) × ShapeKinds s) ((f : Field) × FieldKinds f) ((t : FirType) × TypeKinds t))
    → ShapeKinds (roll-Shape (map-Shape _ _ _ Shape Field FirType (λ e. e.0) (λ e. e.0) (λ e. e.0) y))
shape_kinds (Shape-F.Unsigned w) = subst ShapeKinds (sym (rolls-Unsigned w)) (λ place. one_kind (record { place = place; shape = shape.Unsigned w }) (grind (arith, common_steps, the_lemmas)) refl)
shape_kinds (Shape-F.Signed w) = subst ShapeKinds (sym (rolls-Signed w)) (λ place. one_kind (record { place = place; shape = shape.Signed w }) (grind (arith, common_steps, the_lemmas)) refl)
shape_kinds Shape-F.Clock = subst ShapeKinds (sym rolls-Clock) (λ place. one_kind (record { place = place; shape = shape.Clock }) (grind (arith, common_steps, the_lemmas)) refl)
shape_kinds Shape-F.Reset = subst ShapeKinds (sym rolls-Reset) (λ place. one_kind (record { place = place; shape = shape.Reset }) (grind (arith, common_steps, the_lemmas)) refl)
shape_kinds Shape-F.AsyncReset = subst ShapeKinds (sym rolls-AsyncReset) (λ place. one_kind (record { place = place; shape = shape.AsyncReset }) (grind (arith, common_steps, the_lemmas)) refl)
shape_kinds (Shape-F.Bundle ps) = subst ShapeKinds (sym (rolls-Bundle (map (λ e. e.0) ps))) (λ place.
    let fs : List Field = map (λ e. e.0) ps in
    subst AllKinds (sym (leaves-bundle (record { place = place; shape = shape.Bundle (map (λ e. e.0) ps) }) fs refl)) (all_fields ps))
shape_kinds (Shape-F.Vector p n) = subst ShapeKinds (sym (rolls-Vector p.0 n)) (λ place.
    subst AllKinds (sym (leaves-vector (record { place = place; shape = shape.Vector p.0 n }) p.0 n refl)) (all_elements (leaves p.0) n p.1))

pub have_kinds : (t : FirType) → AllKinds (leaves t)
have_kinds = ind-FirType ShapeKinds FieldKinds TypeKinds
    (λ x y is. subst (λ z. ShapeKinds (roll-Shape z)) is (shape_kinds y))
    (λ x y is. subst (λ z. FieldKinds (roll-Field z)) is y.typ.1)
    (λ x y is. subst (λ z. TypeKinds (roll-FirType z)) is (y.shape.1 y.place))
