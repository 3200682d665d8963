-- The question whether two types are equivalent is answered with yes exactly where they are.
use Rattle.std.proofs.Common.{◌≡◌, ℕ, Bool, true, false, ◌&&◌, Option, List, [], ◌∷◌, map, refl, sym, ap, ◌∙◌, subst, arith}
use Rattle.std.specs.Prelude.{nat_eq}
use Rattle.std.proofs.lemmas.Grind.{common_steps}
use Rattle.std.proofs.lemmas.Bool.{eqb-true}
use Rattle.place_text.specs.declared.place.Place.{Place}
use Rattle.fir_types.specs.declared.fir_type.FirType.{FirType, ind-FirType, the_lemmas}
use Rattle.fir_types.specs.declared.fir_type.Shape.{Shape}
use Rattle.fir_types.specs.declared.fir_type.Shape.TheOpen.{Shape-F}
use Rattle.fir_types.specs.declared.fir_type.Shape.TheFolds.{map-Shape}
use Rattle.fir_types.specs.declared.fir_type.Shape.TheViews.{roll-Shape, roll-Field, roll-FirType, out-Shape}
use Rattle.fir_types.specs.declared.fir_type.Shape.TheVariants as shape
use Rattle.fir_types.specs.declared.fir_type.Shape.TheVariants.{rolls-Unsigned, rolls-Signed, rolls-Clock, rolls-Reset, rolls-AsyncReset, rolls-Bundle, rolls-Vector}
use Rattle.fir_types.specs.declared.fir_type.Field.{Field, fold-Field}
use Rattle.fir_types.specs.Equivalence.{Equivalent, IsUnsigned, IsSigned, SameFields, unsigned, signed, clocks, asyncs, vectors, bundles, no_fields, same_field, a_uint, a_reset, a_sint}
use Rattle.fir_tree.proofs.Shapes.{ShapeCase, shape_uint, shape_sint, shape_clock, shape_reset, shape_async, shape_bundle, shape_vector, case_of}
use Rattle.type_check.specs.Texts.{are_equivalent, all_take, shape_takes, field_takes, same_flip, is_unsigned_layer, is_signed_layer}
use Rattle.fir_tree.specs.Kinds.{is_clock_layer, is_async_layer}

-- the answer, layer by layer

abbrev field_same : Field → Field → Bool
field_same f g = nat_eq f.name.id g.name.id && (same_flip f.flip g.flip && are_equivalent f.typ g.typ)

abbrev fields_same : List Field → List Field → Bool
fields_same [] [] = true
fields_same [] (g ∷ gs) = false
fields_same (f ∷ fs) [] = false
fields_same (f ∷ fs) (g ∷ gs) = field_same f g && fields_same fs gs

abbrev takes : Field → Field → Bool
takes = fold-Field (Shape → Bool) (Field → Bool) (FirType → Bool) shape_takes field_takes (λ t other. t.shape other.shape)

takes-field : (f g : Field) → takes f g ≡ field_same f g
takes-field f g = grind (arith, common_steps, the_lemmas)

takes-fields : (fs gs : List Field) → all_take (map takes fs) gs ≡ fields_same fs gs
takes-fields [] [] = refl
takes-fields [] (g ∷ gs) = refl
takes-fields (f ∷ fs) [] = refl
takes-fields (f ∷ fs) (g ∷ gs) = let a = takes-field f g in let b = takes-fields fs gs in cc

of-unsigned : (l r : FirType) (w : Option ℕ) → l.shape ≡ shape.Unsigned w → are_equivalent l r ≡ is_unsigned_layer (out-Shape r.shape)
of-unsigned l r w e = grind (arith, common_steps, the_lemmas)

of-reset : (l r : FirType) → l.shape ≡ shape.Reset → are_equivalent l r ≡ is_unsigned_layer (out-Shape r.shape)
of-reset l r e = grind (arith, common_steps, the_lemmas)

of-async : (l r : FirType) → l.shape ≡ shape.AsyncReset → are_equivalent l r ≡ is_async_layer (out-Shape r.shape)
of-async l r e = grind (arith, common_steps, the_lemmas)

of-signed : (l r : FirType) (w : Option ℕ) → l.shape ≡ shape.Signed w → are_equivalent l r ≡ is_signed_layer (out-Shape r.shape)
of-signed l r w e = grind (arith, common_steps, the_lemmas)

of-clock : (l r : FirType) → l.shape ≡ shape.Clock → are_equivalent l r ≡ is_clock_layer (out-Shape r.shape)
of-clock l r e = grind (arith, common_steps, the_lemmas)

of-vectors : (l r e o : FirType) (n m : ℕ) → l.shape ≡ shape.Vector e n → r.shape ≡ shape.Vector o m → are_equivalent l r ≡ (nat_eq n m && are_equivalent e o)
of-vectors l r e o n m h k = grind (arith, common_steps, the_lemmas)

of-bundles : (l r : FirType) (fs gs : List Field) → l.shape ≡ shape.Bundle fs → r.shape ≡ shape.Bundle gs → are_equivalent l r ≡ fields_same fs gs
of-bundles l r fs gs h k = let e = takes-fields fs gs in grind (arith, common_steps, the_lemmas, e)

-- what is equivalent is answered with yes

unsigned_layer : {t : FirType} → IsUnsigned t → is_unsigned_layer (out-Shape t.shape) ≡ true
unsigned_layer {t} (a_uint w e) = grind (arith, common_steps, the_lemmas)
unsigned_layer {t} (a_reset e) = grind (arith, common_steps, the_lemmas)

signed_layer : {t : FirType} → IsSigned t → is_signed_layer (out-Shape t.shape) ≡ true
signed_layer {t} (a_sint w e) = grind (arith, common_steps, the_lemmas)

clock_layer : (t : FirType) → t.shape ≡ shape.Clock → is_clock_layer (out-Shape t.shape) ≡ true
clock_layer t e = grind (arith, common_steps, the_lemmas)

async_layer : (t : FirType) → t.shape ≡ shape.AsyncReset → is_async_layer (out-Shape t.shape) ≡ true
async_layer t e = grind (arith, common_steps, the_lemmas)

unsigned_yes : {l r : FirType} → IsUnsigned l → IsUnsigned r → are_equivalent l r ≡ true
unsigned_yes {l} {r} (a_uint w e) v = of-unsigned l r w e ∙ unsigned_layer v
unsigned_yes {l} {r} (a_reset e) v = of-reset l r e ∙ unsigned_layer v

signed_yes : {l r : FirType} → IsSigned l → IsSigned r → are_equivalent l r ≡ true
signed_yes {l} {r} (a_sint w e) v = of-signed l r w e ∙ signed_layer v

same_flip_yes : (a b : Bool) → a ≡ b → same_flip a b ≡ true
same_flip_yes true true e = refl
same_flip_yes true false e = absurd cc
same_flip_yes false true e = absurd cc
same_flip_yes false false e = refl

both_yes : {a b : Bool} → a ≡ true → b ≡ true → (a && b) ≡ true
both_yes p q = cc

mutual
  pub yes : {l r : FirType} → Equivalent l r → are_equivalent l r ≡ true
  yes (unsigned u v) = unsigned_yes u v
  yes (signed u v) = signed_yes u v
  yes {l} {r} (clocks u v) = of-clock l r u ∙ clock_layer r v
  yes {l} {r} (asyncs u v) = of-async l r u ∙ async_layer r v
  yes {l} {r} (vectors e o n u v q) = of-vectors l r e o n n u v ∙ both_yes (grind (arith, common_steps)) (yes q)
  yes {l} {r} (bundles fs gs u v q) = of-bundles l r fs gs u v ∙ fields_yes q

  fields_yes : {fs gs : List Field} → SameFields fs gs → fields_same fs gs ≡ true
  fields_yes no_fields = refl
  fields_yes (same_field {field = f} {other = g} a b q rest) =
      both_yes (both_yes (grind (arith, common_steps)) (both_yes (same_flip_yes f.flip g.flip b) (yes q))) (fields_yes rest)

-- what is answered with yes is equivalent

same_flip_is : (a b : Bool) → same_flip a b ≡ true → a ≡ b
same_flip_is true true e = refl
same_flip_is true false e = absurd cc
same_flip_is false true e = absurd cc
same_flip_is false false e = refl

first_yes : (a b : Bool) → (a && b) ≡ true → a ≡ true
first_yes true b e = refl
first_yes false b e = absurd cc

second_yes : (a b : Bool) → (a && b) ≡ true → b ≡ true
second_yes true b e = e
second_yes false b e = absurd cc

abbrev ShapeIs : Shape → Type 0
ShapeIs s = (place : Place) (other : FirType) → are_equivalent (record { place = place; shape = s }) other ≡ true → Equivalent (record { place = place; shape = s }) other

abbrev Is : FirType → Type 0
Is t = (other : FirType) → are_equivalent t other ≡ true → Equivalent t other

abbrev FieldIs : Field → Type 0
FieldIs f = Is f.typ

is_unsigned_by : (r : FirType) → ShapeCase r.shape → is_unsigned_layer (out-Shape r.shape) ≡ true → IsUnsigned r
is_unsigned_by r (shape_uint w e) y = a_uint w e
is_unsigned_by r (shape_reset e) y = a_reset e
is_unsigned_by r (shape_async e) y = absurd (grind (arith, common_steps, the_lemmas))
is_unsigned_by r (shape_sint w e) y = absurd (grind (arith, common_steps, the_lemmas))
is_unsigned_by r (shape_clock e) y = absurd (grind (arith, common_steps, the_lemmas))
is_unsigned_by r (shape_bundle fs e) y = absurd (grind (arith, common_steps, the_lemmas))
is_unsigned_by r (shape_vector o n e) y = absurd (grind (arith, common_steps, the_lemmas))

is_signed_by : (r : FirType) → ShapeCase r.shape → is_signed_layer (out-Shape r.shape) ≡ true → IsSigned r
is_signed_by r (shape_sint w e) y = a_sint w e
is_signed_by r (shape_uint w e) y = absurd (grind (arith, common_steps, the_lemmas))
is_signed_by r (shape_reset e) y = absurd (grind (arith, common_steps, the_lemmas))
is_signed_by r (shape_async e) y = absurd (grind (arith, common_steps, the_lemmas))
is_signed_by r (shape_clock e) y = absurd (grind (arith, common_steps, the_lemmas))
is_signed_by r (shape_bundle fs e) y = absurd (grind (arith, common_steps, the_lemmas))
is_signed_by r (shape_vector o n e) y = absurd (grind (arith, common_steps, the_lemmas))

is_clock_by : (r : FirType) → ShapeCase r.shape → is_clock_layer (out-Shape r.shape) ≡ true → r.shape ≡ shape.Clock
is_clock_by r (shape_clock e) y = e
is_clock_by r (shape_uint w e) y = absurd (grind (arith, common_steps, the_lemmas))
is_clock_by r (shape_sint w e) y = absurd (grind (arith, common_steps, the_lemmas))
is_clock_by r (shape_reset e) y = absurd (grind (arith, common_steps, the_lemmas))
is_clock_by r (shape_async e) y = absurd (grind (arith, common_steps, the_lemmas))
is_clock_by r (shape_bundle fs e) y = absurd (grind (arith, common_steps, the_lemmas))
is_clock_by r (shape_vector o n e) y = absurd (grind (arith, common_steps, the_lemmas))

is_async_by : (r : FirType) → ShapeCase r.shape → is_async_layer (out-Shape r.shape) ≡ true → r.shape ≡ shape.AsyncReset
is_async_by r (shape_async e) y = e
is_async_by r (shape_uint w e) y = absurd (grind (arith, common_steps, the_lemmas))
is_async_by r (shape_sint w e) y = absurd (grind (arith, common_steps, the_lemmas))
is_async_by r (shape_clock e) y = absurd (grind (arith, common_steps, the_lemmas))
is_async_by r (shape_reset e) y = absurd (grind (arith, common_steps, the_lemmas))
is_async_by r (shape_bundle fs e) y = absurd (grind (arith, common_steps, the_lemmas))
is_async_by r (shape_vector o n e) y = absurd (grind (arith, common_steps, the_lemmas))

vector_by : (l r e : FirType) (n : ℕ) → l.shape ≡ shape.Vector e n → Is e → ShapeCase r.shape → are_equivalent l r ≡ true → Equivalent l r
vector_by l r e n h is (shape_vector o m k) y =
    let both = sym (of-vectors l r e o n m h k) ∙ y in
    let same : n ≡ m = eqb-true n m (first_yes (nat_eq n m) (are_equivalent e o) both) in
    vectors e o n h (k ∙ ap (shape.Vector o) (sym same)) (is o (second_yes (nat_eq n m) (are_equivalent e o) both))
vector_by l r e n h is (shape_uint w k) y = absurd (grind (arith, common_steps, the_lemmas))
vector_by l r e n h is (shape_sint w k) y = absurd (grind (arith, common_steps, the_lemmas))
vector_by l r e n h is (shape_clock k) y = absurd (grind (arith, common_steps, the_lemmas))
vector_by l r e n h is (shape_reset k) y = absurd (grind (arith, common_steps, the_lemmas))
vector_by l r e n h is (shape_async k) y = absurd (grind (arith, common_steps, the_lemmas))
vector_by l r e n h is (shape_bundle gs k) y = absurd (grind (arith, common_steps, the_lemmas))

fields_are : (ps : List ((f : Field) × FieldIs f)) (gs : List Field) → fields_same (map (λ e. e.0) ps) gs ≡ true → SameFields (map (λ e. e.0) ps) gs
fields_are [] [] y = no_fields
fields_are [] (g ∷ gs) y = absurd cc
fields_are (p ∷ ps) [] y = absurd cc
fields_are (p ∷ ps) (g ∷ gs) y =
    let f : Field = p.0 in
    let here : field_same f g ≡ true = first_yes (field_same f g) (fields_same (map (λ e. e.0) ps) gs) y in
    let rest = second_yes (nat_eq f.name.id g.name.id) (same_flip f.flip g.flip && are_equivalent f.typ g.typ) here in
    same_field (eqb-true f.name.id g.name.id (first_yes (nat_eq f.name.id g.name.id) (same_flip f.flip g.flip && are_equivalent f.typ g.typ) here))
    (same_flip_is f.flip g.flip (first_yes (same_flip f.flip g.flip) (are_equivalent f.typ g.typ) rest))
    (p.1 g.typ (second_yes (same_flip f.flip g.flip) (are_equivalent f.typ g.typ) rest))
    (fields_are ps gs (second_yes (field_same f g) (fields_same (map (λ e. e.0) ps) gs) y))

bundle_by : (l r : FirType) (ps : List ((f : Field) × FieldIs f)) → l.shape ≡ shape.Bundle (map (λ e. e.0) ps) → ShapeCase r.shape → are_equivalent l r ≡ true → Equivalent l r
bundle_by l r ps h (shape_bundle gs k) y =
    let fs : List Field = map (λ e. e.0) ps in
    bundles fs gs h k (fields_are ps gs (sym (of-bundles l r fs gs h k) ∙ y))
bundle_by l r ps h (shape_uint w k) y = absurd (grind (arith, common_steps, the_lemmas))
bundle_by l r ps h (shape_sint w k) y = absurd (grind (arith, common_steps, the_lemmas))
bundle_by l r ps h (shape_clock k) y = absurd (grind (arith, common_steps, the_lemmas))
bundle_by l r ps h (shape_reset k) y = absurd (grind (arith, common_steps, the_lemmas))
bundle_by l r ps h (shape_async k) y = absurd (grind (arith, common_steps, the_lemmas))
bundle_by l r ps h (shape_vector o m k) y = absurd (grind (arith, common_steps, the_lemmas))

shape_is : (y : Shape-F ((s : Shape) × ShapeIs s) ((f : Field) × FieldIs f) ((t : FirType) × Is t))
    → ShapeIs (roll-Shape (map-Shape _ _ _ Shape Field FirType (λ e. e.0) (λ e. e.0) (λ e. e.0) y))
shape_is (Shape-F.Unsigned w) = subst ShapeIs (sym (rolls-Unsigned w)) (λ place r y.
    unsigned (a_uint w refl) (is_unsigned_by r (case_of r.shape) (sym (of-unsigned (record { place = place; shape = shape.Unsigned w }) r w refl) ∙ y)))
shape_is (Shape-F.Signed w) = subst ShapeIs (sym (rolls-Signed w)) (λ place r y.
    signed (a_sint w refl) (is_signed_by r (case_of r.shape) (sym (of-signed (record { place = place; shape = shape.Signed w }) r w refl) ∙ y)))
shape_is Shape-F.Clock = subst ShapeIs (sym rolls-Clock) (λ place r y.
    clocks refl (is_clock_by r (case_of r.shape) (sym (of-clock (record { place = place; shape = shape.Clock }) r refl) ∙ y)))
shape_is Shape-F.Reset = subst ShapeIs (sym rolls-Reset) (λ place r y.
    unsigned (a_reset refl) (is_unsigned_by r (case_of r.shape) (sym (of-reset (record { place = place; shape = shape.Reset }) r refl) ∙ y)))
shape_is Shape-F.AsyncReset = subst ShapeIs (sym rolls-AsyncReset) (λ place r y.
    asyncs refl (is_async_by r (case_of r.shape) (sym (of-async (record { place = place; shape = shape.AsyncReset }) r refl) ∙ y)))
shape_is (Shape-F.Bundle fields) =
    let fs : List Field = map (λ e. e.0) fields in
    subst ShapeIs (sym (rolls-Bundle fs)) (λ place r y. bundle_by (record { place = place; shape = shape.Bundle fs }) r fields refl (case_of r.shape) y)
shape_is (Shape-F.Vector element n) = subst ShapeIs (sym (rolls-Vector element.0 n)) (λ place r y.
    vector_by (record { place = place; shape = shape.Vector element.0 n }) r element.0 n refl element.1 (case_of r.shape) y)

pub is_equivalent : (left right : FirType) → are_equivalent left right ≡ true → Equivalent left right
is_equivalent = ind-FirType ShapeIs FieldIs Is
    (λ x y is. subst (λ z. ShapeIs (roll-Shape z)) is (shape_is y))
    (λ x y is. subst (λ z. FieldIs (roll-Field z)) is y.typ.1)
    (λ x y is. subst (λ z. Is (roll-FirType z)) is (y.shape.1 y.place))

-- two answers with yes exactly where the same holds are one
pub same_answer : {P : Type 0} (a b : Bool) → (a ≡ true → P) → (P → a ≡ true) → (b ≡ true → P) → (P → b ≡ true) → a ≡ b
same_answer true true f g h k = refl
same_answer true false f g h k = sym (k (f refl))
same_answer false true f g h k = g (h refl)
same_answer false false f g h k = refl
