-- Numbers of types that are made from those of their parts.
use Rattle.std.proofs.Common.{◌≡◌, ℕ, suc, ◌+◌, ◌<◌, Bool, true, false, List, [], ◌∷◌, ◌++◌, map, length, take, drop, get_or, drop-cons, refl, sym, ap, ◌∙◌, subst, arith, ◌⊎◌, inl, inr}
use Rattle.std.specs.Prelude.{Option, Some, None, IfSome}
use Rattle.fir_types.specs.declared.fir_type.Shape.{Shape}
use Rattle.std.proofs.lemmas.Grind.{common_steps}
use Rattle.std.proofs.lemmas.List.{take_more, map-append, drop_all}
use Rattle.place_text.specs.declared.place.Place.{Place}
use Rattle.fir_types.specs.declared.fir_type.FirType.{FirType, the_lemmas}
use Rattle.fir_types.specs.declared.fir_type.Shape.TheVariants as shape
use Rattle.fir_types.specs.declared.fir_type.Field.{Field}
use Rattle.fir_types.specs.Bundles.{mask_of, mask_of_field}
use Rattle.fir_types.specs.Equivalence.{a_uint, a_reset, a_sint}
use Rattle.fir_types.specs.Runs.{within}
use Rattle.fir_types.proofs.Runs.{within_last}
use Rattle.type_index.specs.declared.keys.FieldPart.{FieldPart}
use Rattle.type_index.specs.Numbers.{Table, vector_number, field_number, HasNumber, HaveNumber, as_unsigned, as_signed, as_clock, as_async, as_vector, as_bundle, as_empty, as_fields}
use Rattle.type_index.specs.Masks.{masked, masked_field}
use Rattle.type_index.specs.Parts.{AreParts, no_parts, one_part}

-- the shape of a mask

mask-bundle : (t : FirType) (fs : List Field) → t.shape ≡ shape.Bundle fs → (mask_of t).shape ≡ shape.Bundle (map mask_of_field fs)
mask-bundle t fs e = grind (arith, common_steps, the_lemmas)

mask-vector : (t e : FirType) (n : ℕ) → t.shape ≡ shape.Vector e n → (mask_of t).shape ≡ shape.Vector (mask_of e) n
mask-vector t e n h = grind (arith, common_steps, the_lemmas)

mask-unsigned : (t : FirType) (w : Option ℕ) → t.shape ≡ shape.Unsigned w → (mask_of t).shape ≡ shape.Unsigned (Some 1)
mask-unsigned t w h = grind (arith, common_steps, the_lemmas)

mask-signed : (t : FirType) (w : Option ℕ) → t.shape ≡ shape.Signed w → (mask_of t).shape ≡ shape.Unsigned (Some 1)
mask-signed t w h = grind (arith, common_steps, the_lemmas)

mask-clock : (t : FirType) → t.shape ≡ shape.Clock → (mask_of t).shape ≡ shape.Unsigned (Some 1)
mask-clock t h = grind (arith, common_steps, the_lemmas)

mask-reset : (t : FirType) → t.shape ≡ shape.Reset → (mask_of t).shape ≡ shape.Unsigned (Some 1)
mask-reset t h = grind (arith, common_steps, the_lemmas)

mask-async : (t : FirType) → t.shape ≡ shape.AsyncReset → (mask_of t).shape ≡ shape.Unsigned (Some 1)
mask-async t h = grind (arith, common_steps, the_lemmas)

mask-field : (f : Field) → mask_of_field f ≡ record { flip = f.flip; name = f.name; typ = mask_of f.typ }
mask-field f = grind (arith, common_steps, the_lemmas)

masked-bundle : (mask : Bool) (t : FirType) (fs : List Field) → t.shape ≡ shape.Bundle fs → (masked mask t).shape ≡ shape.Bundle (map (masked_field mask) fs)
masked-bundle true t fs e = mask-bundle t fs e
masked-bundle false t fs e = e ∙ ap shape.Bundle (sym (same fs))
  where
    same : (fs : List Field) → map (masked_field false) fs ≡ fs
    same [] = refl
    same (f ∷ fs) = ap (λ l. f ∷ l) (same fs)

masked-vector : (mask : Bool) (t e : FirType) (n : ℕ) → t.shape ≡ shape.Vector e n → (masked mask t).shape ≡ shape.Vector (masked mask e) n
masked-vector true t e n h = mask-vector t e n h
masked-vector false t e n h = h

-- types

pub unsigned_number : (table : Table) (mask : Bool) (t : FirType) (w : Option ℕ) → t.shape ≡ shape.Unsigned w → HasNumber table (masked mask t) 0
unsigned_number table true t w h = as_unsigned (a_uint (Some 1) (mask-unsigned t w h))
unsigned_number table false t w h = as_unsigned (a_uint w h)

pub reset_number : (table : Table) (mask : Bool) (t : FirType) → t.shape ≡ shape.Reset → HasNumber table (masked mask t) 0
reset_number table true t h = as_unsigned (a_uint (Some 1) (mask-reset t h))
reset_number table false t h = as_unsigned (a_reset h)

pub signed_number : (table : Table) (mask : Bool) (t : FirType) (w : Option ℕ) (n : ℕ) → t.shape ≡ shape.Signed w → (mask ≡ true → n ≡ 0) → (mask ≡ false → n ≡ 1)
    → HasNumber table (masked mask t) n
signed_number table true t w n h a b = subst (HasNumber table (mask_of t)) (sym (a refl)) (as_unsigned (a_uint (Some 1) (mask-signed t w h)))
signed_number table false t w n h a b = subst (HasNumber table t) (sym (b refl)) (as_signed (a_sint w h))

pub clock_number : (table : Table) (mask : Bool) (t : FirType) (n : ℕ) → t.shape ≡ shape.Clock → (mask ≡ true → n ≡ 0) → (mask ≡ false → n ≡ 2)
    → HasNumber table (masked mask t) n
clock_number table true t n h a b = subst (HasNumber table (mask_of t)) (sym (a refl)) (as_unsigned (a_uint (Some 1) (mask-clock t h)))
clock_number table false t n h a b = subst (HasNumber table t) (sym (b refl)) (as_clock h)

pub async_number : (table : Table) (mask : Bool) (t : FirType) (n : ℕ) → t.shape ≡ shape.AsyncReset → (mask ≡ true → n ≡ 0) → (mask ≡ false → n ≡ 4)
    → HasNumber table (masked mask t) n
async_number table true t n h a b = subst (HasNumber table (mask_of t)) (sym (a refl)) (as_unsigned (a_uint (Some 1) (mask-async t h)))
async_number table false t n h a b = subst (HasNumber table t) (sym (b refl)) (as_async h)

pub vector_has : (table : Table) (mask : Bool) (t e : FirType) (l inner n : ℕ) → t.shape ≡ shape.Vector e l → HasNumber table (masked mask e) inner
    → vector_number table (record { element = inner; length = l }) ≡ Some n → HasNumber table (masked mask t) n
vector_has table mask t e l inner n is h at = as_vector (masked mask e) l inner n (masked-vector mask t e l is) h at

pub bundle_has : (table : Table) (mask : Bool) (t : FirType) (fs : List Field) (n : ℕ) → t.shape ≡ shape.Bundle fs → HaveNumber table (map (masked_field mask) fs) n
    → HasNumber table (masked mask t) n
bundle_has table mask t fs n is hs = as_bundle (map (masked_field mask) fs) n (masked-bundle mask t fs is) hs

-- lengths around

abbrev around : Place × ℕ → FirType → FirType
around length typ = record { place = length.0; shape = shape.Vector typ length.1 }

abbrev pub Around : Table → List (Place × ℕ) → List (Place × ℕ) → ℕ → ℕ → Type 0
Around table lengths left innermost class =
    (mask : Bool) (typ : FirType) → HasNumber table (masked mask typ) innermost
    → (whole : FirType) × (within left whole ≡ within lengths typ) × HasNumber table (masked mask whole) class

pub around_begin : (table : Table) (lengths : List (Place × ℕ)) (innermost : ℕ) → Around table lengths lengths innermost innermost
around_begin table lengths innermost mask typ m = (typ, refl, m)

pub around_more : (table : Table) (lengths left after : List (Place × ℕ)) (last : Place × ℕ) (innermost inner class : ℕ) → left ≡ after ++ last ∷ []
    → vector_number table (record { element = inner; length = last.1 }) ≡ Some class → Around table lengths left innermost inner → Around table lengths after innermost class
around_more table lengths left after last innermost inner class is at h mask typ m =
    let r = h mask typ m in (
      around last r.0,
      sym (within_last after last r.0) ∙ ap (λ l. within l r.0) (sym is) ∙ r.1,
      vector_has table mask (around last r.0) r.0 last.1 inner class refl r.2 at,
    )

pub around_end : (table : Table) (lengths left : List (Place × ℕ)) (innermost class : ℕ) → left ≡ [] → Around table lengths left innermost class
    → (mask : Bool) (typ : FirType) → HasNumber table (masked mask typ) innermost → HasNumber table (masked mask (within lengths typ)) class
around_end table lengths left innermost class is h mask typ m =
    let r = h mask typ m in
    subst (λ t. HasNumber table (masked mask t) class) (sym (ap (λ l. within l r.0) is) ∙ r.1) r.2

-- fields

parts_push : {table : Table} {fs : List Field} {ps : List FieldPart} (f : Field) (p : FieldPart) → AreParts table fs ps → f.name.id ≡ p.name → f.flip ≡ p.flip
    → HasNumber table f.typ p.class → AreParts table (fs ++ f ∷ []) (ps ++ p ∷ [])
parts_push f p no_parts a b h = one_part a b h no_parts
parts_push f p (one_part x y k rest) a b h = one_part x y k (parts_push f p rest a b h)

same_names : (mask : Bool) (f : Field) → ((masked_field mask f).name ≡ f.name) × ((masked_field mask f).flip ≡ f.flip) × ((masked_field mask f).typ ≡ masked mask f.typ)
same_names true f = (ap (λ (x : Field). x.name) (mask-field f), ap (λ (x : Field). x.flip) (mask-field f), ap (λ (x : Field). x.typ) (mask-field f))
same_names false f = (refl, refl, refl)

-- one more field
pub parts_more : (table : Table) (mask : Bool) (fs : List Field) (i : ℕ) (f : Field) (ps after : List FieldPart) (p : FieldPart) → i < length fs → f ≡ get_or fs i f
    → AreParts table (map (masked_field mask) (take i fs)) ps → f.name.id ≡ p.name → f.flip ≡ p.flip → HasNumber table (masked mask f.typ) p.class → after ≡ ps ++ p ∷ []
    → AreParts table (map (masked_field mask) (take (i + 1) fs)) after
parts_more table mask fs i f ps after p lt is h a b k e =
    let s = same_names mask f in
    subst (λ l. AreParts table l after)
    (sym (ap (map (masked_field mask)) (take_more fs i f lt ∙ ap (λ x. take i fs ++ x ∷ []) (sym is)) ∙ map-append (masked_field mask) (take i fs) (f ∷ [])))
    (subst (AreParts table (map (masked_field mask) (take i fs) ++ masked_field mask f ∷ [])) (sym e)
    (parts_push (masked_field mask f) p h (ap (λ n. n.id) s.0 ∙ a) (s.1 ∙ b) (subst (λ t. HasNumber table t p.class) (sym s.2) k)))

-- one more field before others

pub have_more : (table : Table) (p : FieldPart) (ps : List FieldPart) (after n : ℕ) → ((fields : List Field) → AreParts table fields ps → HaveNumber table fields after)
    → field_number table (record { name = p.name; flip = p.flip; class = p.class; after = after }) ≡ Some n
    → (fields : List Field) → AreParts table fields (p ∷ ps) → HaveNumber table fields n
have_more table p ps after n h at fields (one_part {field = f} a b k rest) =
    as_fields p.class after n k (h _ rest)
    (subst (λ i. field_number table (record { name = i; flip = f.flip; class = p.class; after = after }) ≡ Some n) (sym a)
    (subst (λ i. field_number table (record { name = p.name; flip = i; class = p.class; after = after }) ≡ Some n) (sym b) at))

pub have_none : (table : Table) (ps : List FieldPart) → ps ≡ [] → (fields : List Field) → AreParts table fields ps → HaveNumber table fields 3
have_none table [] e fields no_parts = as_empty
have_none table (p ∷ ps) e fields h = absurd cc

pub have_before : (table : Table) (ps : List FieldPart) (j left after n : ℕ) (other : FieldPart) → suc j ≡ left → j < length ps
    → ((fields : List Field) → AreParts table fields (drop left ps) → HaveNumber table fields after)
    → field_number table (record { name = (get_or ps j other).name; flip = (get_or ps j other).flip; class = (get_or ps j other).class; after = after }) ≡ Some n
    → (fields : List Field) → AreParts table fields (drop j ps) → HaveNumber table fields n
have_before table ps j left after n other up lt h at fields parts =
    have_more table (get_or ps j other) (drop (suc j) ps) after n (subst (λ i. (fields : List Field) → AreParts table fields (drop i ps) → HaveNumber table fields after) (sym up) h) at fields
    (subst (AreParts table fields) (drop-cons ps j other lt) parts)

pub have_all : (table : Table) (ps : List FieldPart) (fields : List Field) → AreParts table fields (drop (length ps) ps) → HaveNumber table fields 3
have_all table ps fields parts = have_none table (drop (length ps) ps) (drop_all (length ps) ps (omega arith)) fields parts

-- by the shape

pub unsigned_shape : (table : Table) (mask : Bool) (s : Shape) → ((w : Option ℕ) × (s ≡ shape.Unsigned w)) ⊎ (s ≡ shape.Reset) → (t : FirType) → t.shape ≡ s
    → HasNumber table (masked mask t) 0
unsigned_shape table mask s (inl (w, e)) t is = unsigned_number table mask t w (is ∙ e)
unsigned_shape table mask s (inr e) t is = reset_number table mask t (is ∙ e)

pub bundle_shape : (table : Table) (mask : Bool) (s : Shape) (fs : List Field) (ps : List FieldPart) (number : Option ℕ) → s ≡ shape.Bundle fs
    → AreParts table (map (masked_field mask) fs) ps → IfSome number (λ n. (fields : List Field) → AreParts table fields ps → HaveNumber table fields n)
    → IfSome number (λ n. (t : FirType) → t.shape ≡ s → HasNumber table (masked mask t) n)
bundle_shape table mask s fs ps (Some n) e h k = λ t is. bundle_has table mask t fs n (is ∙ e) (k (map (masked_field mask) fs) h)
bundle_shape table mask s fs ps None e h k = tt

pub vector_shape : (table : Table) (mask : Bool) (s : Shape) (e : FirType) (l inner : ℕ) (number : Option ℕ) → s ≡ shape.Vector e l → HasNumber table (masked mask e) inner
    → number ≡ vector_number table (record { element = inner; length = l }) → IfSome number (λ n. (t : FirType) → t.shape ≡ s → HasNumber table (masked mask t) n)
vector_shape table mask s e l inner (Some n) at h k = λ t is. vector_has table mask t e l inner n (is ∙ at) h (sym k)
vector_shape table mask s e l inner None at h k = tt
