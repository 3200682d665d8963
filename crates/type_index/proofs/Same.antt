-- Types that have numbers have the same one exactly where they are equivalent, and the numbers of parts are those of their types.
use Rattle.std.proofs.Common.{◌≡◌, ℕ, ◌≤◌, Bool, true, false, List, refl, sym, ap, ◌∙◌, subst, arith}
use Rattle.std.specs.Prelude.{Option, Some, None, IfSome, cond, find, nat_eq, ◌==◌}
use Rattle.std.specs.Map.{lookup}
use Rattle.std.proofs.Math.Logic.{∥∥₁_elim}
use Rattle.std.proofs.lemmas.Grind.{common_steps}
use Rattle.std.proofs.lemmas.Bool.{eqb-true, eq-eqb, false_from_ne_true}
use Rattle.fir_types.specs.declared.fir_type.FirType.{FirType, the_lemmas}
use Rattle.fir_types.specs.declared.fir_type.Shape.TheVariants as shape
use Rattle.fir_types.specs.declared.fir_type.Shape.TheViews.{out-Shape}
use Rattle.fir_types.specs.declared.fir_type.Field.{Field}
use Rattle.fir_types.specs.Equivalence.{Equivalent, IsUnsigned, IsSigned, SameFields, unsigned, signed, clocks, asyncs, vectors, bundles, no_fields, same_field, a_uint, a_reset, a_sint}
use Rattle.type_index.specs.declared.keys.VectorKey.{VectorKey}
use Rattle.type_index.specs.declared.keys.FieldKey.{FieldKey}
use Rattle.type_index.specs.declared.keys.FieldClasses.{FieldClasses}
use Rattle.type_index.specs.Numbers.{Table, vector_number, field_number, HasNumber, HaveNumber, as_unsigned, as_signed, as_clock, as_async, as_vector, as_bundle, as_empty, as_fields}
use Rattle.type_index.specs.Tables.{HasPart, here, behind, IsSound, FieldHas, ElementHas}

same_element : (e o : FirType) (n m : ℕ) → shape.Vector e n ≡ shape.Vector o m → e ≡ o
same_element e o n m h =
    let out : out-Shape (shape.Vector e n) ≡ out-Shape (shape.Vector o m) = ap out-Shape h in
    grind (arith, common_steps, the_lemmas)

same_length : (e o : FirType) (n m : ℕ) → shape.Vector e n ≡ shape.Vector o m → n ≡ m
same_length e o n m h = cc

same_list : (fs gs : List Field) → shape.Bundle fs ≡ shape.Bundle gs → fs ≡ gs
same_list fs gs h =
    let out : out-Shape (shape.Bundle fs) ≡ out-Shape (shape.Bundle gs) = ap out-Shape h in
    grind (arith, common_steps, the_lemmas)

same_some : (n m : ℕ) (o : Option ℕ) → o ≡ Some n → o ≡ Some m → n ≡ m
same_some n m o h k = by (sym h ∙ k)
  where
    by : Some n ≡ Some m → n ≡ m
    by e = cc

module _ {table : Table} {elements : List (ℕ × ℕ)} {fields : List (ℕ × FieldClasses)} {next : ℕ} (sound : IsSound table elements fields next) where
  from_three : {fs : List Field} {n : ℕ} → HaveNumber table fs n → 3 ≤ n
  from_three as_empty = omega arith
  from_three (as_fields {field = f} c a n h hs is) =
      let b : 5 ≤ n = (sound.bundles (record { name = f.name.id; flip = f.flip; class = c; after = a }) n is).0 in
      omega arith

  not_four : {fs : List Field} {n : ℕ} → HaveNumber table fs n → n ≡ 4 → ⊥
  not_four as_empty e = omega arith
  not_four (as_fields {field = f} c a n h hs is) e =
      let b : 5 ≤ n = (sound.bundles (record { name = f.name.id; flip = f.flip; class = c; after = a }) n is).0 in
      omega arith

  -- one number, equivalent types

  no_vector : {fs : List Field} {n : ℕ} (key : VectorKey) (m : ℕ) → vector_number table key ≡ Some m → HaveNumber table fs n → m ≡ n → ⊥
  no_vector key m is as_empty e = let b : 5 ≤ m = (sound.vectors key m is).0 in omega arith
  no_vector key m is (as_fields {field = f} c a n h hs at) e =
      sound.apart key (record { name = f.name.id; flip = f.flip; class = c; after = a }) n (subst (λ k. vector_number table key ≡ Some k) e is) at

  mutual
    pub equal_numbers : {t u : FirType} {n m : ℕ} → HasNumber table t n → HasNumber table u m → n ≡ m → Equivalent t u
    equal_numbers (as_unsigned a) (as_unsigned b) e = unsigned a b
    equal_numbers (as_unsigned a) (as_signed b) e = absurd (omega arith)
    equal_numbers (as_unsigned a) (as_clock b) e = absurd (omega arith)
    equal_numbers (as_unsigned a) (as_async b) e = absurd (omega arith)
    equal_numbers (as_unsigned a) (as_vector o l i m is h at) e =
        let b : 5 ≤ m = (sound.vectors (record { element = i; length = l }) m at).0 in absurd (omega arith)
    equal_numbers (as_unsigned a) (as_bundle gs m is hs) e = let b : 3 ≤ m = from_three hs in absurd (omega arith)
    equal_numbers (as_signed a) (as_unsigned b) e = absurd (omega arith)
    equal_numbers (as_signed a) (as_signed b) e = signed a b
    equal_numbers (as_signed a) (as_clock b) e = absurd (omega arith)
    equal_numbers (as_signed a) (as_async b) e = absurd (omega arith)
    equal_numbers (as_signed a) (as_vector o l i m is h at) e =
        let b : 5 ≤ m = (sound.vectors (record { element = i; length = l }) m at).0 in absurd (omega arith)
    equal_numbers (as_signed a) (as_bundle gs m is hs) e = let b : 3 ≤ m = from_three hs in absurd (omega arith)
    equal_numbers (as_clock a) (as_unsigned b) e = absurd (omega arith)
    equal_numbers (as_clock a) (as_signed b) e = absurd (omega arith)
    equal_numbers (as_clock a) (as_clock b) e = clocks a b
    equal_numbers (as_clock a) (as_async b) e = absurd (omega arith)
    equal_numbers (as_clock a) (as_vector o l i m is h at) e =
        let b : 5 ≤ m = (sound.vectors (record { element = i; length = l }) m at).0 in absurd (omega arith)
    equal_numbers (as_clock a) (as_bundle gs m is hs) e = let b : 3 ≤ m = from_three hs in absurd (omega arith)
    equal_numbers (as_async a) (as_unsigned b) e = absurd (omega arith)
    equal_numbers (as_async a) (as_signed b) e = absurd (omega arith)
    equal_numbers (as_async a) (as_clock b) e = absurd (omega arith)
    equal_numbers (as_async a) (as_async b) e = asyncs a b
    equal_numbers (as_async a) (as_vector o l i m is h at) e =
        let b : 5 ≤ m = (sound.vectors (record { element = i; length = l }) m at).0 in absurd (omega arith)
    equal_numbers (as_async a) (as_bundle gs m is hs) e = absurd (not_four hs (sym e))
    equal_numbers (as_vector o l i n is h at) (as_unsigned b) e =
        let b : 5 ≤ n = (sound.vectors (record { element = i; length = l }) n at).0 in absurd (omega arith)
    equal_numbers (as_vector o l i n is h at) (as_signed b) e =
        let b : 5 ≤ n = (sound.vectors (record { element = i; length = l }) n at).0 in absurd (omega arith)
    equal_numbers (as_vector o l i n is h at) (as_clock b) e =
        let b : 5 ≤ n = (sound.vectors (record { element = i; length = l }) n at).0 in absurd (omega arith)
    equal_numbers (as_vector o l i n is h at) (as_async b) e =
        let b : 5 ≤ n = (sound.vectors (record { element = i; length = l }) n at).0 in absurd (omega arith)
    equal_numbers {u = u} (as_vector o l i n is h at) (as_vector p k j m js g bt) e =
        let one : VectorKey = record { element = i; length = l } in
        let other : VectorKey = record { element = j; length = k } in
        let same : one ≡ other = sound.vectors_differ one other n at (subst (λ x. vector_number table other ≡ Some x) (sym e) bt) in
        vectors o p l is (subst (λ x. u.shape ≡ shape.Vector p x) (sym (ap (λ (x : VectorKey). x.length) same)) js)
        (equal_numbers h g (ap (λ (x : VectorKey). x.element) same))
    equal_numbers (as_vector o l i n is h at) (as_bundle gs m js hs) e = absurd (no_vector (record { element = i; length = l }) n at hs e)
    equal_numbers (as_bundle fs n is hs) (as_unsigned b) e = let b : 3 ≤ n = from_three hs in absurd (omega arith)
    equal_numbers (as_bundle fs n is hs) (as_signed b) e = let b : 3 ≤ n = from_three hs in absurd (omega arith)
    equal_numbers (as_bundle fs n is hs) (as_clock b) e = let b : 3 ≤ n = from_three hs in absurd (omega arith)
    equal_numbers (as_bundle fs n is hs) (as_async b) e = absurd (not_four hs e)
    equal_numbers (as_bundle fs n is hs) (as_vector o l i m js h at) e = absurd (no_vector (record { element = i; length = l }) m at hs (sym e))
    equal_numbers (as_bundle fs n is hs) (as_bundle gs m js ks) e = bundles fs gs is js (equal_fields hs ks e)

    equal_fields : {fs gs : List Field} {n m : ℕ} → HaveNumber table fs n → HaveNumber table gs m → n ≡ m → SameFields fs gs
    equal_fields as_empty as_empty e = no_fields
    equal_fields as_empty (as_fields {field = f} c a m h hs is) e =
        let b : 5 ≤ m = (sound.bundles (record { name = f.name.id; flip = f.flip; class = c; after = a }) m is).0 in absurd (omega arith)
    equal_fields (as_fields {field = f} c a n h hs is) as_empty e =
        let b : 5 ≤ n = (sound.bundles (record { name = f.name.id; flip = f.flip; class = c; after = a }) n is).0 in absurd (omega arith)
    equal_fields (as_fields {field = f} c a n h hs is) (as_fields {field = g} d b m k ks at) e =
        let one : FieldKey = record { name = f.name.id; flip = f.flip; class = c; after = a } in
        let other : FieldKey = record { name = g.name.id; flip = g.flip; class = d; after = b } in
        let same : one ≡ other = sound.bundles_differ one other n is (subst (λ x. field_number table other ≡ Some x) (sym e) at) in
        same_field (ap (λ (x : FieldKey). x.name) same) (ap (λ (x : FieldKey). x.flip) same) (equal_numbers h k (ap (λ (x : FieldKey). x.class) same))
        (equal_fields hs ks (ap (λ (x : FieldKey). x.after) same))

  -- the numbers of types of known shapes

  of_unsigned : {t : FirType} {n : ℕ} → IsUnsigned t → HasNumber table t n → n ≡ 0
  of_unsigned u (as_unsigned v) = refl
  of_unsigned (a_uint w e) (as_signed (a_sint v f)) = absurd cc
  of_unsigned (a_reset e) (as_signed (a_sint v f)) = absurd cc
  of_unsigned (a_uint w e) (as_clock f) = absurd cc
  of_unsigned (a_reset e) (as_clock f) = absurd cc
  of_unsigned (a_uint w e) (as_async f) = absurd cc
  of_unsigned (a_reset e) (as_async f) = absurd cc
  of_unsigned (a_uint w e) (as_vector o l i n f h at) = absurd cc
  of_unsigned (a_reset e) (as_vector o l i n f h at) = absurd cc
  of_unsigned (a_uint w e) (as_bundle fs n f hs) = absurd cc
  of_unsigned (a_reset e) (as_bundle fs n f hs) = absurd cc

  of_signed : {t : FirType} {n : ℕ} → IsSigned t → HasNumber table t n → n ≡ 1
  of_signed u (as_signed v) = refl
  of_signed (a_sint w e) (as_unsigned (a_uint v f)) = absurd cc
  of_signed (a_sint w e) (as_unsigned (a_reset f)) = absurd cc
  of_signed (a_sint w e) (as_clock f) = absurd cc
  of_signed (a_sint w e) (as_async f) = absurd cc
  of_signed (a_sint w e) (as_vector o l i n f h at) = absurd cc
  of_signed (a_sint w e) (as_bundle fs n f hs) = absurd cc

  of_clock : {t : FirType} {n : ℕ} → t.shape ≡ shape.Clock → HasNumber table t n → n ≡ 2
  of_clock e (as_clock f) = refl
  of_clock e (as_unsigned (a_uint v f)) = absurd cc
  of_clock e (as_unsigned (a_reset f)) = absurd cc
  of_clock e (as_signed (a_sint v f)) = absurd cc
  of_clock e (as_vector o l i n f h at) = absurd cc
  of_clock e (as_bundle fs n f hs) = absurd cc
  of_clock e (as_async f) = absurd cc

  of_async : {t : FirType} {n : ℕ} → t.shape ≡ shape.AsyncReset → HasNumber table t n → n ≡ 4
  of_async e (as_async f) = refl
  of_async e (as_unsigned (a_uint v f)) = absurd cc
  of_async e (as_unsigned (a_reset f)) = absurd cc
  of_async e (as_signed (a_sint v f)) = absurd cc
  of_async e (as_clock f) = absurd cc
  of_async e (as_vector o l i n f h at) = absurd cc
  of_async e (as_bundle fs n f hs) = absurd cc

  of_vector : {t : FirType} {n : ℕ} (e : FirType) (l : ℕ) → t.shape ≡ shape.Vector e l → HasNumber table t n
      → (i : ℕ) × HasNumber table e i × (vector_number table (record { element = i; length = l }) ≡ Some n)
  of_vector {n = n} e l is (as_vector o k i m js h at) = (
    i,
    subst (λ x. HasNumber table x i) (same_element o e k l (sym js ∙ is)) h,
    subst (λ x. vector_number table (record { element = i; length = x }) ≡ Some n) (same_length o e k l (sym js ∙ is)) at,
  )
  of_vector e l is (as_unsigned (a_uint v f)) = absurd cc
  of_vector e l is (as_unsigned (a_reset f)) = absurd cc
  of_vector e l is (as_signed (a_sint v f)) = absurd cc
  of_vector e l is (as_clock f) = absurd cc
  of_vector e l is (as_async f) = absurd cc
  of_vector e l is (as_bundle fs n f hs) = absurd cc

  of_bundle : {t : FirType} {n : ℕ} (fs : List Field) → t.shape ≡ shape.Bundle fs → HasNumber table t n → HaveNumber table fs n
  of_bundle {n = n} fs is (as_bundle gs m js hs) = subst (λ x. HaveNumber table x n) (same_list gs fs (sym js ∙ is)) hs
  of_bundle fs is (as_unsigned (a_uint v f)) = absurd cc
  of_bundle fs is (as_unsigned (a_reset f)) = absurd cc
  of_bundle fs is (as_signed (a_sint v f)) = absurd cc
  of_bundle fs is (as_clock f) = absurd cc
  of_bundle fs is (as_async f) = absurd cc
  of_bundle fs is (as_vector o l i n f h at) = absurd cc

  -- equivalent types, one number

  mutual
    pub equivalent_numbers : {t u : FirType} {n m : ℕ} → Equivalent t u → HasNumber table t n → HasNumber table u m → n ≡ m
    equivalent_numbers (unsigned a b) h k = of_unsigned a h ∙ sym (of_unsigned b k)
    equivalent_numbers (signed a b) h k = of_signed a h ∙ sym (of_signed b k)
    equivalent_numbers (clocks a b) h k = of_clock a h ∙ sym (of_clock b k)
    equivalent_numbers (asyncs a b) h k = of_async a h ∙ sym (of_async b k)
    equivalent_numbers {n = n} {m = m} (vectors e o l is js q) h k =
        let a = of_vector e l is h in
        let b = of_vector o l js k in
        same_some n m (vector_number table (record { element = b.0; length = l }))
        (subst (λ i. vector_number table (record { element = i; length = l }) ≡ Some n) (equivalent_numbers q a.1 b.1) a.2) b.2
    equivalent_numbers (bundles fs gs is js q) h k = fields_numbers q (of_bundle fs is h) (of_bundle gs js k)

    fields_numbers : {fs gs : List Field} {n m : ℕ} → SameFields fs gs → HaveNumber table fs n → HaveNumber table gs m → n ≡ m
    fields_numbers no_fields as_empty as_empty = refl
    fields_numbers (same_field {field = f} {other = g} x y q r) (as_fields c a n h hs is) (as_fields d b m k ks at) =
        let key : ℕ → Bool → ℕ → ℕ → FieldKey = λ name flip class after. record { name = name; flip = flip; class = class; after = after } in
        same_some n m (field_number table (key g.name.id g.flip d b))
        (subst (λ i. field_number table (key i g.flip d b) ≡ Some n) x
        (subst (λ i. field_number table (key f.name.id i d b) ≡ Some n) y
        (subst (λ i. field_number table (key f.name.id f.flip i b) ≡ Some n) (equivalent_numbers q h k)
        (subst (λ i. field_number table (key f.name.id f.flip c i) ≡ Some n) (fields_numbers r hs ks) is)))) at

  -- the number of a part

  part_above : {n name class : ℕ} → HasPart table n name class → 5 ≤ n
  part_above {n} {name} {class} (here flip after is) = (sound.bundles (record { name = name; flip = flip; class = class; after = after }) n is).0
  part_above {n} (behind key is other rest) = (sound.bundles key n is).0

  part_apart : {n name class : ℕ} (key : VectorKey) → vector_number table key ≡ Some n → HasPart table n name class → ⊥
  part_apart {n} {name} {class} key at (here flip after is) = sound.apart key (record { name = name; flip = flip; class = class; after = after }) n at is
  part_apart {n} key at (behind k is other rest) = sound.apart key k n at is

  found_here : (b : Bool) (f : Field) (o : Option Field) → b ≡ true → cond b (Some f) o ≡ Some f
  found_here true f o h = refl
  found_here false f o h = absurd cc

  found_behind : (b : Bool) (f : Field) (o r : Option Field) → b ≡ false → o ≡ r → cond b (Some f) o ≡ r
  found_behind true f o r h e = absurd cc
  found_behind false f o r h e = e

  part_found : {fs : List Field} {n name class : ℕ} → HaveNumber table fs n → HasPart table n name class
      → (field : Field) × (find (λ f. f.name.id == name) fs ≡ Some field) × HasNumber table field.typ class
  part_found as_empty p = let b : 5 ≤ 3 = part_above p in absurd (omega arith)
  part_found {name = name} {class = class} (as_fields {field = f} {fields = fs} c a n h hs is) (here flip after at) =
      let one : FieldKey = record { name = f.name.id; flip = f.flip; class = c; after = a } in
      let other : FieldKey = record { name = name; flip = flip; class = class; after = after } in
      let same : one ≡ other = sound.bundles_differ one other n is at in (
        f,
        found_here (f.name.id == name) f (find (λ g. g.name.id == name) fs) (eq-eqb f.name.id name (ap (λ (x : FieldKey). x.name) same)),
        subst (λ i. HasNumber table f.typ i) (ap (λ (x : FieldKey). x.class) same) h,
      )
  part_found {name = name} {class = class} (as_fields {field = f} {fields = fs} c a n h hs is) (behind key at other rest) =
      let one : FieldKey = record { name = f.name.id; flip = f.flip; class = c; after = a } in
      let same : one ≡ key = sound.bundles_differ one key n is at in
      let r = part_found hs (subst (λ i. HasPart table i name class) (sym (ap (λ (x : FieldKey). x.after) same)) rest) in (
        r.0,
        found_behind (f.name.id == name) f (find (λ g. g.name.id == name) fs) (Some r.0)
            (false_from_ne_true (f.name.id == name) (λ e. other (sym (ap (λ (x : FieldKey). x.name) same) ∙ eqb-true f.name.id name e))) r.1,
        r.2,
      )

  pub field_has : {t : FirType} {n name class : ℕ} → HasNumber table t n → HasPart table n name class → FieldHas table t name class
  field_has (as_unsigned u) p = let b : 5 ≤ 0 = part_above p in absurd (omega arith)
  field_has (as_signed u) p = let b : 5 ≤ 1 = part_above p in absurd (omega arith)
  field_has (as_clock u) p = let b : 5 ≤ 2 = part_above p in absurd (omega arith)
  field_has (as_async u) p = let b : 5 ≤ 4 = part_above p in absurd (omega arith)
  field_has (as_vector e l i n is h at) p = absurd (part_apart (record { element = i; length = l }) at p)
  field_has (as_bundle fs n is hs) p = let r = part_found hs p in ∣ (r.0.typ, (fs, r.0, is, r.1, refl), r.2) ∣₁

  pub element_has : {t : FirType} {n : ℕ} (inner length : ℕ) → HasNumber table t n → vector_number table (record { element = inner; length = length }) ≡ Some n
      → ElementHas table t inner
  element_has i l (as_unsigned u) at = let b : 5 ≤ 0 = (sound.vectors (record { element = i; length = l }) 0 at).0 in absurd (omega arith)
  element_has i l (as_signed u) at = let b : 5 ≤ 1 = (sound.vectors (record { element = i; length = l }) 1 at).0 in absurd (omega arith)
  element_has i l (as_clock u) at = let b : 5 ≤ 2 = (sound.vectors (record { element = i; length = l }) 2 at).0 in absurd (omega arith)
  element_has i l (as_async u) at = let b : 5 ≤ 4 = (sound.vectors (record { element = i; length = l }) 4 at).0 in absurd (omega arith)
  element_has i l (as_vector e k j n is h bt) at =
      let one : VectorKey = record { element = j; length = k } in
      let other : VectorKey = record { element = i; length = l } in
      let same : one ≡ other = sound.vectors_differ one other n bt at in
      ∣ (e, (k, is), subst (λ x. HasNumber table e x) (ap (λ (x : VectorKey). x.element) same) h) ∣₁
  element_has i l (as_bundle fs n is hs) at = absurd (no_vector (record { element = i; length = l }) n at hs refl)

pub element_answer : (table : Table) (elements : List (ℕ × ℕ)) (fields : List (ℕ × FieldClasses)) (next class : ℕ) (found : Option ℕ) → ∥ IsSound table elements fields next ∥₁
    → found ≡ lookup (nat_eq class) elements → IfSome found (λ part. (typ : FirType) → HasNumber table typ class → ElementHas table typ part)
element_answer table elements fields next class (Some i) s e = λ typ h. ∥∥₁_elim s squash₁ (λ s. let x = s.elements' class i (sym e) in element_has s i x.0 h x.1)
element_answer table elements fields next class None s e = tt

pub field_answer : (table : Table) (elements : List (ℕ × ℕ)) (fields : List (ℕ × FieldClasses)) (next class id : ℕ) (inside : FieldClasses) (found : Option ℕ)
    → ∥ IsSound table elements fields next ∥₁ → Some inside ≡ lookup (nat_eq class) fields → found ≡ lookup (nat_eq id) inside.numbers.entries
    → IfSome found (λ part. (typ : FirType) → HasNumber table typ class → FieldHas table typ id part)
field_answer table elements fields next class id inside (Some i) s at e = λ typ h. ∥∥₁_elim s squash₁ (λ s. field_has s h (s.fields' class inside (sym at) id i (sym e)))
field_answer table elements fields next class id inside None s at e = tt
