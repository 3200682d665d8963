-- Parts of types: where their leaves stand.
use Rattle.std.proofs.Common.{◌≡◌, ℕ, zero, suc, ◌<◌, ◌+◌, ◌*◌, Bool, true, false, List, [], ◌∷◌, ◌++◌, map, length, find, Option, option_map, refl, sym, ap, ap₂, ◌∙◌, subst, arith, ◌==◌, ◌&&◌, if◌then◌else◌, Some, None, slice_get}
use Rattle.std.specs.List.{flat_map, list_all}
use Rattle.std.proofs.lemmas.Grind.{common_steps}
use Rattle.std.proofs.lemmas.Bool.Decides.{nat_tests}
use Rattle.std.proofs.lemmas.List.Concat.{flat_map-cons}
use Rattle.std.proofs.lemmas.Option.{slice_get-map}
use Rattle.std.proofs.lemmas.List.{length-map}
use Rattle.fir_types.specs.declared.fir_type.FirType.{FirType, the_lemmas}
use Rattle.fir_types.specs.declared.fir_type.Shape.TheVariants as shape
use Rattle.fir_types.specs.declared.fir_type.Shape.TheViews.{out-Shape}
use Rattle.fir_types.specs.declared.fir_type.Field.{Field}
use Rattle.fir_types.specs.declared.leaf.TypeLeaf.{TypeLeaf}
use Rattle.fir_types.specs.declared.leaf.PathStep.TheVariants as step
use Rattle.fir_types.specs.Leaves.{leaves, count, field_leaves, field_count, elements, under}
use Rattle.fir_types.proofs.Counts.{counted}
use Rattle.fir_types.proofs.Layers.{leaves-bundle, leaves-vector, leaves-field, count-field}
use Rattle.fir_meaning.specs.Values.{field_of_shape, element_of_shape, vector_length}
use Rattle.ground_exprs.specs.Numbers.{IsInside, narrow_field}
use Rattle.fir_meaning.specs.WellTyped.{is_narrow}
use Rattle.field_tables.specs.Before.{leaves_before}
use Rattle.field_tables.specs.Fits.{fields_in}
use Rattle.field_tables.proofs.Parts.{fields_of}
use Rattle.ground_net.proofs.Shaping.{both_true}
use Rattle.ground_exprs.proofs.Members.{none_some, some_same}

pub get_behind : {A : Type 0} (xs ys : List A) (n j : ℕ) (y : A) → length xs ≡ n → slice_get ys j ≡ Some y → slice_get (xs ++ ys) (n + j) ≡ Some y
get_behind [] ys n j y l e = let same : n + j ≡ j = omega (arith, l) in ap (slice_get ys) same ∙ e
get_behind (x ∷ xs) ys zero j y l e = absurd (omega (arith, l))
get_behind (x ∷ xs) ys (suc n) j y l e = let same : suc n + j ≡ suc (n + j) = omega arith in ap (slice_get (x ∷ (xs ++ ys))) same ∙ get_behind xs ys n j y (omega (arith, l)) e

pub get_within : {A : Type 0} (xs ys : List A) (j : ℕ) (x : A) → slice_get xs j ≡ Some x → slice_get (xs ++ ys) j ≡ Some x
get_within [] ys j x e = absurd (none_some e)
get_within (z ∷ zs) ys zero x e = e
get_within (z ∷ zs) ys (suc j) x e = get_within zs ys j x e

get_mapped : {A B : Type 0} (f : A → B) (xs : List A) (j : ℕ) (x : A) → slice_get xs j ≡ Some x → slice_get (map f xs) j ≡ Some (f x)
get_mapped f xs j x e = slice_get-map f xs j ∙ ap (option_map f) e

-- Narrow types

list_all-map : {A : Type 0} (f : A → Bool) (xs : List A) → list_all (λ b. b) (map f xs) ≡ list_all f xs
list_all-map f [] = refl
list_all-map f (x ∷ xs) = ap (λ b. f x && b) (list_all-map f xs)

narrow-field : (f : Field) → narrow_field f ≡ is_narrow f.typ
narrow-field f = grind (arith, common_steps, the_lemmas)

narrow_found : (id : ℕ) (fs : List Field) (f : Field) → find (λ g. g.name.id == id) fs ≡ Some f → list_all narrow_field fs ≡ true → is_narrow f.typ ≡ true
narrow_found id [] f e h = absurd (none_some e)
narrow_found id (g ∷ gs) f e h = by_test (λ l. narrow_found id gs f l (both_true (narrow_field g) (list_all narrow_field gs) h).1) (g.name.id == id) e
  where
    by_test : (find (λ g. g.name.id == id) gs ≡ Some f → is_narrow f.typ ≡ true) → (b : Bool) → (if b then Some g else find (λ g. g.name.id == id) gs) ≡ Some f → is_narrow f.typ ≡ true
    by_test later true e = ap (λ x. is_narrow x.typ) (sym (some_same e)) ∙ (sym (narrow-field g) ∙ (both_true (narrow_field g) (list_all narrow_field gs) h).0)
    by_test later false e = later e

pub narrow-bundle : (t : FirType) (fs : List Field) → t.shape ≡ shape.Bundle fs → is_narrow t ≡ list_all narrow_field fs
narrow-bundle t fs e = grind (arith, common_steps, the_lemmas, list_all-map)

pub narrow-vector : (t e : FirType) (n : ℕ) → t.shape ≡ shape.Vector e n → is_narrow t ≡ is_narrow e
narrow-vector t e n h = grind (arith, common_steps, the_lemmas)

-- Fields

field_leaf : (f : Field) (id j : ℕ) (leaf : TypeLeaf) → (f.name.id == id) ≡ true → slice_get (leaves f.typ) j ≡ Some leaf → slice_get (field_leaves f) j ≡ Some (under (step.Field id ∷ []) f.flip leaf)
field_leaf f id j leaf t e =
    let same : f.name.id ≡ id = grind (arith, common_steps, nat_tests, t) in
    ap (λ l. slice_get l j) (leaves-field f) ∙ (get_mapped (under (step.Field f.name.id ∷ []) f.flip) (leaves f.typ) j leaf e ∙ ap (λ i. Some (under (step.Field i ∷ []) f.flip leaf)) same)

field_counted : (f : Field) → length (field_leaves f) ≡ field_count f
field_counted f = ap length (leaves-field f) ∙ (length-map (leaves f.typ) (under (step.Field f.name.id ∷ []) f.flip) ∙ (sym (counted f.typ) ∙ sym (count-field f)))

found_field : (id : ℕ) (fs : List Field) (f : Field) (j : ℕ) (leaf : TypeLeaf) → find (λ g. g.name.id == id) fs ≡ Some f → slice_get (leaves f.typ) j ≡ Some leaf
    → slice_get (flat_map field_leaves fs) (leaves_before id fs + j) ≡ Some (under (step.Field id ∷ []) f.flip leaf)
found_field id [] f j leaf e h = absurd (none_some e)
found_field id (g ∷ gs) f j leaf e h = by_test (λ l. found_field id gs f j leaf l h) (g.name.id == id) refl e
  where
    by_test : (find (λ g. g.name.id == id) gs ≡ Some f → slice_get (flat_map field_leaves gs) (leaves_before id gs + j) ≡ Some (under (step.Field id ∷ []) f.flip leaf))
        → (b : Bool) → (g.name.id == id) ≡ b → (if b then Some g else find (λ g. g.name.id == id) gs) ≡ Some f
        → slice_get (flat_map field_leaves (g ∷ gs)) ((if b then 0 else field_count g + leaves_before id gs) + j) ≡ Some (under (step.Field id ∷ []) f.flip leaf)
    by_test later true t e =
        let same : g ≡ f = some_same e in
        let here : slice_get (field_leaves g) j ≡ Some (under (step.Field id ∷ []) g.flip leaf) = field_leaf g id j leaf t (subst (λ x. slice_get (leaves x.typ) j ≡ Some leaf) (sym same) h) in
        ap (slice_get (flat_map field_leaves (g ∷ gs))) (plain j) ∙ (ap (λ l. slice_get l j) (flat_map-cons field_leaves g gs)
        ∙ (get_within (field_leaves g) (flat_map field_leaves gs) j (under (step.Field id ∷ []) g.flip leaf) here ∙ ap (λ x. Some (under (step.Field id ∷ []) x.flip leaf)) same))
      where
        plain : (j : ℕ) → 0 + j ≡ j
        plain j = omega arith
    by_test later false t e =
        ap (slice_get (flat_map field_leaves (g ∷ gs))) (apart (field_count g) (leaves_before id gs) j) ∙ (ap (λ l. slice_get l (field_count g + (leaves_before id gs + j))) (flat_map-cons field_leaves g gs)
        ∙ get_behind (field_leaves g) (flat_map field_leaves gs) (field_count g) (leaves_before id gs + j) _ (field_counted g) (later e))
      where
        apart : (a b c : ℕ) → a + b + c ≡ a + (b + c)
        apart a b c = omega arith

pub inside_field : (t : FirType) (fs : List Field) (id : ℕ) (f : Field) (before : ℕ) → t.shape ≡ shape.Bundle fs → find (λ g. g.name.id == id) fs ≡ Some f → before ≡ leaves_before id fs
    → IsInside t (step.Field id) f.typ before
inside_field t fs id f before is found n = record {
  each = λ j leaf e. (f.flip, ap₂ (λ l k. slice_get l (k + j)) (leaves-bundle t fs is) n ∙ found_field id fs f j leaf found e);
  narrow = λ h. narrow_found id fs f found (sym (narrow-bundle t fs is) ∙ h);
}

pub field-of : (t : FirType) (fs : List Field) (id : ℕ) → t.shape ≡ shape.Bundle fs → field_of_shape id (out-Shape t.shape) ≡ option_map (λ f. f.typ) (find (λ f. f.name.id == id) fs)
field-of t fs id is = grind (arith, common_steps, the_lemmas)

-- Elements

element_leaf : (ls : List TypeLeaf) (n k j : ℕ) (leaf : TypeLeaf) → k < n → slice_get ls j ≡ Some leaf → slice_get (elements ls n) (k * length ls + j) ≡ Some (under (step.Element k ∷ []) false leaf)
element_leaf ls zero k j leaf h e = absurd (omega arith)
element_leaf ls (suc n) k j leaf h e = by_place (λ l. element_leaf ls n k j leaf l e) (k == n) refl
  where
    elements_counted : (n : ℕ) → length (elements ls n) ≡ n * length ls
    elements_counted zero = grind (arith, common_steps)
    elements_counted (suc n) = grind (arith, common_steps, elements_counted n)

    by_place : (k < n → slice_get (elements ls n) (k * length ls + j) ≡ Some (under (step.Element k ∷ []) false leaf)) → (b : Bool) → (k == n) ≡ b → slice_get (elements ls n ++ map (under (step.Element n ∷ []) false) ls) (k * length ls + j) ≡ Some (under (step.Element k ∷ []) false leaf)
    by_place before true t =
        let same : k ≡ n = grind (arith, common_steps, nat_tests, t) in
        get_behind (elements ls n) (map (under (step.Element n ∷ []) false) ls) (k * length ls) j (under (step.Element k ∷ []) false leaf)
        (elements_counted n ∙ ap (λ m. m * length ls) (sym same))
        (ap (λ m. slice_get (map (under (step.Element m ∷ []) false) ls) j) (sym same) ∙ get_mapped (under (step.Element k ∷ []) false) ls j leaf e)
    by_place before false t =
        let other : k < n = grind (arith, common_steps, nat_tests, t, h) in
        get_within (elements ls n) (map (under (step.Element n ∷ []) false) ls) (k * length ls + j) (under (step.Element k ∷ []) false leaf) (before other)

pub inside_element : (t e : FirType) (n k stride : ℕ) → t.shape ≡ shape.Vector e n → stride ≡ count e → k < n → IsInside t (step.Element k) e (k * stride)
inside_element t e n k stride is s h = record {
  each = λ j leaf g. (false, ap₂ (λ l m. slice_get l (k * m + j)) (leaves-vector t e n is) (s ∙ counted e) ∙ element_leaf (leaves e) n k j leaf h g);
  narrow = λ thin. sym (narrow-vector t e n is) ∙ thin;
}

pub element-of : (t e : FirType) (n : ℕ) → t.shape ≡ shape.Vector e n → element_of_shape (out-Shape t.shape) ≡ Some e
element-of t e n is = grind (arith, common_steps, the_lemmas)

pub length-of : (t e : FirType) (n : ℕ) → t.shape ≡ shape.Vector e n → vector_length t ≡ n
length-of t e n is = grind (arith, common_steps, the_lemmas)

field_at : (o : Option Field) (inner : FirType) → Some inner ≡ option_map (λ f. f.typ) o → (f : Field) × (o ≡ Some f) × (f.typ ≡ inner)
field_at (Some f) inner e = (f, refl, some_same (sym e))
field_at None inner e = absurd (none_some (sym e))

-- the field that a table leads to
pub inside_found : (t : FirType) (fs : List Field) (id before : ℕ) (inner : FirType) → t.shape ≡ shape.Bundle fs
    → Some inner ≡ option_map (λ f. f.typ) (find (λ g. g.name.id == id) (fields_in (out-Shape t.shape))) → before ≡ leaves_before id (fields_in (out-Shape t.shape))
    → IsInside t (step.Field id) inner before
inside_found t fs id before inner is found n =
    let r = field_at (find (λ g. g.name.id == id) (fields_in (out-Shape t.shape))) inner found in
    subst (λ x. IsInside t (step.Field id) x before) r.2
    (inside_field t fs id r.0 before is (ap (find (λ g. g.name.id == id)) (sym (fields_of t fs is)) ∙ r.1) (n ∙ ap (leaves_before id) (fields_of t fs is)))

pub type_found : (t : FirType) (fs : List Field) (id : ℕ) (found : Option FirType) → t.shape ≡ shape.Bundle fs
    → found ≡ option_map (λ f. f.typ) (find (λ g. g.name.id == id) (fields_in (out-Shape t.shape))) → field_of_shape id (out-Shape t.shape) ≡ found
type_found t fs id found is e =
    field-of t fs id is ∙ ap (λ l. option_map (λ f. f.typ) (find (λ g. g.name.id == id) l)) (sym (fields_of t fs is)) ∙ sym e
