-- What is equivalent to a type of a known shape.
use Rattle.std.proofs.Common.{◌≡◌, ◌+◌, Bool, false, IsTrue, ℕ, zero, suc, ◌<◌, List, [], ◌∷◌, length, get_or, refl, sym, ap, ◌∙◌, arith, subst}
use borrow.Author.Count.{below_more}
use Rattle.std.proofs.lemmas.Grind.{common_steps}
use Rattle.fir_types.specs.declared.fir_type.FirType.{FirType, the_lemmas}
use Rattle.fir_types.specs.declared.fir_type.Shape.TheVariants as shape
use Rattle.fir_types.specs.declared.fir_type.Shape.TheViews.{out-Shape}
use Rattle.fir_types.specs.declared.fir_type.Field.{Field}
use Rattle.fir_types.specs.Equivalence.{Equivalent, IsUnsigned, IsSigned, SameFields, AreSame, no_fields, same_field, unsigned, signed, clocks, asyncs, vectors, bundles, a_uint, a_reset, a_sint}

vector_element : (e o : FirType) (n m : ℕ) → shape.Vector e n ≡ shape.Vector o m → e ≡ o
vector_element e o n m h =
    let out : out-Shape (shape.Vector e n) ≡ out-Shape (shape.Vector o m) = ap out-Shape h in
    grind (arith, common_steps, the_lemmas)

vector_length : (e o : FirType) (n m : ℕ) → shape.Vector e n ≡ shape.Vector o m → n ≡ m
vector_length e o n m h = cc

bundle_fields : (fs gs : List Field) → shape.Bundle fs ≡ shape.Bundle gs → fs ≡ gs
bundle_fields fs gs h =
    let out : out-Shape (shape.Bundle fs) ≡ out-Shape (shape.Bundle gs) = ap out-Shape h in
    grind (arith, common_steps, the_lemmas)

pub of_unsigned : {l r : FirType} → IsUnsigned l → Equivalent l r → IsUnsigned r
of_unsigned u (unsigned _ v) = v
of_unsigned (a_uint w e) (signed (a_sint v f) _) = absurd cc
of_unsigned (a_reset e) (signed (a_sint v f) _) = absurd cc
of_unsigned (a_uint w e) (clocks f _) = absurd cc
of_unsigned (a_uint w e) (asyncs f _) = absurd cc
of_unsigned (a_reset e) (clocks f _) = absurd cc
of_unsigned (a_reset e) (asyncs f _) = absurd cc
of_unsigned (a_uint w e) (vectors _ _ _ f _ _) = absurd cc
of_unsigned (a_reset e) (vectors _ _ _ f _ _) = absurd cc
of_unsigned (a_uint w e) (bundles _ _ f _ _) = absurd cc
of_unsigned (a_reset e) (bundles _ _ f _ _) = absurd cc

pub of_signed : {l r : FirType} → IsSigned l → Equivalent l r → IsSigned r
of_signed s (signed _ v) = v
of_signed (a_sint w e) (unsigned (a_uint v f) _) = absurd cc
of_signed (a_sint w e) (unsigned (a_reset f) _) = absurd cc
of_signed (a_sint w e) (clocks f _) = absurd cc
of_signed (a_sint w e) (asyncs f _) = absurd cc
of_signed (a_sint w e) (vectors _ _ _ f _ _) = absurd cc
of_signed (a_sint w e) (bundles _ _ f _ _) = absurd cc

pub of_clock : {l r : FirType} → l.shape ≡ shape.Clock → Equivalent l r → r.shape ≡ shape.Clock
of_clock e (clocks _ f) = f
of_clock e (unsigned (a_uint v f) _) = absurd cc
of_clock e (unsigned (a_reset f) _) = absurd cc
of_clock e (signed (a_sint v f) _) = absurd cc
of_clock e (vectors _ _ _ f _ _) = absurd cc
of_clock e (bundles _ _ f _ _) = absurd cc
of_clock e (asyncs f _) = absurd cc

pub of_async : {l r : FirType} → l.shape ≡ shape.AsyncReset → Equivalent l r → r.shape ≡ shape.AsyncReset
of_async e (asyncs _ f) = f
of_async e (clocks f _) = absurd cc
of_async e (unsigned (a_uint v f) _) = absurd cc
of_async e (unsigned (a_reset f) _) = absurd cc
of_async e (signed (a_sint v f) _) = absurd cc
of_async e (vectors _ _ _ f _ _) = absurd cc
of_async e (bundles _ _ f _ _) = absurd cc

-- what is equivalent to a vector
pub data IsVectorLike (e : FirType) (n : ℕ) (r : FirType) : Type 0 where
  vector_like : (o : FirType) → r.shape ≡ shape.Vector o n → Equivalent e o → IsVectorLike e n r

pub of_vector : {l r : FirType} (e : FirType) (n : ℕ) → l.shape ≡ shape.Vector e n → Equivalent l r → IsVectorLike e n r
of_vector {l} {r} e n h (vectors d o m f g q) =
    vector_like o (subst (λ x. r.shape ≡ shape.Vector o x) (sym (vector_length e d n m (sym h ∙ f))) g)
    (subst (λ x. Equivalent x o) (sym (vector_element e d n m (sym h ∙ f))) q)
of_vector e n h (unsigned (a_uint v f) _) = absurd cc
of_vector e n h (unsigned (a_reset f) _) = absurd cc
of_vector e n h (signed (a_sint v f) _) = absurd cc
of_vector e n h (clocks f _) = absurd cc
of_vector e n h (asyncs f _) = absurd cc
of_vector e n h (bundles _ _ f _ _) = absurd cc

-- what is equivalent to a bundle
pub data IsBundleLike (fs : List Field) (r : FirType) : Type 0 where
  bundle_like : (gs : List Field) → r.shape ≡ shape.Bundle gs → SameFields fs gs → IsBundleLike fs r

pub of_bundle : {l r : FirType} (fs : List Field) → l.shape ≡ shape.Bundle fs → Equivalent l r → IsBundleLike fs r
of_bundle fs h (bundles ds gs f g q) = bundle_like gs g (subst (λ x. SameFields x gs) (sym (bundle_fields fs ds (sym h ∙ f))) q)
of_bundle fs h (unsigned (a_uint v f) _) = absurd cc
of_bundle fs h (unsigned (a_reset f) _) = absurd cc
of_bundle fs h (signed (a_sint v f) _) = absurd cc
of_bundle fs h (clocks f _) = absurd cc
of_bundle fs h (asyncs f _) = absurd cc
of_bundle fs h (vectors _ _ _ f _ _) = absurd cc

-- fields place by place

pub same_length : {fs gs : List Field} → SameFields fs gs → length fs ≡ length gs
same_length no_fields = refl
same_length (same_field a b c rest) = ap suc (same_length rest)

pub same_at : {fs gs : List Field} → SameFields fs gs → (k : ℕ) (d : Field) → k < length fs → AreSame (get_or fs k d) (get_or gs k d)
same_at no_fields k d h = absurd (omega arith)
same_at (same_field a b c rest) zero d h = (a, b, c)
same_at (same_field a b c rest) (suc k) d h = same_at rest k d (omega arith)

pub same_from_places : (fs gs : List Field) → length fs ≡ length gs
    → ((k : ℕ) (d : Field) → k < length fs → AreSame (get_or fs k d) (get_or gs k d)) → SameFields fs gs
same_from_places [] [] e h = no_fields
same_from_places [] (g ∷ gs) e h = absurd (omega arith)
same_from_places (f ∷ fs) [] e h = absurd (omega arith)
same_from_places (f ∷ fs) (g ∷ gs) e h =
    let s = h 0 f (omega arith) in
    same_field s.0 s.1 s.2 (same_from_places fs gs (omega arith) (λ k d l. h (suc k) d (omega arith)))

-- two bundles, as the code meets them

pub bundles_from : {l r : FirType} {fs gs : List Field} (ds es : List Field) → l.shape ≡ shape.Bundle fs → r.shape ≡ shape.Bundle gs → ds ≡ fs → es ≡ gs
    → SameFields ds es → Equivalent l r
bundles_from {l} {r} ds es h k p q s =
    bundles ds es (h ∙ sym (ap shape.Bundle p)) (k ∙ sym (ap shape.Bundle q)) s

like_bundles : {r : FirType} {fs gs : List Field} (ds es : List Field) → r.shape ≡ shape.Bundle gs → ds ≡ fs → es ≡ gs → IsBundleLike fs r → SameFields ds es
like_bundles {r} {fs} {gs} ds es k p q (bundle_like hs f s) =
    subst (λ x. SameFields ds x) (bundle_fields hs gs (sym f ∙ k) ∙ sym q) (subst (λ x. SameFields x hs) (sym p) s)

pub of_bundles : {l r : FirType} {fs gs : List Field} (ds es : List Field) → l.shape ≡ shape.Bundle fs → r.shape ≡ shape.Bundle gs → ds ≡ fs → es ≡ gs
    → Equivalent l r → SameFields ds es
of_bundles {l} {r} {fs} {gs} ds es h k p q e = like_bundles ds es k p q (of_bundle fs h e)

-- two vectors, as the code meets them

pub vectors_from : {l r e o : FirType} {n m : ℕ} (d p : FirType) → l.shape ≡ shape.Vector e n → r.shape ≡ shape.Vector o m → n ≡ m → d ≡ e → p ≡ o
    → Equivalent d p → Equivalent l r
vectors_from {l} {r} {e} {o} {n} {m} d p h k s a b q =
    vectors d p n (h ∙ ap (λ x. shape.Vector x n) (sym a)) (k ∙ ap (λ x. shape.Vector x m) (sym b) ∙ ap (shape.Vector p) (sym s)) q

like_vectors : {r e o : FirType} {n m : ℕ} (d p : FirType) → r.shape ≡ shape.Vector o m → d ≡ e → p ≡ o → IsVectorLike e n r → (n ≡ m) × Equivalent d p
like_vectors {r} {e} {o} {n} {m} d p k a b (vector_like w f s) =
    (vector_length w o n m (sym f ∙ k), subst (λ x. Equivalent d x) (vector_element w o n m (sym f ∙ k) ∙ sym b) (subst (λ x. Equivalent x w) (sym a) s))

pub of_vectors : {l r e o : FirType} {n m : ℕ} (d p : FirType) → l.shape ≡ shape.Vector e n → r.shape ≡ shape.Vector o m → d ≡ e → p ≡ o
    → Equivalent l r → (n ≡ m) × Equivalent d p
of_vectors {l} {r} {e} {o} {n} {m} d p h k a b q = like_vectors d p k a b (of_vector e n h q)

pub are_same_at : {f o f' o' : Field} → f ≡ f' → o ≡ o' → AreSame f' o' → AreSame f o
are_same_at {f} {o} {f'} {o'} p q s = subst (λ x. AreSame f x) (sym q) (subst (λ x. AreSame x o') (sym p) s)

pub not_both : {b : Bool} → b ≡ false → IsTrue b → ⊥
not_both p q = absurd cc

pub places_more : (fs gs : List Field) (n m : ℕ) (f o : Field) → ((d : Field) → f ≡ get_or fs n d) → ((d : Field) → o ≡ get_or gs n d) → AreSame f o
    → ((k : ℕ) (d : Field) → k < n → AreSame (get_or fs k d) (get_or gs k d)) → m ≡ n + 1
    → (k : ℕ) (d : Field) → k < m → AreSame (get_or fs k d) (get_or gs k d)
places_more fs gs n m f o p q s below e k d h =
    below_more (λ j. (d : Field) → AreSame (get_or fs j d) (get_or gs j d)) n (λ j l d. below j d l) (λ d. are_same_at (sym (p d)) (sym (q d)) s) k (omega arith) d
