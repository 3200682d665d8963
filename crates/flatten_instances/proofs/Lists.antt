-- Lists, place by place.
use Rattle.std.proofs.Common.{◌≡◌, ℕ, zero, suc, ◌+◌, ◌<◌, ◌≤◌, ◌⊎◌, List, [], ◌∷◌, ◌++◌, length, refl, sym, ap, ◌∙◌, subst, arith, inl, inr, ⊎_elim, Option, Some, None, slice_get, get_or, take, length-append, append_assoc}
use Rattle.std.specs.Prelude.{IsSome}
use Rattle.std.specs.List.{range_with_len}
use Rattle.std.proofs.lemmas.Option.{slice_get_within, slice_get_read, slice_get-get_or}
use Rattle.std.proofs.lemmas.List.{take_more}
use Rattle.flatten_instances.specs.Flat.{OneByOne}

pub some_same : {A : Type 0} {x y : A} → Some x ≡ Some y → x ≡ y
some_same e = cc

pub is_some_by : {A : Type 0} {o : _} {x : A} → o ≡ Some x → IsSome o
is_some_by {A} {o} {x} e = subst (λ o. IsSome o) (sym e) refl

pub some_by : {A : Type 0} (o : Option A) → IsSome o → (x : A) × (o ≡ Some x)
some_by None h = cc
some_by (Some x) h = (x, refl)

pub get_left : {A : Type 0} (xs ys : List A) (k : ℕ) (x : A) → slice_get xs k ≡ Some x → slice_get (xs ++ ys) k ≡ Some x
get_left [] ys k x e = cc
get_left (z ∷ xs) ys zero x e = e
get_left (z ∷ xs) ys (suc k) x e = get_left xs ys k x e

pub get_right : {A : Type 0} (xs ys : List A) (k : ℕ) → slice_get (xs ++ ys) (length xs + k) ≡ slice_get ys k
get_right [] ys k = let e : 0 + k ≡ k = omega arith in ap (slice_get ys) e
get_right (x ∷ xs) ys k = let e : length (x ∷ xs) + k ≡ suc (length xs + k) = omega arith in ap (slice_get (x ∷ (xs ++ ys))) e ∙ get_right xs ys k

pub get_split : {A : Type 0} (xs ys : List A) (k : ℕ) (x : A) → slice_get (xs ++ ys) k ≡ Some x → (slice_get xs k ≡ Some x) ⊎ ((j : ℕ) × (k ≡ length xs + j) × (slice_get ys j ≡ Some x))
get_split [] ys k x e = inr (k, omega arith, e)
get_split (z ∷ xs) ys zero x e = inl e
get_split (z ∷ xs) ys (suc k) x e = ⊎_elim (λ l. inl l) (λ r. inr (r.0, omega (arith, r.1), r.2)) (get_split xs ys k x e)

-- what is there at a place within
pub get_there : {A : Type 0} (xs : List A) (k : ℕ) → k < length xs → (x : A) × (slice_get xs k ≡ Some x)
get_there [] k h = absurd (omega arith)
get_there (x ∷ xs) zero h = (x, refl)
get_there (x ∷ xs) (suc k) h = get_there xs k (omega arith)

-- nothing is there past the end
pub get_none : {A : Type 0} (xs : List A) (k : ℕ) → slice_get xs k ≡ None → length xs ≤ k
get_none [] k e = omega arith
get_none (x ∷ xs) zero e = cc
get_none (x ∷ xs) (suc k) e = omega (arith, get_none xs k e)

pub get_range : (a n j x : ℕ) → slice_get (range_with_len a n) j ≡ Some x → (j < n) × (x ≡ a + j)
get_range a zero j x e = cc
get_range a (suc n) zero x e = (omega arith, let h : a ≡ x = some_same e in omega (arith, h))
get_range a (suc n) (suc j) x e = let h = get_range (a + 1) n j x e in (omega (arith, h.0), omega (arith, h.1))

pub length_range : (a n : ℕ) → length (range_with_len a n) ≡ n
length_range a zero = refl
length_range a (suc n) = ap suc (length_range (a + 1) n)

-- one by one

pub none_by_none : {A B : Type 0} (R : A → B → Type 0) → OneByOne R [] []
none_by_none R = record { counted = refl; each = λ k x y e f. cc }

pub one_by_one : {A B : Type 0} (R : A → B → Type 0) (x : A) (y : B) → R x y → OneByOne R (x ∷ []) (y ∷ [])
one_by_one R x y r = record { counted = refl; each = at }
  where
    at : (k : ℕ) (u : _) (v : _) → slice_get (x ∷ []) k ≡ Some u → slice_get (y ∷ []) k ≡ Some v → R u v
    at zero u v e f = subst (λ z. R z v) (some_same e) (subst (λ z. R x z) (some_same f) r)
    at (suc k) u v e f = cc

pub both_by_both : {A B : Type 0} (R : A → B → Type 0) (xs us : List A) (ys vs : List B) → OneByOne R xs ys → OneByOne R us vs → OneByOne R (xs ++ us) (ys ++ vs)
both_by_both {A} {B} R xs us ys vs h g = record {
  counted = omega (arith, length-append xs us, length-append ys vs, h.counted, g.counted);
  each = λ k x y e f. at k x y (get_split xs us k x e) (get_split ys vs k y f);
}
  where
    at : (k : ℕ) (x : A) (y : B) → (slice_get xs k ≡ Some x) ⊎ ((j : ℕ) × (k ≡ length xs + j) × (slice_get us j ≡ Some x))
        → (slice_get ys k ≡ Some y) ⊎ ((j : ℕ) × (k ≡ length ys + j) × (slice_get vs j ≡ Some y)) → R x y
    at k x y (inl a) (inl b) = h.each k x y a b
    at k x y (inl a) (inr b) = absurd (omega (arith, slice_get_within xs k x a, b.1, h.counted))
    at k x y (inr a) (inl b) = absurd (omega (arith, slice_get_within ys k y b, a.1, h.counted))
    at k x y (inr a) (inr b) =
        let same : b.0 ≡ a.0 = omega (arith, a.1, b.1, h.counted) in
        g.each a.0 x y a.2 (subst (λ j. slice_get vs j ≡ Some y) same b.2)

pub weaker_by : {A B : Type 0} (R S : A → B → Type 0) (xs : List A) (ys : List B) → ((x : A) (y : B) → R x y → S x y) → OneByOne R xs ys → OneByOne S xs ys
weaker_by R S xs ys f h = record { counted = h.counted; each = λ k x y e g. f x y (h.each k x y e g) }

-- the other one of a pair
pub partner : {A B : Type 0} (R : A → B → Type 0) (xs : List A) (ys : List B) (k : ℕ) (y : B) → OneByOne R xs ys → slice_get ys k ≡ Some y → (x : A) × (slice_get xs k ≡ Some x) × R x y
partner R xs ys k y h e =
    let there = get_there xs k (omega (arith, slice_get_within ys k y e, h.counted)) in
    (there.0, there.1, h.each k there.0 y there.1 e)

pub partner_of : {A B : Type 0} (R : A → B → Type 0) (xs : List A) (ys : List B) (k : ℕ) (x : A) → OneByOne R xs ys → slice_get xs k ≡ Some x → (y : B) × (slice_get ys k ≡ Some y) × R x y
partner_of R xs ys k x h e =
    let there = get_there ys k (omega (arith, slice_get_within xs k x e, h.counted)) in
    (there.0, there.1, h.each k x there.0 e there.1)

range_suc : (a n : ℕ) → range_with_len a (suc n) ≡ range_with_len a n ++ (a + n) ∷ []
range_suc a zero = let e : a ≡ a + 0 = omega arith in ap (λ x. x ∷ []) e
range_suc a (suc n) =
    let e : a + 1 + n ≡ a + suc n = omega arith in
    ap (λ xs. a ∷ xs) (range_suc (a + 1) n ∙ ap (λ x. range_with_len (a + 1) n ++ x ∷ []) e)

pub range_more : (a n : ℕ) → range_with_len a (n + 1) ≡ range_with_len a n ++ (a + n) ∷ []
range_more a n = let e : n + 1 ≡ suc n = omega arith in ap (range_with_len a) e ∙ range_suc a n

-- one number more of a range
pub range_pushed : (old now new : List ℕ) (a n number : ℕ) → now ≡ old ++ range_with_len a n → new ≡ now ++ number ∷ [] → number ≡ a + n → new ≡ old ++ range_with_len a (n + 1)
range_pushed old now new a n number is pushed e =
    pushed ∙ (ap (λ l. l ++ number ∷ []) is ∙ (append_assoc old (range_with_len a n) (number ∷ [])
    ∙ (ap (λ x. old ++ (range_with_len a n ++ x ∷ [])) e ∙ ap (λ l. old ++ l) (sym (range_more a n)))))

-- Loops over the items of a list

pub item_there : {A : Type 0} (items xs : List A) (i : ℕ) (d : A) → items ≡ xs → i < length items → slice_get xs i ≡ Some (get_or items i d)
item_there items xs i d same lt = ap (λ l. slice_get l i) (sym same) ∙ slice_get-get_or items i d lt

pub item_read : {A : Type 0} (items xs : List A) (i : ℕ) (x : A) → items ≡ xs → i < length xs → x ≡ get_or items i x → slice_get xs i ≡ Some x
item_read items xs i x same lt is = slice_get_read xs (length xs) i x refl lt (is ∙ ap (λ l. get_or l i x) same)

pub one_more : {A B : Type 0} (R : A → B → Type 0) (items xs : List A) (i : ℕ) (d : A) (ys new : List B) (y : B) → items ≡ xs → i < length items → OneByOne R (take i xs) ys → new ≡ ys ++ y ∷ []
    → R (get_or items i d) y → OneByOne R (take (i + 1) xs) new
one_more R items xs i d ys new y same lt h grown r =
    subst (λ l. OneByOne R (take (i + 1) l) new) same (subst (OneByOne R (take (i + 1) items)) (sym grown) (subst (λ l. OneByOne R l (ys ++ y ∷ [])) (sym (take_more items i d lt))
    (both_by_both R (take i items) (get_or items i d ∷ []) ys (y ∷ []) (subst (λ l. OneByOne R (take i l) ys) (sym same) h) (one_by_one R (get_or items i d) y r))))

pub one_more_read : {A B : Type 0} (R : A → B → Type 0) (items xs : List A) (i : ℕ) (x : A) (ys new : List B) (y : B) → items ≡ xs → i < length items → x ≡ get_or items i x → OneByOne R (take i xs) ys
    → new ≡ ys ++ y ∷ [] → R x y → OneByOne R (take (i + 1) xs) new
one_more_read R items xs i x ys new y same lt is h grown r = one_more R items xs i x ys new y same lt h grown (subst (λ z. R z y) is r)
