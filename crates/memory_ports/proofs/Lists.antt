-- Lists, place by place.
use Rattle.std.proofs.Common.{◌≡◌, ℕ, zero, suc, true, false, List, [], ◌∷◌, ◌++◌, take, length, refl, sym, ap, ap₂, ◌∙◌, subst, arith, nat_lt, ◌<◌, ◌≤◌, ◌+◌, Bool, Option, Some, None, option_map, slice_get, ◌⊎◌, inl, inr, ⊎_elim}
use Rattle.std.specs.Prelude.{zip, flat_map}
use Rattle.std.specs.List.{range_with_len}
use Rattle.std.proofs.lemmas.Bool.Decides.{nat_tests}
use Rattle.std.proofs.lemmas.Option.{slice_get_within, get_or_from_slice_get}
use Rattle.std.proofs.lemmas.List.{take_more}
use Rattle.ground_net.specs.Cones.{numbered}

pub some_same : {A : Type 0} {x y : A} → Some x ≡ Some y → x ≡ y
some_same e = cc

pub none_some : {A : Type 0} {x : A} → None ≡ Some x → ⊥
none_some e = cc

pub some_of : {A B : Type 0} (f : A → B) (o : Option A) (y : B) → option_map f o ≡ Some y → (x : A) × (o ≡ Some x) × (f x ≡ y)
some_of f (Some x) y e = (x, refl, some_same e)
some_of f None y e = absurd (none_some e)

pub same_items : {A : Type 0} (xs ys : List A) → ((i : ℕ) → slice_get xs i ≡ slice_get ys i) → xs ≡ ys
same_items [] [] h = refl
same_items [] (y ∷ ys) h = absurd (none_some (h zero))
same_items (x ∷ xs) [] h = absurd (none_some (sym (h zero)))
same_items (x ∷ xs) (y ∷ ys) h = ap₂ (λ a l. a ∷ l) (some_same (h zero)) (same_items xs ys (λ i. h (suc i)))

-- one item more

get_before : {B : Type 0} (ys : List B) (y : B) (j : ℕ) → j < length ys → slice_get (ys ++ y ∷ []) j ≡ slice_get ys j
get_before [] y j h = absurd (omega arith)
get_before (x ∷ xs) y zero h = refl
get_before (x ∷ xs) y (suc j) h = get_before xs y j (omega arith)

pub get_last : {B : Type 0} (ys : List B) (y : B) → slice_get (ys ++ y ∷ []) (length ys) ≡ Some y
get_last [] y = refl
get_last (x ∷ xs) y = get_last xs y

-- an item of a list with one more at its end is the last one, or it was there before
pub one_more : {B : Type 0} (ys : List B) (y b : B) (j : ℕ) → slice_get (ys ++ y ∷ []) j ≡ Some b → (slice_get ys j ≡ Some b) ⊎ ((j ≡ length ys) × (y ≡ b))
one_more [] y b zero e = inr (refl, some_same e)
one_more [] y b (suc j) e = absurd (none_some e)
one_more (x ∷ xs) y b zero e = inl e
one_more (x ∷ xs) y b (suc j) e = ⊎_elim (λ h. inl h) (λ h. inr (ap suc h.0, h.1)) (one_more xs y b j e)

-- what holds of each place holds with one place more
pub place_more : {A B : Type 0} (R : ℕ → A → B → Type 0) (xs : List A) (ys : List B) (x : A) (y : B) → slice_get xs (length ys) ≡ Some x → R (length ys) x y
    → ((j : ℕ) (a : A) (b : B) → slice_get xs j ≡ Some a → slice_get ys j ≡ Some b → R j a b)
    → (j : ℕ) (a : A) (b : B) → slice_get xs j ≡ Some a → slice_get (ys ++ y ∷ []) j ≡ Some b → R j a b
place_more {A} {B} R xs ys x y there r each j a b at_a at_b = ⊎_elim
    (λ h. each j a b at_a h)
    (λ h.
    let same : x ≡ a = some_same (sym there ∙ (ap (slice_get xs) (sym h.0) ∙ at_a)) in
    subst (λ k. R k a b) (sym h.0) (subst (λ z. R (length ys) a z) h.1 (subst (λ z. R (length ys) z y) same r)))
    (one_more ys y b j at_b)

pub next_taken : {A : Type 0} (xs : List A) (k : ℕ) (x : A) → slice_get xs k ≡ Some x → take (k + 1) xs ≡ take k xs ++ x ∷ []
next_taken xs k x e = take_more xs k x (slice_get_within xs k x e) ∙ ap (λ y. take k xs ++ y ∷ []) (get_or_from_slice_get xs k x x e)

pub taken_length : {A : Type 0} (xs : List A) (k : ℕ) → k ≤ length xs → length (take k xs) ≡ k
taken_length [] zero h = refl
taken_length [] (suc k) h = absurd (omega arith)
taken_length (x ∷ xs) zero h = refl
taken_length (x ∷ xs) (suc k) h = let less : k ≤ length xs = omega arith in ap suc (taken_length xs k less)

pub there_below : {A : Type 0} (xs : List A) (k : ℕ) → k < length xs → (x : A) × (slice_get xs k ≡ Some x)
there_below [] k h = absurd (omega arith)
there_below (x ∷ xs) zero h = (x, refl)
there_below (x ∷ xs) (suc k) h = let less : k < length xs = omega arith in there_below xs k less

-- Lists that are joined

pub get_left : {A : Type 0} (xs ys : List A) (i : ℕ) (z : A) → slice_get xs i ≡ Some z → slice_get (xs ++ ys) i ≡ Some z
get_left [] ys i z e = absurd (none_some e)
get_left (x ∷ xs) ys zero z e = e
get_left (x ∷ xs) ys (suc i) z e = get_left xs ys i z e

pub get_right : {A : Type 0} (xs ys : List A) (i : ℕ) (z : A) → slice_get ys i ≡ Some z → (j : ℕ) × (slice_get (xs ++ ys) j ≡ Some z)
get_right [] ys i z e = (i, e)
get_right (x ∷ xs) ys i z e = let more = get_right xs ys i z e in (suc more.0, more.1)

pub get_either : {A : Type 0} (xs ys : List A) (i : ℕ) (z : A) → slice_get (xs ++ ys) i ≡ Some z → (slice_get xs i ≡ Some z) ⊎ ((j : ℕ) × (slice_get ys j ≡ Some z))
get_either [] ys i z e = inr (i, e)
get_either (x ∷ xs) ys zero z e = inl e
get_either (x ∷ xs) ys (suc i) z e = get_either xs ys i z e

-- an item of the lists that items make comes from one of them
pub origin : {A B : Type 0} (f : A → List B) (xs : List A) (i : ℕ) (y : B) → slice_get (flat_map f xs) i ≡ Some y → (k : ℕ) × (x : A) × (j : ℕ) × (slice_get xs k ≡ Some x) × (slice_get (f x) j ≡ Some y)
origin f [] i y e = absurd (none_some e)
origin f (x ∷ xs) i y e = ⊎_elim
    (λ h. (zero, x, i, refl, h))
    (λ h. let more = origin f xs h.0 y h.1 in (suc more.0, more.1, more.2, more.3, more.4))
    (get_either (f x) (flat_map f xs) i y e)

pub arrives : {A B : Type 0} (f : A → List B) (xs : List A) (k : ℕ) (x : A) (j : ℕ) (y : B) → slice_get xs k ≡ Some x → slice_get (f x) j ≡ Some y → (i : ℕ) × (slice_get (flat_map f xs) i ≡ Some y)
arrives f [] k x j y e h = absurd (none_some e)
arrives f (z ∷ zs) zero x j y e h = (j, get_left (f z) (flat_map f zs) j y (subst (λ w. slice_get (f w) j ≡ Some y) (sym (some_same e)) h))
arrives f (z ∷ zs) (suc k) x j y e h = let more = arrives f zs k x j y e h in get_right (f z) (flat_map f zs) more.0 y more.1

-- Numbered items

numbered_from_push : {A : Type 0} (a : ℕ) (xs : List A) (x : A) → zip (range_with_len a (length (xs ++ x ∷ []))) (xs ++ x ∷ []) ≡ zip (range_with_len a (length xs)) xs ++ (a + length xs, x) ∷ []
numbered_from_push a [] x = let z : a ≡ a + 0 = omega arith in ap (λ n. (n, x) ∷ []) z
numbered_from_push a (y ∷ ys) x =
    let z : a + 1 + length ys ≡ a + suc (length ys) = omega arith in
    ap (λ l. (a, y) ∷ l) (numbered_from_push (a + 1) ys x ∙ ap (λ n. zip (range_with_len (a + 1) (length ys)) ys ++ (n, x) ∷ []) z)

pub numbered_push : {A : Type 0} (xs : List A) (x : A) → numbered (xs ++ x ∷ []) ≡ numbered xs ++ (length xs, x) ∷ []
numbered_push xs x = let z : 0 + length xs ≡ length xs = omega arith in numbered_from_push 0 xs x ∙ ap (λ n. numbered xs ++ (n, x) ∷ []) z

numbered_from_get : {A : Type 0} (a : ℕ) (xs : List A) (k : ℕ) → slice_get (zip (range_with_len a (length xs)) xs) k ≡ option_map (λ x. (a + k, x)) (slice_get xs k)
numbered_from_get a [] k = refl
numbered_from_get a (y ∷ ys) zero = let z : a ≡ a + 0 = omega arith in ap (λ n. Some (n, y)) z
numbered_from_get a (y ∷ ys) (suc k) = let z : a + 1 + k ≡ a + suc k = omega arith in numbered_from_get (a + 1) ys k ∙ ap (λ n. option_map (λ x. (n, x)) (slice_get ys k)) z

pub numbered_get : {A : Type 0} (xs : List A) (k : ℕ) → slice_get (numbered xs) k ≡ option_map (λ x. (k, x)) (slice_get xs k)
numbered_get xs k = let z : 0 + k ≡ k = omega arith in numbered_from_get 0 xs k ∙ ap (λ n. option_map (λ x. (n, x)) (slice_get xs k)) z

pub numbered_is : {A : Type 0} (xs : List A) (k : ℕ) (x : A) → slice_get xs k ≡ Some x → slice_get (numbered xs) k ≡ Some (k, x)
numbered_is xs k x e = numbered_get xs k ∙ ap (option_map (λ x. (k, x))) e

pub numbered_parts : {A : Type 0} (xs : List A) (k : ℕ) (both : ℕ × A) → slice_get (numbered xs) k ≡ Some both → (both.0 ≡ k) × (slice_get xs k ≡ Some both.1)
numbered_parts xs k both e =
    let from = some_of (λ x. (k, x)) (slice_get xs k) both (sym (numbered_get xs k) ∙ e) in
    (ap (λ (b : ℕ × _). b.0) (sym from.2), from.1 ∙ ap (λ (b : ℕ × _). Some b.1) from.2)

pub range_get : (a n k : ℕ) → k < n → slice_get (range_with_len a n) k ≡ Some (a + k)
range_get a zero k h = absurd (omega (arith, h))
range_get a (suc n) zero h = let z : a ≡ a + 0 = omega arith in ap Some z
range_get a (suc n) (suc k) h = let z : a + 1 + k ≡ a + suc k = omega arith in range_get (a + 1) n k (omega (arith, h)) ∙ ap Some z

pub range_past : (a n k : ℕ) → n ≤ k → slice_get (range_with_len a n) k ≡ None
range_past a zero k h = refl
range_past a (suc n) zero h = absurd (omega (arith, h))
range_past a (suc n) (suc k) h = range_past (a + 1) n k (omega (arith, h))

-- Pairs of items

pub zip_get : {A B : Type 0} (xs : List A) (ys : List B) (k : ℕ) (x : A) (y : B) → slice_get xs k ≡ Some x → slice_get ys k ≡ Some y → slice_get (zip xs ys) k ≡ Some (x, y)
zip_get [] ys k x y e h = absurd (none_some e)
zip_get (a ∷ as_) [] k x y e h = absurd (none_some h)
zip_get (a ∷ as_) (b ∷ bs) zero x y e h = ap₂ (λ v w. Some (v, w)) (some_same e) (some_same h)
zip_get (a ∷ as_) (b ∷ bs) (suc k) x y e h = zip_get as_ bs k x y e h

pub zip_parts : {A B : Type 0} (xs : List A) (ys : List B) (k : ℕ) (both : A × B) → slice_get (zip xs ys) k ≡ Some both → (slice_get xs k ≡ Some both.0) × (slice_get ys k ≡ Some both.1)
zip_parts [] ys k both e = absurd (none_some e)
zip_parts (a ∷ as_) [] k both e = absurd (none_some e)
zip_parts (a ∷ as_) (b ∷ bs) zero both e = (ap (λ (p : _ × _). Some p.0) (some_same e), ap (λ (p : _ × _). Some p.1) (some_same e))
zip_parts (a ∷ as_) (b ∷ bs) (suc k) both e = zip_parts as_ bs k both e

-- a number is below another, or not
pub below_or : (i j : ℕ) → (i < j) ⊎ (j ≤ i)
below_or i j = by_test (nat_lt i j) refl
  where
    by_test : (b : Bool) → nat_lt i j ≡ b → (i < j) ⊎ (j ≤ i)
    by_test true e = inl (grind (arith, nat_tests))
    by_test false e = inr (grind (arith, nat_tests))

pub taken_all : {A : Type 0} (xs : List A) (k : ℕ) → length xs ≤ k → take k xs ≡ xs
taken_all [] zero h = refl
taken_all [] (suc k) h = refl
taken_all (x ∷ xs) zero h = absurd (omega arith)
taken_all (x ∷ xs) (suc k) h = let less : length xs ≤ k = omega arith in ap (λ l. x ∷ l) (taken_all xs k less)
