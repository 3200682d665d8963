-- Two lists, place by place.
use Rattle.std.proofs.Common.{◌≡◌, ℕ, zero, suc, true, false, List, [], ◌∷◌, ◌++◌, length, refl, sym, ap, ◌∙◌, subst, arith, nat_lt, get_or, ◌<◌, ◌≤◌, Some, slice_get, unwrap_or, ⊎_elim, length-append}
use Rattle.std.proofs.lemmas.Bool.Decides.{nat_tests}
use Rattle.std.proofs.lemmas.Option.{slice_get_within, slice_get_read}
use Rattle.expand_whens.proofs.Blocks.{true_or_false}

get_before : {B : Type 0} (ys : List B) (y : B) (j : ℕ) → j < length ys → slice_get (ys ++ y ∷ []) j ≡ slice_get ys j
get_before [] y j h = absurd (omega arith)
get_before (x ∷ xs) y zero h = refl
get_before (x ∷ xs) y (suc j) h = get_before xs y j (omega arith)

get_last : {B : Type 0} (ys : List B) (y : B) → slice_get (ys ++ y ∷ []) (length ys) ≡ Some y
get_last [] y = refl
get_last (x ∷ xs) y = get_last xs y

some_same : {A : Type 0} (x y : A) → Some x ≡ Some y → x ≡ y
some_same x y e = ap (λ o. unwrap_or o x) e

is_below : (j k : ℕ) → nat_lt j k ≡ true → j < k
is_below j k h = grind (arith, nat_tests)

is_above : (j k : ℕ) → nat_lt j k ≡ false → k ≤ j
is_above j k h = grind (arith, nat_tests)

-- one place more
pub place_more : {A B : Type 0} (R : A → B → Type 0) (xs : List A) (ys after : List B) (k : ℕ) (x : A) (y : B) → k < length xs → x ≡ get_or xs k x → length ys ≡ k → after ≡ ys ++ y ∷ [] → R x y
    → ((j : ℕ) (a : A) (b : B) → slice_get xs j ≡ Some a → slice_get ys j ≡ Some b → R a b)
    → (j : ℕ) (a : A) (b : B) → slice_get xs j ≡ Some a → slice_get after j ≡ Some b → R a b
place_more {A} {B} R xs ys after k x y below is counted grown r each j a b at_a at_b =
    let found : slice_get (ys ++ y ∷ []) j ≡ Some b = ap (λ zs. slice_get zs j) (sym grown) ∙ at_b in
    let within : j < length (ys ++ y ∷ []) = slice_get_within (ys ++ y ∷ []) j b found in
    let most : j ≤ k = omega (arith, within, length-append ys (y ∷ []), counted) in
    ⊎_elim
    (λ h. let less : j < length ys = omega (arith, is_below j k h, counted) in each j a b at_a (sym (get_before ys y j less) ∙ found))
    (λ h.
    let here : j ≡ length ys = omega (arith, is_above j k h, most, counted) in
    let same_b : y ≡ b = some_same y b (sym (get_last ys y) ∙ (ap (slice_get (ys ++ y ∷ [])) (sym here) ∙ found)) in
    let same_a : x ≡ a = some_same x a (sym (slice_get_read xs (length xs) k x refl below is) ∙ (ap (slice_get xs) (sym (here ∙ counted)) ∙ at_a)) in
    subst (λ z. R a z) same_b (subst (λ z. R z y) same_a r))
    (true_or_false (nat_lt j k))
