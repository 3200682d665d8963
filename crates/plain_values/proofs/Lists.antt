-- Loops over lists.
use Rattle.std.proofs.Common.{◌≡◌, ℕ, zero, suc, ◌+◌, ◌<◌, ◌≤◌, min, List, [], ◌∷◌, ◌++◌, map, length, take, drop, get_or, zip, refl, sym, ap, ap₂, ◌∙◌, arith}
use Rattle.std.proofs.lemmas.List.{drop_more}

pub drop_there : {A : Type 0} (xs : List A) (k : ℕ) (x : A) → k < length xs → x ≡ get_or xs k x → drop k xs ≡ x ∷ drop (k + 1) xs
drop_there xs k x h is = drop_more xs k x h ∙ ap (λ y. y ∷ drop (k + 1) xs) (sym is)

pub drop_past : {A : Type 0} (xs : List A) (k : ℕ) → length xs ≤ k → drop k xs ≡ []
drop_past [] zero h = refl
drop_past [] (suc k) h = refl
drop_past (x ∷ xs) zero h = absurd (omega (arith, h))
drop_past (x ∷ xs) (suc k) h = drop_past xs k (omega (arith, h))

pub take_whole : {A : Type 0} (xs : List A) (k : ℕ) → length xs ≤ k → take k xs ≡ xs
take_whole [] zero h = refl
take_whole [] (suc k) h = refl
take_whole (x ∷ xs) zero h = absurd (omega (arith, h))
take_whole (x ∷ xs) (suc k) h = ap (λ l. x ∷ l) (take_whole xs k (omega (arith, h)))

pub zip_take : {A B : Type 0} (xs : List A) (ys : List B) (k : ℕ) → min (length xs) (length ys) ≤ k → zip (take k xs) (take k ys) ≡ zip xs ys
zip_take [] ys zero h = refl
zip_take [] ys (suc k) h = refl
zip_take (x ∷ xs) [] zero h = refl
zip_take (x ∷ xs) [] (suc k) h = refl
zip_take (x ∷ xs) (y ∷ ys) zero h = absurd (omega (arith, h))
zip_take (x ∷ xs) (y ∷ ys) (suc k) h = ap (λ l. (x, y) ∷ l) (zip_take xs ys k (omega (arith, h)))

pub zip_more : {A B : Type 0} (xs : List A) (ys : List B) (k : ℕ) (x : A) (y : B) → k < length xs → k < length ys → x ≡ get_or xs k x → y ≡ get_or ys k y
    → zip (take (k + 1) xs) (take (k + 1) ys) ≡ zip (take k xs) (take k ys) ++ (x, y) ∷ []
zip_more [] ys k x y h l p q = absurd (omega (arith, h))
zip_more (a ∷ xs) [] k x y h l p q = absurd (omega (arith, l))
zip_more (a ∷ xs) (b ∷ ys) zero x y h l p q = ap₂ (λ u v. (u, v) ∷ []) (sym p) (sym q)
zip_more (a ∷ xs) (b ∷ ys) (suc k) x y h l p q =
    let next : suc k + 1 ≡ suc (k + 1) = omega arith in
    ap (λ n. zip (take n (a ∷ xs)) (take n (b ∷ ys))) next ∙ ap (λ l. (a, b) ∷ l) (zip_more xs ys k x y (omega (arith, h)) (omega (arith, l)) p q)

pub three_there : {A : Type 0} (xs : List A) (a b c : A) → 3 ≤ length xs → length xs ≤ 3 → a ≡ get_or xs 0 a → b ≡ get_or xs 1 b → c ≡ get_or xs 2 c → xs ≡ a ∷ b ∷ c ∷ []
three_there [] a b c l m p q r = absurd (omega (arith, l))
three_there (x ∷ []) a b c l m p q r = absurd (omega (arith, l))
three_there (x ∷ y ∷ []) a b c l m p q r = absurd (omega (arith, l))
three_there (x ∷ y ∷ z ∷ []) a b c l m p q r = ap (λ u. u ∷ y ∷ z ∷ []) (sym p) ∙ ap₂ (λ u v. a ∷ u ∷ v ∷ []) (sym q) (sym r)
three_there (x ∷ y ∷ z ∷ w ∷ ws) a b c l m p q r = absurd (omega (arith, m))
