-- Lists side by side, and ends of lists.
use Rattle.std.proofs.Common.{◌≡◌, ℕ, zero, suc, ◌+◌, ◌<◌, ◌≤◌, min, List, [], ◌∷◌, ◌++◌, map, length, take, drop, get_or, zip, slice_get, refl, sym, ap, ap₂, ◌∙◌, arith, Some}
use Rattle.std.specs.Prelude.{Contains}
use Rattle.std.proofs.lemmas.List.{drop_more}
use Rattle.fir_meaning.proofs.Tracking.{none_some}
use Rattle.fir_names.proofs.Graphs.{some_same}

pub zip_mapped : {A B C : Type 0} (f : A → B) (xs : List A) (ys : List C) (k : ℕ) → min (length xs) (length ys) ≤ k → zip (map f (take k xs)) (take k ys) ≡ zip (map f xs) ys
zip_mapped f [] ys zero h = refl
zip_mapped f [] ys (suc k) h = refl
zip_mapped f (x ∷ xs) [] zero h = refl
zip_mapped f (x ∷ xs) [] (suc k) h = refl
zip_mapped f (x ∷ xs) (y ∷ ys) zero h = absurd (omega (arith, h))
zip_mapped f (x ∷ xs) (y ∷ ys) (suc k) h = ap (λ l. (f x, y) ∷ l) (zip_mapped f xs ys k (omega (arith, h)))

pub zip_mapped_more : {A B C : Type 0} (f : A → B) (xs : List A) (ys : List C) (k : ℕ) (x : A) (y : C) → k < length xs → k < length ys → x ≡ get_or xs k x → y ≡ get_or ys k y
    → zip (map f (take (k + 1) xs)) (take (k + 1) ys) ≡ zip (map f (take k xs)) (take k ys) ++ (f x, y) ∷ []
zip_mapped_more f [] ys k x y h l p q = absurd (omega (arith, h))
zip_mapped_more f (a ∷ xs) [] k x y h l p q = absurd (omega (arith, l))
zip_mapped_more f (a ∷ xs) (b ∷ ys) zero x y h l p q = ap₂ (λ u v. (f u, v) ∷ []) (sym p) (sym q)
zip_mapped_more f (a ∷ xs) (b ∷ ys) (suc k) x y h l p q =
    let next : suc k + 1 ≡ suc (k + 1) = omega arith in
    ap (λ n. zip (map f (take n (a ∷ xs))) (take n (b ∷ ys))) next ∙ ap (λ l. (f a, b) ∷ l) (zip_mapped_more f xs ys k x y (omega (arith, h)) (omega (arith, l)) p q)

pub drop_there : {A : Type 0} (xs : List A) (k : ℕ) (x : A) → k < length xs → x ≡ get_or xs k x → drop k xs ≡ x ∷ drop (k + 1) xs
drop_there xs k x h is = drop_more xs k x h ∙ ap (λ y. y ∷ drop (k + 1) xs) (sym is)

pub drop_past : {A : Type 0} (xs : List A) (k : ℕ) → length xs ≤ k → drop k xs ≡ []
drop_past [] zero h = refl
drop_past [] (suc k) h = refl
drop_past (x ∷ xs) zero h = absurd (omega (arith, h))
drop_past (x ∷ xs) (suc k) h = drop_past xs k (omega (arith, h))

pub one_in : {A : Type 0} (y x : A) → Contains (y ∷ []) x → x ≡ y
one_in y x (zero, below, is) = sym is
one_in y x (suc k, below, is) = absurd (omega (arith, below))

-- the first ones of a longer list
pub contains_taken : {A : Type 0} (xs : List A) (k : ℕ) (x : A) → Contains (take k xs) x → Contains xs x
contains_taken [] zero x c = c
contains_taken [] (suc k) x c = c
contains_taken (y ∷ xs) zero x (j, below, is) = absurd (omega (arith, below))
contains_taken (y ∷ xs) (suc k) x (zero, below, is) = (0, omega arith, is)
contains_taken (y ∷ xs) (suc k) x (suc j, below, is) =
    let rest = contains_taken xs k x (j, omega (arith, below), is) in
    (suc rest.0, omega (arith, rest.1), rest.2)

pub take_grown : {A : Type 0} (xs ys : List A) (k : ℕ) (x : A) → slice_get xs k ≡ Some x → take (k + 1) (xs ++ ys) ≡ take k xs ++ x ∷ []
take_grown [] ys k x e = absurd (none_some e)
take_grown (a ∷ xs) ys zero x e = ap (λ z. z ∷ []) (some_same e)
take_grown (a ∷ xs) ys (suc k) x e =
    let next : suc k + 1 ≡ suc (k + 1) = omega arith in
    ap (λ n. take n (a ∷ xs ++ ys)) next ∙ ap (λ l. a ∷ l) (take_grown xs ys k x e)

pub take_past : {A : Type 0} (xs : List A) (k : ℕ) → length xs ≤ k → take k xs ≡ xs
take_past [] zero h = refl
take_past [] (suc k) h = refl
take_past (x ∷ xs) zero h = absurd (omega (arith, h))
take_past (x ∷ xs) (suc k) h = ap (λ l. x ∷ l) (take_past xs k (omega (arith, h)))

-- Paths that end alike

head_same : {A : Type 0} {x y : A} {xs ys : List A} → x ∷ xs ≡ y ∷ ys → x ≡ y
head_same e = some_same (ap (λ l. slice_get l 0) e)

tail_same : {A : Type 0} {x y : A} {xs ys : List A} → x ∷ xs ≡ y ∷ ys → xs ≡ ys
tail_same e = ap (drop 1) e

pub not_snoc : (p : List ℕ) (i : ℕ) → [] ≡ p ++ i ∷ [] → ⊥
not_snoc [] i e = absurd (let l = ap length e in omega (arith, l))
not_snoc (x ∷ p) i e = absurd (let l = ap length e in omega (arith, l))

pub snoc_same : (p q : List ℕ) (i j : ℕ) → p ++ i ∷ [] ≡ q ++ j ∷ [] → (p ≡ q) × (i ≡ j)
snoc_same [] [] i j e = (refl, head_same e)
snoc_same [] (y ∷ q) i j e = absurd (not_snoc q j (tail_same e))
snoc_same (x ∷ p) [] i j e = absurd (not_snoc p i (sym (tail_same e)))
snoc_same (x ∷ p) (y ∷ q) i j e =
    let rest = snoc_same p q i j (tail_same e) in
    (ap₂ (λ (a : ℕ) (l : List ℕ). a ∷ l) (head_same e) rest.0, rest.1)
