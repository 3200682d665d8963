-- Lists of which one item is pushed or set.
use Rattle.std.proofs.Common.{◌≡◌, ◌≢◌, ℕ, zero, suc, ◌+◌, ◌<◌, List, [], ◌∷◌, ◌++◌, length, get_or, set, get_or-set_same, get_or-set_other, sym, refl, ap, ◌∙◌, subst, arith}
use Rattle.std.proofs.lemmas.List.{get_or_default}
use native.Mathlib.Decide.{ℕ_discrete}
use mathlib.Core.Logic.{dite}

-- some item of a list that has one
pub some_of : {A : Type 0} (l : List A) (k : ℕ) → k < length l → A
some_of [] k h = absurd (omega arith)
some_of (x ∷ xs) k h = x

pub last_of : {A : Type 0} (l : List A) (x d : A) → get_or (l ++ x ∷ []) (length l) d ≡ x
last_of [] x d = refl
last_of (y ∷ ys) x d = last_of ys x d

pub first_of : {A : Type 0} (l : List A) (x : A) (k : ℕ) (d : A) → k < length l → get_or (l ++ x ∷ []) k d ≡ get_or l k d
first_of [] x k d h = absurd (omega arith)
first_of (y ∷ ys) x zero d h = refl
first_of (y ∷ ys) x (suc k) d h = first_of ys x k d (omega arith)

pub length_push : {A : Type 0} (l : List A) (x : A) → length (l ++ x ∷ []) ≡ length l + 1
length_push [] x = refl
length_push (y ∷ ys) x = let r = length_push ys x in omega (arith, r)

-- an item is pushed to the second list
pub pair_push : {A B : Type 0} (Q : A → B → Type 0) (xs : List A) (ys : List B) (n : ℕ) (x : A) (y : B) → length ys ≡ n → n < length xs → x ≡ get_or xs n x → Q x y
    → ((k : ℕ) (d : A) (e : B) → k < n → Q (get_or xs k d) (get_or ys k e)) → (k : ℕ) (d : A) (e : B) → k < n + 1 → Q (get_or xs k d) (get_or (ys ++ y ∷ []) k e)
pair_push Q xs ys n x y len h is q before k d e lt = dite (ℕ_discrete k n)
    (λ same. subst (λ j. Q (get_or xs j d) (get_or (ys ++ y ∷ []) j e)) (sym same) (subst (Q (get_or xs n d)) (sym (ap (λ j. get_or (ys ++ y ∷ []) j e) (sym len) ∙ last_of ys y e)) (subst (λ v. Q v y) (is ∙ get_or_default xs n x d h) q)))
    (λ other. subst (Q (get_or xs k d)) (sym (first_of ys y k e (omega (arith, lt, other, len)))) (before k d e (omega (arith, lt, other))))

-- the item i of the second list is set next
pub pair_next : {A B : Type 0} (Q : A → B → Type 0) (xs : List A) (ys : List B) (i n : ℕ) (x : A) (y : B) → i < length xs → i < length ys → x ≡ get_or xs i x → Q x y
    → ((k : ℕ) (d : A) (e : B) → k < n → k ≢ i → Q (get_or xs k d) (get_or ys k e)) → (k : ℕ) (d : A) (e : B) → k < n → Q (get_or xs k d) (get_or (set ys i y) k e)
pair_next Q xs ys i n x y h h' is q others k d e lt = dite (ℕ_discrete k i)
    (λ same. subst (λ j. Q (get_or xs j d) (get_or (set ys i y) j e)) (sym same) (subst (Q (get_or xs i d)) (sym (get_or-set_same ys i y e h')) (subst (λ v. Q v y) (is ∙ get_or_default xs i x d h) q)))
    (λ other. subst (Q (get_or xs k d)) (sym (get_or-set_other ys i k y e other)) (others k d e lt other))
