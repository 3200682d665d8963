-- Lists: what is in them, and lists in which nothing stands twice.
use Rattle.std.proofs.Common.{◌≡◌, ◌⊎◌, inl, inr, ⊎_elim, ℕ, zero, suc, ◌+◌, ◌<◌, ◌≤◌, Bool, true, false, List, [], ◌∷◌, ◌++◌, map, length, get_or, slice_get, zip, Option, Some, None, refl, sym, subst, ap, ◌∙◌, arith}
use Rattle.std.specs.Prelude.{Contains}
use Rattle.std.specs.List.{flat_map, filter_map, cons_option, range_with_len}
use Rattle.std.proofs.lemmas.List.Concat.{flat_map-cons}
use Rattle.std.proofs.lemmas.List.Elements.{Contains-append_left, Contains-append_right, Contains-append_cases}
use Rattle.std.proofs.lemmas.Option.{slice_get-get_or}
use Rattle.cone_cutter.proofs.Lists.{Pairs, pairs_first, pairs_rest}
use Rattle.partition_code.proofs.Blocks.{some_same, none_some}

-- what is in a list

pub item_at : {A : Type 0} (xs : List A) (x : A) → Contains xs x → (k : ℕ) × (slice_get xs k ≡ Some x)
item_at xs x c = (c.0, slice_get-get_or xs c.0 x c.1 ∙ ap Some c.2)

pub none_in : {A : Type 0} (x : A) → Contains [] x → ⊥
none_in x c = let lt = c.1 in omega (arith, lt)

pub first_in : {A : Type 0} (y : A) (xs : List A) (x : A) → y ≡ x → Contains (y ∷ xs) x
first_in y xs x e = (0, omega arith, e)

pub later_in : {A : Type 0} (y : A) (xs : List A) (x : A) → Contains xs x → Contains (y ∷ xs) x
later_in y xs x (k, below, is) = (suc k, omega (arith, below), is)

cases_at : {A : Type 0} (y : A) (xs : List A) (x : A) (k : ℕ) → k < length (y ∷ xs) → get_or (y ∷ xs) k x ≡ x → (y ≡ x) ⊎ Contains xs x
cases_at y xs x zero lt e = inl e
cases_at y xs x (suc k) lt e = inr (k, omega (arith, lt), e)

pub cons_cases : {A : Type 0} (y : A) (xs : List A) (x : A) → Contains (y ∷ xs) x → (y ≡ x) ⊎ Contains xs x
cons_cases y xs x c = cases_at y xs x c.0 c.1 c.2

pub among : {A : Type 0} (xs : List A) (k : ℕ) (x : A) → slice_get xs k ≡ Some x → Contains xs x
among [] k x e = absurd (none_some e)
among (y ∷ xs) zero x e = first_in y xs x (some_same e)
among (y ∷ xs) (suc k) x e = later_in y xs x (among xs k x e)

pub from_map : {A B : Type 0} (f : A → B) (xs : List A) (y : B) → Contains (map f xs) y → (x : A) × Contains xs x × (f x ≡ y)
from_map f [] y c = absurd (none_in y c)
from_map f (a ∷ xs) y c = ⊎_elim
    (λ e. (a, first_in a xs a refl, e))
    (λ l. let h = from_map f xs y l in (h.0, later_in a xs h.0 h.1, h.2))
    (cons_cases (f a) (map f xs) y c)

pub to_map : {A B : Type 0} (f : A → B) (xs : List A) (x : A) → Contains xs x → Contains (map f xs) (f x)
to_map f [] x c = absurd (none_in x c)
to_map f (a ∷ xs) x c = ⊎_elim
    (λ e. first_in (f a) (map f xs) (f x) (ap f e))
    (λ l. later_in (f a) (map f xs) (f x) (to_map f xs x l))
    (cons_cases a xs x c)

pub from_flat : {A B : Type 0} (f : A → List B) (xs : List A) (y : B) → Contains (flat_map f xs) y → (x : A) × Contains xs x × Contains (f x) y
from_flat f [] y c = absurd (none_in y c)
from_flat f (a ∷ xs) y c = ⊎_elim
    (λ h. (a, first_in a xs a refl, h))
    (λ l. let h = from_flat f xs y l in (h.0, later_in a xs h.0 h.1, h.2))
    (Contains-append_cases (f a) (flat_map f xs) y (subst (λ ys. Contains ys y) (flat_map-cons f a xs) c))

pub to_flat : {A B : Type 0} (f : A → List B) (xs : List A) (x : A) (y : B) → Contains xs x → Contains (f x) y → Contains (flat_map f xs) y
to_flat f [] x y c d = absurd (none_in x c)
to_flat f (a ∷ xs) x y c d = subst (λ ys. Contains ys y) (sym (flat_map-cons f a xs)) (⊎_elim
    (λ e. Contains-append_left (f a) (flat_map f xs) y (subst (λ z. Contains (f z) y) (sym e) d))
    (λ l. Contains-append_right (f a) (flat_map f xs) y (to_flat f xs x y l d))
    (cons_cases a xs x c))

option_cases : {B : Type 0} (o : Option B) (ys : List B) (y : B) → Contains (cons_option o ys) y → (o ≡ Some y) ⊎ Contains ys y
option_cases None ys y c = inr c
option_cases (Some b) ys y c = ⊎_elim (λ e. inl (ap Some e)) (λ l. inr l) (cons_cases b ys y c)

option_later : {B : Type 0} (o : Option B) (ys : List B) (y : B) → Contains ys y → Contains (cons_option o ys) y
option_later None ys y c = c
option_later (Some b) ys y c = later_in b ys y c

pub from_filter_map : {A B : Type 0} (f : A → Option B) (xs : List A) (y : B) → Contains (filter_map f xs) y → (x : A) × Contains xs x × (f x ≡ Some y)
from_filter_map f [] y c = absurd (none_in y c)
from_filter_map f (a ∷ xs) y c = ⊎_elim
    (λ e. (a, first_in a xs a refl, e))
    (λ l. let h = from_filter_map f xs y l in (h.0, later_in a xs h.0 h.1, h.2))
    (option_cases (f a) (filter_map f xs) y c)

pub to_filter_map : {A B : Type 0} (f : A → Option B) (xs : List A) (x : A) (y : B) → Contains xs x → f x ≡ Some y → Contains (filter_map f xs) y
to_filter_map f [] x y c e = absurd (none_in x c)
to_filter_map f (a ∷ xs) x y c e = ⊎_elim
    (λ same. subst (λ o. Contains (cons_option o (filter_map f xs)) y) (sym (ap f same ∙ e)) (first_in y (filter_map f xs) y refl))
    (λ l. option_later (f a) (filter_map f xs) y (to_filter_map f xs x y l e))
    (cons_cases a xs x c)

pub from_numbered : {A : Type 0} (a : ℕ) (xs : List A) (k : ℕ) (both : ℕ × A) → slice_get (zip (range_with_len a (length xs)) xs) k ≡ Some both → (both.0 ≡ a + k) × (slice_get xs k ≡ Some both.1)
from_numbered a [] k both e = absurd (none_some e)
from_numbered a (x ∷ xs) zero both e = let z : a ≡ a + 0 = omega arith in (ap (λ b. b.0) (sym (some_same e)) ∙ z, ap (λ b. Some b.1) (some_same e))
from_numbered a (x ∷ xs) (suc k) both e = let z : a + 1 + k ≡ a + suc k = omega arith in let rest = from_numbered (a + 1) xs k both e in (rest.0 ∙ z, rest.1)

-- what is true of each item

abbrev pub Each : {A : Type 0} → (A → Type 0) → List A → Type 0
Each {A} P xs = (k : ℕ) (x : A) → slice_get xs k ≡ Some x → P x

pub each_none : {A : Type 0} (P : A → Type 0) → Each P []
each_none P k x e = absurd (none_some e)

pub each_cons : {A : Type 0} (P : A → Type 0) (x : A) (xs : List A) → P x → Each P xs → Each P (x ∷ xs)
each_cons P x xs p h zero y e = subst P (some_same e) p
each_cons P x xs p h (suc k) y e = h k y e

pub each_append : {A : Type 0} (P : A → Type 0) (xs ys : List A) → Each P xs → Each P ys → Each P (xs ++ ys)
each_append P [] ys h g = g
each_append P (x ∷ xs) ys h g = each_cons P x (xs ++ ys) (h 0 x refl) (each_append P xs ys (λ k. h (suc k)) g)

pub each_flat : {A B : Type 0} (P : B → Type 0) (f : A → List B) (xs : List A) → ((k : ℕ) (x : A) → slice_get xs k ≡ Some x → Each P (f x)) → Each P (flat_map f xs)
each_flat P f [] h = each_none P
each_flat P f (x ∷ xs) h = subst (Each P) (sym (flat_map-cons f x xs)) (each_append P (f x) (flat_map f xs) (h 0 x refl) (each_flat P f xs (λ k. h (suc k))))

-- lists in which nothing stands twice

abbrev pub Distinct : {A : Type 0} → List A → Type 0
Distinct [] = Unit {0}
Distinct (x ∷ xs) = (Contains xs x → ⊥) × Distinct xs

pub distinct_at : {A : Type 0} (xs : List A) (j k : ℕ) (x : A) → Distinct xs → slice_get xs j ≡ Some x → slice_get xs k ≡ Some x → j ≡ k
distinct_at [] j k x d e f = absurd (none_some e)
distinct_at (y ∷ xs) zero zero x d e f = refl
distinct_at (y ∷ xs) zero (suc k) x d e f = absurd (d.0 (among xs k y (f ∙ sym e)))
distinct_at (y ∷ xs) (suc j) zero x d e f = absurd (d.0 (among xs j y (e ∙ sym f)))
distinct_at (y ∷ xs) (suc j) (suc k) x d e f = ap suc (distinct_at xs j k x d.1 e f)

pub distinct_append : {A : Type 0} (xs ys : List A) → Distinct xs → Distinct ys → ((x : A) → Contains xs x → Contains ys x → ⊥) → Distinct (xs ++ ys)
distinct_append [] ys d e apart = e
distinct_append (x ∷ xs) ys d e apart = (
  λ c. ⊎_elim (λ l. d.0 l) (λ r. apart x (first_in x xs x refl) r) (Contains-append_cases xs ys x c),
  distinct_append xs ys d.1 e (λ y l r. apart y (later_in x xs y l) r),
)

pub distinct_map : {A B : Type 0} (f : A → B) → ((x y : A) → f x ≡ f y → x ≡ y) → (xs : List A) → Distinct xs → Distinct (map f xs)
distinct_map f one [] d = tt
distinct_map f one (x ∷ xs) d = (λ c. let h = from_map f xs (f x) c in d.0 (subst (Contains xs) (one h.0 x h.2) h.1), distinct_map f one xs d.1)

pub distinct_rising : (xs : List ℕ) → Pairs (λ a b. a < b) xs → Distinct xs
distinct_rising [] h = tt
distinct_rising (x ∷ xs) h = (λ c. let lt = pairs_first (λ a b. a < b) x xs h x c in absurd (omega (arith, lt)), distinct_rising xs (pairs_rest (λ a b. a < b) x xs h))

pub distinct_flat : {A B : Type 0} (f : A → List B) (xs : List A) → Distinct xs → ((x : A) → Distinct (f x)) → ((x y : A) (b : B) → Contains (f x) b → Contains (f y) b → x ≡ y) → Distinct (flat_map f xs)
distinct_flat f [] d each key = tt
distinct_flat f (x ∷ xs) d each key = subst Distinct (sym (flat_map-cons f x xs)) (distinct_append (f x) (flat_map f xs) (each x) (distinct_flat f xs d.1 each key)
    (λ b l r. let h = from_flat f xs b r in d.0 (subst (Contains xs) (sym (key x h.0 b l h.2)) h.1)))
