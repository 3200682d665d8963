-- Lists with their numbers.
use Rattle.std.proofs.Common.{◌≡◌, ℕ, zero, suc, ◌+◌, ◌<◌, ◌≤◌, List, [], ◌∷◌, ◌++◌, map, flat_map, take, length, slice_get, Option, Some, None, refl, sym, subst, ap, ap₂, ◌∙◌, arith}
use Rattle.std.specs.Prelude.{Contains, zip}
use Rattle.std.specs.List.{range_with_len}
use Rattle.std.proofs.lemmas.List.{append-nil}
use Rattle.std.proofs.lemmas.Grind.{flat_map-append}
use Rattle.ground_net.specs.Cones.{numbered}

pub some_same : {A : Type 0} {x y : A} → Some x ≡ Some y → x ≡ y
some_same e = cc

pub none_some : {A : Type 0} {x : A} → None ≡ Some x → ⊥
none_some e = cc

abbrev pub from_number : {A : Type 0} → ℕ → List A → List (ℕ × A)
from_number i xs = zip (range_with_len i (length xs)) xs

more_from : {A : Type 0} (i : ℕ) (xs : List A) (k : ℕ) (x : A) → slice_get xs k ≡ Some x → take (suc k) (from_number i xs) ≡ take k (from_number i xs) ++ (i + k, x) ∷ []
more_from i [] k x e = absurd (none_some e)
more_from i (y ∷ ys) zero x e = let z : i ≡ i + 0 = omega arith in ap₂ (λ n w. (n, w) ∷ []) z (some_same e)
more_from i (y ∷ ys) (suc k) x e = let z : i + 1 + k ≡ i + suc k = omega arith in ap (λ ps. (i, y) ∷ ps) (more_from (i + 1) ys k x e ∙ ap (λ n. take k (from_number (i + 1) ys) ++ (n, x) ∷ []) z)

-- one item more
pub numbered_more : {A : Type 0} (xs : List A) (k : ℕ) (x : A) → slice_get xs k ≡ Some x → take (k + 1) (numbered xs) ≡ take k (numbered xs) ++ (k, x) ∷ []
numbered_more xs k x e =
    let s : k + 1 ≡ suc k = omega arith in
    let z : 0 + k ≡ k = omega arith in
    ap (λ n. take n (numbered xs)) s ∙ (more_from 0 xs k x e ∙ ap (λ n. take k (numbered xs) ++ (n, x) ∷ []) z)

all_from : {A : Type 0} (i : ℕ) (xs : List A) → length (from_number i xs) ≡ length xs
all_from i [] = refl
all_from i (x ∷ xs) = ap suc (all_from (i + 1) xs)

pub numbered_long : {A : Type 0} (xs : List A) → length (numbered xs) ≡ length xs
numbered_long xs = all_from 0 xs

each_from : {A B : Type 0} (f : ℕ × A → List B) (g : A → List B) (i : ℕ) (xs : List A) → ((j : ℕ) (x : A) → slice_get xs j ≡ Some x → f (i + j, x) ≡ g x) → flat_map f (from_number i xs) ≡ flat_map g xs
each_from f g i [] h = refl
each_from f g i (x ∷ xs) h =
    let z : i ≡ i + 0 = omega arith in
    ap₂ (λ a b. a ++ b) (ap (λ n. f (n, x)) z ∙ h 0 x refl) (each_from f g (i + 1) xs (λ j y e. let s : i + 1 + j ≡ i + suc j = omega arith in ap (λ n. f (n, y)) s ∙ h (suc j) y e))

-- what doesn't depend on the number
pub each_numbered : {A B : Type 0} (f : ℕ × A → List B) (g : A → List B) (xs : List A) → ((j : ℕ) (x : A) → slice_get xs j ≡ Some x → f (j, x) ≡ g x) → flat_map f (numbered xs) ≡ flat_map g xs
each_numbered f g xs h = each_from f g 0 xs (λ j x e. let z : 0 + j ≡ j = omega arith in ap (λ n. f (n, x)) z ∙ h j x e)

pub nothing_left : {A B : Type 0} (f : A → List B) (xs : List A) → ((x : A) → f x ≡ []) → flat_map f xs ≡ []
nothing_left f [] h = refl
nothing_left f (x ∷ xs) h = ap₂ (λ a b. a ++ b) (h x) (nothing_left f xs h)

none_from : {A B : Type 0} (f : ℕ × A → List B) (i : ℕ) (xs : List A) → ((j : ℕ) (x : A) → f (i + j, x) ≡ []) → flat_map f (from_number i xs) ≡ []
none_from f i [] h = refl
none_from f i (x ∷ xs) h =
    let z : i ≡ i + 0 = omega arith in
    ap₂ (λ a b. a ++ b) (ap (λ n. f (n, x)) z ∙ h 0 x) (none_from f (i + 1) xs (λ j y. let s : i + 1 + j ≡ i + suc j = omega arith in ap (λ n. f (n, y)) s ∙ h (suc j) y))

one_from : {A B : Type 0} (f : ℕ × A → List B) (i : ℕ) (xs : List A) (m : ℕ) (x : A) → slice_get xs m ≡ Some x → ((j : ℕ) (y : A) → (j ≡ i + m → ⊥) → f (j, y) ≡ []) → flat_map f (from_number i xs) ≡ f (i + m, x)
one_from f i [] m x e h = absurd (none_some e)
one_from f i (y ∷ ys) zero x e h =
    let z : i ≡ i + 0 = omega arith in
    ap₂ (λ a b. a ++ b) (ap₂ (λ n w. f (n, w)) z (some_same e)) (none_from f (i + 1) ys (λ j w. h (i + 1 + j) w (λ q. omega (arith, q)))) ∙ append-nil (f (i + 0, x))
one_from f i (y ∷ ys) (suc m) x e h =
    let s : i + 1 + m ≡ i + suc m = omega arith in
    ap₂ (λ a b. a ++ b) (h i y (λ q. omega (arith, q))) (one_from f (i + 1) ys m x e (λ j w ne. h j w (λ q. ne (q ∙ sym s)))) ∙ ap (λ n. f (n, x)) s

-- what only the item of one number leaves
pub one_numbered : {A B : Type 0} (f : ℕ × A → List B) (xs : List A) (m : ℕ) (x : A) → slice_get xs m ≡ Some x → ((j : ℕ) (y : A) → (j ≡ m → ⊥) → f (j, y) ≡ []) → flat_map f (numbered xs) ≡ f (m, x)
one_numbered f xs m x e h =
    let z : 0 + m ≡ m = omega arith in
    one_from f 0 xs m x e (λ j y ne. h j y (λ q. ne (q ∙ sym z))) ∙ ap (λ n. f (n, x)) z

pub flat_twice : {A B C : Type 0} (f : B → List C) (g : A → List B) (xs : List A) → flat_map f (flat_map g xs) ≡ flat_map (λ x. flat_map f (g x)) xs
flat_twice f g [] = refl
flat_twice f g (x ∷ xs) = flat_map-append f (g x) (flat_map g xs) ∙ ap (λ l. flat_map f (g x) ++ l) (flat_twice f g xs)

pub flat_mapped : {A B C : Type 0} (f : B → List C) (g : A → B) (xs : List A) → flat_map f (map g xs) ≡ flat_map (λ x. f (g x)) xs
flat_mapped f g [] = refl
flat_mapped f g (x ∷ xs) = ap (λ l. f (g x) ++ l) (flat_mapped f g xs)

-- Where items stand

to_right : {A : Type 0} (xs ys : List A) (j : ℕ) (y : A) → slice_get ys j ≡ Some y → (n : ℕ) × (slice_get (xs ++ ys) n ≡ Some y)
to_right [] ys j y e = (j, e)
to_right (x ∷ xs) ys j y e = let r = to_right xs ys j y e in (suc r.0, r.1)

to_left : {A : Type 0} (xs ys : List A) (j : ℕ) (y : A) → slice_get xs j ≡ Some y → slice_get (xs ++ ys) j ≡ Some y
to_left [] ys j y e = absurd (none_some e)
to_left (x ∷ xs) ys zero y e = e
to_left (x ∷ xs) ys (suc j) y e = to_left xs ys j y e

pub to_flat_map : {A B : Type 0} (f : A → List B) (xs : List A) (k j : ℕ) (x : A) (y : B) → slice_get xs k ≡ Some x → slice_get (f x) j ≡ Some y → (n : ℕ) × (slice_get (flat_map f xs) n ≡ Some y)
to_flat_map f [] k j x y e h = absurd (none_some e)
to_flat_map f (z ∷ zs) zero j x y e h = (j, to_left (f z) (flat_map f zs) j y (ap (λ w. slice_get (f w) j) (some_same e) ∙ h))
to_flat_map f (z ∷ zs) (suc k) j x y e h = let r = to_flat_map f zs k j x y e h in to_right (f z) (flat_map f zs) r.0 y r.1

at_from : {A : Type 0} (i : ℕ) (xs : List A) (k : ℕ) (x : A) → slice_get xs k ≡ Some x → slice_get (from_number i xs) k ≡ Some (i + k, x)
at_from i [] k x e = absurd (none_some e)
at_from i (y ∷ ys) zero x e = let z : i ≡ i + 0 = omega arith in ap₂ (λ n w. Some (n, w)) z (some_same e)
at_from i (y ∷ ys) (suc k) x e = let s : i + 1 + k ≡ i + suc k = omega arith in at_from (i + 1) ys k x e ∙ ap (λ n. Some (n, x)) s

pub at_numbered : {A : Type 0} (xs : List A) (k : ℕ) (x : A) → slice_get xs k ≡ Some x → slice_get (numbered xs) k ≡ Some (k, x)
at_numbered xs k x e = let z : 0 + k ≡ k = omega arith in at_from 0 xs k x e ∙ ap (λ n. Some (n, x)) z

pub at_map : {A B : Type 0} (f : A → B) (xs : List A) (k : ℕ) (x : A) → slice_get xs k ≡ Some x → slice_get (map f xs) k ≡ Some (f x)
at_map f [] k x e = absurd (none_some e)
at_map f (y ∷ ys) zero x e = ap (λ w. Some (f w)) (some_same e)
at_map f (y ∷ ys) (suc k) x e = at_map f ys k x e

-- What lists contain

pub in_head : {A : Type 0} (x : A) (xs : List A) → Contains (x ∷ xs) x
in_head x xs = (0, omega arith, refl)

pub in_tail : {A : Type 0} (y x : A) (xs : List A) → Contains xs x → Contains (y ∷ xs) x
in_tail y x xs c = let lt = c.1 in (suc c.0, omega (arith, lt), c.2)

pub in_left : {A : Type 0} (xs ys : List A) (x : A) → Contains xs x → Contains (xs ++ ys) x
in_left [] ys x c = let lt = c.1 in absurd (omega (arith, lt))
in_left (z ∷ zs) ys x (zero, lt, e) = (0, omega arith, e)
in_left (z ∷ zs) ys x (suc k, lt, e) = in_tail z x (zs ++ ys) (in_left zs ys x (k, omega (arith, lt), e))

pub in_right : {A : Type 0} (xs ys : List A) (x : A) → Contains ys x → Contains (xs ++ ys) x
in_right [] ys x c = c
in_right (z ∷ zs) ys x c = in_tail z x (zs ++ ys) (in_right zs ys x c)

pub in_flat_map : {A B : Type 0} (f : A → List B) (xs : List A) (k : ℕ) (x : A) (y : B) → slice_get xs k ≡ Some x → Contains (f x) y → Contains (flat_map f xs) y
in_flat_map f [] k x y e c = absurd (none_some e)
in_flat_map f (z ∷ zs) zero x y e c = in_left (f z) (flat_map f zs) y (subst (λ w. Contains (f w) y) (sym (some_same e)) c)
in_flat_map f (z ∷ zs) (suc k) x y e c = in_right (f z) (flat_map f zs) y (in_flat_map f zs k x y e c)

pub in_place : {A : Type 0} (xs : List A) (k : ℕ) (x : A) → slice_get xs k ≡ Some x → Contains xs x
in_place [] k x e = absurd (none_some e)
in_place (y ∷ ys) zero x e = subst (λ w. Contains (w ∷ ys) x) (sym (some_same e)) (in_head x ys)
in_place (y ∷ ys) (suc k) x e = in_tail y x ys (in_place ys k x e)

-- an item stands at each number below the length
pub some_there : {A : Type 0} (xs : List A) (k : ℕ) → k < length xs → (x : A) × (slice_get xs k ≡ Some x)
some_there [] k lt = absurd (omega (arith, lt))
some_there (x ∷ xs) zero lt = (x, refl)
some_there (x ∷ xs) (suc k) lt = some_there xs k (omega (arith, lt))

pub below_there : {A : Type 0} (xs : List A) (k : ℕ) (x : A) → slice_get xs k ≡ Some x → k < length xs
below_there [] k x e = absurd (none_some e)
below_there (y ∷ ys) zero x e = omega arith
below_there (y ∷ ys) (suc k) x e = let lt = below_there ys k x e in omega (arith, lt)
