-- Lists that are joined, and numbered items.
use Rattle.std.proofs.Common.{◌≡◌, ℕ, zero, suc, List, [], ◌∷◌, ◌++◌, length, refl, sym, ap, ◌∙◌, subst, arith, ◌<◌, ◌+◌, Option, Some, None, option_map, ◌⊎◌, inl, inr, ⊎_elim}
use Rattle.std.specs.Prelude.{zip}
use Rattle.std.specs.List.{slice_get, flat_map, range_with_len}
use Rattle.ground_net.specs.Cones.{numbered}
use Rattle.net_laws.proofs.Numbers.{some_same, none_some}

pub some_of : {A B : Type 0} (f : A → B) (o : Option A) (y : B) → option_map f o ≡ Some y → (x : A) × (o ≡ Some x) × (f x ≡ y)
some_of f (Some x) y e = (x, refl, some_same e)
some_of f None y e = none_some e

-- Lists that are joined

get_left : {A : Type 0} (xs ys : List A) (i : ℕ) (z : A) → slice_get xs i ≡ Some z → slice_get (xs ++ ys) i ≡ Some z
get_left [] ys i z e = none_some e
get_left (x ∷ xs) ys zero z e = e
get_left (x ∷ xs) ys (suc i) z e = get_left xs ys i z e

get_right : {A : Type 0} (xs ys : List A) (i : ℕ) (z : A) → slice_get ys i ≡ Some z → (j : ℕ) × (slice_get (xs ++ ys) j ≡ Some z)
get_right [] ys i z e = (i, e)
get_right (x ∷ xs) ys i z e = let more = get_right xs ys i z e in (suc more.0, more.1)

get_either : {A : Type 0} (xs ys : List A) (i : ℕ) (z : A) → slice_get (xs ++ ys) i ≡ Some z → (slice_get xs i ≡ Some z) ⊎ ((j : ℕ) × (slice_get ys j ≡ Some z))
get_either [] ys i z e = inr (i, e)
get_either (x ∷ xs) ys zero z e = inl e
get_either (x ∷ xs) ys (suc i) z e = get_either xs ys i z e

-- an item of the lists that items make comes from one of them
pub origin : {A B : Type 0} (f : A → List B) (xs : List A) (i : ℕ) (y : B) → slice_get (flat_map f xs) i ≡ Some y → (k : ℕ) × (x : A) × (j : ℕ) × (slice_get xs k ≡ Some x) × (slice_get (f x) j ≡ Some y)
origin f [] i y e = none_some e
origin f (x ∷ xs) i y e = ⊎_elim
    (λ h. (zero, x, i, refl, h))
    (λ h. let more = origin f xs h.0 y h.1 in (suc more.0, more.1, more.2, more.3, more.4))
    (get_either (f x) (flat_map f xs) i y e)

pub arrives : {A B : Type 0} (f : A → List B) (xs : List A) (k : ℕ) (x : A) (j : ℕ) (y : B) → slice_get xs k ≡ Some x → slice_get (f x) j ≡ Some y → (i : ℕ) × (slice_get (flat_map f xs) i ≡ Some y)
arrives f [] k x j y e h = none_some e
arrives f (z ∷ zs) zero x j y e h = (j, get_left (f z) (flat_map f zs) j y (subst (λ w. slice_get (f w) j ≡ Some y) (sym (some_same e)) h))
arrives f (z ∷ zs) (suc k) x j y e h = let more = arrives f zs k x j y e h in get_right (f z) (flat_map f zs) more.0 y more.1

-- Numbered items

numbered_from_get : {A : Type 0} (a : ℕ) (xs : List A) (k : ℕ) → slice_get (zip (range_with_len a (length xs)) xs) k ≡ option_map (λ x. (a + k, x)) (slice_get xs k)
numbered_from_get a [] k = refl
numbered_from_get a (y ∷ ys) zero = let z : a ≡ a + 0 = omega arith in ap (λ n. Some (n, y)) z
numbered_from_get a (y ∷ ys) (suc k) = let z : a + 1 + k ≡ a + suc k = omega arith in numbered_from_get (a + 1) ys k ∙ ap (λ n. option_map (λ x. (n, x)) (slice_get ys k)) z

numbered_get : {A : Type 0} (xs : List A) (k : ℕ) → slice_get (numbered xs) k ≡ option_map (λ x. (k, x)) (slice_get xs k)
numbered_get xs k = let z : 0 + k ≡ k = omega arith in numbered_from_get 0 xs k ∙ ap (λ n. option_map (λ x. (n, x)) (slice_get xs k)) z

pub numbered_is : {A : Type 0} (xs : List A) (k : ℕ) (x : A) → slice_get xs k ≡ Some x → slice_get (numbered xs) k ≡ Some (k, x)
numbered_is xs k x e = numbered_get xs k ∙ ap (option_map (λ x. (k, x))) e

pub numbered_parts : {A : Type 0} (xs : List A) (k : ℕ) (both : ℕ × A) → slice_get (numbered xs) k ≡ Some both → (both.0 ≡ k) × (slice_get xs k ≡ Some both.1)
numbered_parts xs k both e =
    let from = some_of (λ x. (k, x)) (slice_get xs k) both (sym (numbered_get xs k) ∙ e) in
    (ap (λ (b : ℕ × _). b.0) (sym from.2), from.1 ∙ ap (λ (b : ℕ × _). Some b.1) from.2)

pub range_get : (a n k : ℕ) → k < n → slice_get (range_with_len a n) k ≡ Some (a + k)
range_get a zero k h = absurd (omega (arith, h))
range_get a (suc n) zero h = let z : a ≡ a + 0 = omega arith in ap Some z
range_get a (suc n) (suc k) h = let z : a + 1 + k ≡ a + suc k = omega arith in range_get (a + 1) n k (omega (arith, h)) ∙ ap Some z
