-- Lists by their places.
use Rattle.std.proofs.Common.{◌≡◌, ℕ, zero, suc, ◌+◌, ◌<◌, List, [], ◌∷◌, ◌++◌, map, length, Some, refl, ap, subst, arith, ◌⊎◌, inl, inr, ⊎_elim}
use Rattle.std.specs.Prelude.{Contains}
use Rattle.std.specs.List.{slice_get}
use Rattle.net_laws.proofs.Numbers.{some_same, none_some}

pub in_list : {A : Type 0} (xs : List A) (k : ℕ) (x : A) → slice_get xs k ≡ Some x → Contains xs x
in_list [] k x e = none_some e
in_list (a ∷ xs) zero x e = (0, omega arith, some_same e)
in_list (a ∷ xs) (suc k) x e = let rest = in_list xs k x e in (suc rest.0, omega arith, rest.2)

pub place_of : {A : Type 0} (xs : List A) (x : A) → Contains xs x → (k : ℕ) × (slice_get xs k ≡ Some x)
place_of [] x (k, below, is) = absurd (omega arith)
place_of (a ∷ xs) x (zero, below, is) = (0, ap Some is)
place_of (a ∷ xs) x (suc k, below, is) = let rest = place_of xs x (k, omega arith, is) in (suc rest.0, rest.1)

pub later : {A : Type 0} (z : A) (xs : List A) (x : A) → Contains xs x → Contains (z ∷ xs) x
later z xs x (k, below, is) = (suc k, omega arith, is)

pub map_at : {A B : Type 0} (h : A → B) (xs : List A) (k : ℕ) (x : A) → slice_get xs k ≡ Some x → slice_get (map h xs) k ≡ Some (h x)
map_at h [] k x e = none_some e
map_at h (a ∷ xs) zero x e = ap Some (ap h (some_same e))
map_at h (a ∷ xs) (suc k) x e = map_at h xs k x e

pub from_map_at : {A B : Type 0} (h : A → B) (xs : List A) (k : ℕ) (y : B) → slice_get (map h xs) k ≡ Some y → (x : A) × (slice_get xs k ≡ Some x) × (h x ≡ y)
from_map_at h [] k y e = none_some e
from_map_at h (a ∷ xs) zero y e = (a, refl, some_same e)
from_map_at h (a ∷ xs) (suc k) y e = from_map_at h xs k y e

-- an item of two lists: of the first at its place, or of the second behind the first
pub in_append : {A : Type 0} (xs ys : List A) (k : ℕ) (x : A) → slice_get (xs ++ ys) k ≡ Some x → (slice_get xs k ≡ Some x) ⊎ ((j : ℕ) × (k ≡ length xs + j) × (slice_get ys j ≡ Some x))
in_append [] ys k x e = inr (k, omega arith, e)
in_append (z ∷ xs) ys zero x e = inl e
in_append (z ∷ xs) ys (suc k) x e = ⊎_elim (λ here. inl here) (λ there. let s : k ≡ length xs + there.0 = there.1 in inr (there.0, omega arith, there.2)) (in_append xs ys k x e)

pub first_of : {A : Type 0} (xs ys : List A) (k : ℕ) (x : A) → slice_get xs k ≡ Some x → slice_get (xs ++ ys) k ≡ Some x
first_of [] ys k x e = none_some e
first_of (z ∷ xs) ys zero x e = e
first_of (z ∷ xs) ys (suc k) x e = first_of xs ys k x e

pub second_of : {A : Type 0} (xs ys : List A) (k : ℕ) (x : A) → slice_get ys k ≡ Some x → slice_get (xs ++ ys) (length xs + k) ≡ Some x
second_of [] ys k x e = let n : k ≡ 0 + k = omega arith in subst (λ i. slice_get ys i ≡ Some x) n e
second_of (z ∷ xs) ys k x e =
    let n : suc (length xs + k) ≡ length (z ∷ xs) + k = omega arith in
    subst (λ i. slice_get (z ∷ (xs ++ ys)) i ≡ Some x) n (second_of xs ys k x e)

pub below_length : {A : Type 0} (xs : List A) (k : ℕ) (x : A) → slice_get xs k ≡ Some x → k < length xs
below_length [] k x e = none_some e
below_length (a ∷ xs) zero x e = omega arith
below_length (a ∷ xs) (suc k) x e = let rest = below_length xs k x e in omega arith

pub append_nil : {A : Type 0} (xs : List A) → xs ++ [] ≡ xs
append_nil [] = refl
append_nil (x ∷ xs) = ap (λ l. x ∷ l) (append_nil xs)
