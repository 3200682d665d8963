-- Members of lists.
use Rattle.std.proofs.Common.{◌≡◌, ℕ, zero, suc, ◌+◌, ◌<◌, ◌≤◌, List, [], ◌∷◌, map, length, slice_get, Some, None, refl, sym, ap, subst, arith, ⊎_elim}
use Rattle.std.specs.Prelude.{Contains}
use Rattle.std.specs.List.{flat_map, range_with_len}
use Rattle.std.proofs.lemmas.List.Concat.{flat_map-cons}
use Rattle.std.proofs.lemmas.List.Elements.{Contains-append_left, Contains-append_right, Contains-append_cases}

pub none_some : {A : Type 0} {x : A} → None ≡ Some x → ⊥
none_some e = cc

pub some_same : {A : Type 0} {x y : A} → Some x ≡ Some y → x ≡ y
some_same e = cc

-- a member stands at some place
pub at_place : {A : Type 0} (xs : List A) (x : A) → Contains xs x → (k : ℕ) × (slice_get xs k ≡ Some x)
at_place [] x (k, below, is) = absurd (omega arith)
at_place (y ∷ ys) x (zero, below, is) = (0, ap Some is)
at_place (y ∷ ys) x (suc k, below, is) =
    let rest = at_place ys x (k, omega arith, is) in
    (suc rest.0, rest.1)

pub from_place : {A : Type 0} (xs : List A) (k : ℕ) (x : A) → slice_get xs k ≡ Some x → Contains xs x
from_place [] k x e = absurd (none_some e)
from_place (y ∷ ys) zero x e = (0, omega arith, some_same e)
from_place (y ∷ ys) (suc k) x e =
    let rest = from_place ys k x e in
    (suc rest.0, omega arith, rest.2)

pub place_within : {A : Type 0} (xs : List A) (k : ℕ) (x : A) → slice_get xs k ≡ Some x → k < length xs
place_within [] k x e = absurd (none_some e)
place_within (y ∷ ys) zero x e = omega arith
place_within (y ∷ ys) (suc k) x e = let rest = place_within ys k x e in omega arith

pub item_at : {A : Type 0} (xs : List A) (k : ℕ) → k < length xs → (x : A) × (slice_get xs k ≡ Some x)
item_at [] k h = absurd (omega arith)
item_at (y ∷ ys) zero h = (y, refl)
item_at (y ∷ ys) (suc k) h = item_at ys k (omega arith)

pub not_in_none : {A : Type 0} (x : A) → Contains [] x → ⊥
not_in_none x (k, below, is) = omega arith

pub only_one : {A : Type 0} (y x : A) → Contains (y ∷ []) x → y ≡ x
only_one y x (zero, below, is) = is
only_one y x (suc k, below, is) = absurd (omega arith)

pub the_one : {A : Type 0} (x : A) → Contains (x ∷ []) x
the_one x = (0, omega arith, refl)

pub in_front : {A : Type 0} (x : A) (xs : List A) → Contains (x ∷ xs) x
in_front x xs = (0, omega arith, refl)

pub in_later : {A : Type 0} (y : A) (xs : List A) (x : A) → Contains xs x → Contains (y ∷ xs) x
in_later y xs x (k, below, is) = (suc k, omega arith, is)

-- maps

pub in_map : {A B : Type 0} (h : A → B) (xs : List A) (x : A) → Contains xs x → Contains (map h xs) (h x)
in_map h [] x c = absurd (not_in_none x c)
in_map h (y ∷ ys) x (zero, below, is) = (0, omega arith, ap h is)
in_map h (y ∷ ys) x (suc k, below, is) =
    let rest = in_map h ys x (k, omega arith, is) in
    (suc rest.0, omega arith, rest.2)

pub from_map : {A B : Type 0} (h : A → B) (xs : List A) (y : B) → Contains (map h xs) y → (x : A) × Contains xs x × (h x ≡ y)
from_map h [] y c = absurd (not_in_none y c)
from_map h (x ∷ xs) y (zero, below, is) = (x, in_front x xs, is)
from_map h (x ∷ xs) y (suc k, below, is) =
    let rest = from_map h xs y (k, omega arith, is) in
    (rest.0, in_later x xs rest.0 rest.1, rest.2)

-- lists behind one another

pub in_flat_map : {A B : Type 0} (h : A → List B) (xs : List A) (x : A) (y : B) → Contains xs x → Contains (h x) y → Contains (flat_map h xs) y
in_flat_map h [] x y c d = absurd (not_in_none x c)
in_flat_map h (z ∷ zs) x y (zero, below, is) d =
    subst (λ l. Contains l y) (sym (flat_map-cons h z zs)) (Contains-append_left (h z) (flat_map h zs) y (subst (λ a. Contains (h a) y) (sym is) d))
in_flat_map h (z ∷ zs) x y (suc k, below, is) d =
    subst (λ l. Contains l y) (sym (flat_map-cons h z zs)) (Contains-append_right (h z) (flat_map h zs) y (in_flat_map h zs x y (k, omega arith, is) d))

pub from_flat_map : {A B : Type 0} (h : A → List B) (xs : List A) (y : B) → Contains (flat_map h xs) y → (x : A) × Contains xs x × Contains (h x) y
from_flat_map h [] y c = absurd (not_in_none y c)
from_flat_map h (x ∷ xs) y c =
    ⊎_elim (λ l. (x, in_front x xs, l)) (λ r.
    let rest = from_flat_map h xs y r in
    (rest.0, in_later x xs rest.0 rest.1, rest.2))
    (Contains-append_cases (h x) (flat_map h xs) y (subst (λ l. Contains l y) (flat_map-cons h x xs) c))

-- numbers in a row

pub in_range : (a n k : ℕ) → k < n → Contains (range_with_len a n) (a + k)
in_range a zero k below = absurd (omega arith)
in_range a (suc n) zero below = (0, omega arith, omega arith)
in_range a (suc n) (suc k) below =
    let rest : Contains (range_with_len (a + 1) n) (a + 1 + k) = in_range (a + 1) n k (omega arith) in
    let same : a + 1 + k ≡ a + suc k = omega arith in
    in_later a (range_with_len (a + 1) n) (a + suc k) (subst (Contains (range_with_len (a + 1) n)) same rest)

pub from_range : (a n j : ℕ) → Contains (range_with_len a n) j → (a ≤ j) × (j < a + n)
from_range a zero j c = absurd (not_in_none j c)
from_range a (suc n) j (zero, below, is) = (omega arith, omega arith)
from_range a (suc n) j (suc k, below, is) =
    let rest = from_range (a + 1) n j (k, omega arith, is) in
    (omega arith, omega arith)

pub below_range : (n k : ℕ) → k < n → Contains (range_with_len 0 n) k
below_range n k h = let e : 0 + k ≡ k = omega arith in subst (Contains (range_with_len 0 n)) e (in_range 0 n k h)

pub none_there : {A : Type 0} (xs : List A) → length xs ≡ 0 → xs ≡ []
none_there [] e = refl
none_there (x ∷ xs) e = absurd (omega (arith, e))
