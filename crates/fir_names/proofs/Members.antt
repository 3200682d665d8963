-- What a list contains.
use Rattle.std.proofs.Common.{◌≡◌, ℕ, zero, suc, List, [], ◌∷◌, map, slice_get, Some, refl, sym, subst, arith, ⊎_elim}
use Rattle.std.specs.Prelude.{Contains}
use Rattle.std.specs.List.{flat_map}
use Rattle.std.proofs.lemmas.List.Elements.{Contains-append_left, Contains-append_right, Contains-append_cases}

pub Contains-none : {X : Type 0} {x : X} → Contains [] x → ⊥
Contains-none (k, below, is) = omega arith

pub Contains-first : {X : Type 0} {x : X} (xs : List X) → Contains (x ∷ xs) x
Contains-first xs = (0, omega arith, refl)

pub Contains-later : {X : Type 0} {x : X} (y : X) (xs : List X) → Contains xs x → Contains (y ∷ xs) x
Contains-later y xs (k, below, is) = (suc k, omega arith, is)

pub Contains-one : {X : Type 0} {x y : X} → Contains (y ∷ []) x → x ≡ y
Contains-one (zero, below, is) = sym is
Contains-one (suc k, below, is) = absurd (omega arith)

pub Contains-get : {X : Type 0} (xs : List X) (k : ℕ) (x : X) → slice_get xs k ≡ Some x → Contains xs x
Contains-get [] k x e = cc
Contains-get (y ∷ xs) zero x e = let same : y ≡ x = cc in subst (λ z. Contains (y ∷ xs) z) same (Contains-first xs)
Contains-get (y ∷ xs) (suc k) x e = Contains-later y xs (Contains-get xs k x e)

pub Contains-map : {X Y : Type 0} (f : X → Y) (xs : List X) (x : X) → Contains xs x → Contains (map f xs) (f x)
Contains-map f [] x i = absurd (Contains-none i)
Contains-map f (y ∷ xs) x i = ⊎_elim
    (λ l. subst (λ z. Contains (map f (y ∷ xs)) (f z)) (sym (Contains-one l)) (Contains-first (map f xs)))
    (λ r. Contains-later (f y) (map f xs) (Contains-map f xs x r))
    (Contains-append_cases (y ∷ []) xs x i)

pub Contains-from_map : {X Y : Type 0} (f : X → Y) (xs : List X) (y : Y) → Contains (map f xs) y → (x : X) × Contains xs x × (f x ≡ y)
Contains-from_map f [] y i = absurd (Contains-none i)
Contains-from_map f (x ∷ xs) y i = ⊎_elim
    (λ l. (x, Contains-first xs, sym (Contains-one l)))
    (λ r. let rest = Contains-from_map f xs y r in (rest.0, Contains-later x xs rest.1, rest.2))
    (Contains-append_cases (f x ∷ []) (map f xs) y i)

pub Contains-flat_map : {X Y : Type 0} (f : X → List Y) (xs : List X) (x : X) (y : Y) → Contains xs x → Contains (f x) y → Contains (flat_map f xs) y
Contains-flat_map f [] x y i j = absurd (Contains-none i)
Contains-flat_map f (z ∷ xs) x y i j = ⊎_elim
    (λ l. Contains-append_left (f z) (flat_map f xs) y (subst (λ w. Contains (f w) y) (Contains-one l) j))
    (λ r. Contains-append_right (f z) (flat_map f xs) y (Contains-flat_map f xs x y r j))
    (Contains-append_cases (z ∷ []) xs x i)

pub Contains-from_flat_map : {X Y : Type 0} (f : X → List Y) (xs : List X) (y : Y) → Contains (flat_map f xs) y → (x : X) × Contains xs x × Contains (f x) y
Contains-from_flat_map f [] y i = absurd (Contains-none i)
Contains-from_flat_map f (x ∷ xs) y i = ⊎_elim
    (λ l. (x, Contains-first xs, l))
    (λ r. let rest = Contains-from_flat_map f xs y r in (rest.0, Contains-later x xs rest.1, rest.2))
    (Contains-append_cases (f x) (flat_map f xs) y i)
