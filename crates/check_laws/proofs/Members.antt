-- What stands in a list.
use Rattle.std.proofs.Common.{◌≡◌, ◌⊎◌, ℕ, zero, suc, ◌<◌, List, [], ◌∷◌, length, get_or, refl, sym, subst, inl, inr, arith, ⊎_elim}
use Rattle.std.specs.Prelude.{Contains, flat_map}
use Rattle.std.proofs.lemmas.List.Elements.{Contains-append_left, Contains-append_right}

pub nothing_in : {X : Type 0} (x : X) → Contains [] x → ⊥
nothing_in x c = let below = c.1 in omega (arith, below)

pub head_in : {X : Type 0} (x : X) (xs : List X) → Contains (x ∷ xs) x
head_in x xs = (0, omega arith, refl)

pub tail_in : {X : Type 0} (y : X) (xs : List X) (x : X) → Contains xs x → Contains (y ∷ xs) x
tail_in y xs x c = let below = c.1 in (suc c.0, omega (arith, below), c.2)

pub in_cases : {X : Type 0} (y : X) (xs : List X) (x : X) → Contains (y ∷ xs) x → (y ≡ x) ⊎ Contains xs x
in_cases y xs x c = by c.0 c.1 c.2 where
  by : (k : ℕ) → k < length (y ∷ xs) → get_or (y ∷ xs) k x ≡ x → (y ≡ x) ⊎ Contains xs x
  by zero below e = inl e
  by (suc k) below e = inr (k, omega (arith, below), e)

-- what one of them gives is given by all
pub given_in : {X A : Type 0} (f : X → List A) (xs : List X) (x : X) (a : A) → Contains xs x → Contains (f x) a → Contains (flat_map f xs) a
given_in f [] x a c own = absurd (nothing_in x c)
given_in f (y ∷ ys) x a c own = ⊎_elim
    (λ same. Contains-append_left (f y) (flat_map f ys) a (subst (λ z. Contains (f z) a) (sym same) own))
    (λ later. Contains-append_right (f y) (flat_map f ys) a (given_in f ys x a later own))
    (in_cases y ys x c)
