-- What stands in a list of numbers.
use Rattle.std.proofs.Common.{◌≡◌, ℕ, zero, suc, ◌<◌, Bool, true, false, cond, List, [], ◌∷◌, length, refl, sym, subst, ap, ◌∙◌, arith, ◌⊎◌, ⊎_elim, inl, inr, get_or}
use Rattle.std.specs.List.{filter, Contains}

pub none_in : (x : ℕ) → Contains [] x → ⊥
none_in x h = omega (arith, h.1)

pub first_in : (y : ℕ) (xs : List ℕ) (x : ℕ) → y ≡ x → Contains (y ∷ xs) x
first_in y xs x e = (0, omega arith, e)

pub later_in : (y : ℕ) (xs : List ℕ) (x : ℕ) → Contains xs x → Contains (y ∷ xs) x
later_in y xs x h = (suc h.0, omega (arith, h.1), h.2)

cases_at : (y : ℕ) (xs : List ℕ) (x k : ℕ) → k < length (y ∷ xs) → get_or (y ∷ xs) k x ≡ x → (y ≡ x) ⊎ Contains xs x
cases_at y xs x zero lt e = inl e
cases_at y xs x (suc k) lt e = inr (k, omega arith, e)

pub cons_cases : (y : ℕ) (xs : List ℕ) (x : ℕ) → Contains (y ∷ xs) x → (y ≡ x) ⊎ Contains xs x
cons_cases y xs x h = cases_at y xs x h.0 h.1 h.2

-- what is kept

one_cases : (p : ℕ → Bool) (y : ℕ) (xs : List ℕ) (b : Bool) → p y ≡ b → (x : ℕ) → Contains (cond b (y ∷ xs) xs) x → Contains xs x ⊎ ((y ≡ x) × (p y ≡ true))
one_cases p y xs true e x h = ⊎_elim (λ q. inr (q, e)) (λ r. inl r) (cons_cases y xs x h)
one_cases p y xs false e x h = inl h

pub filter_from : (p : ℕ → Bool) (xs : List ℕ) (x : ℕ) → Contains (filter p xs) x → Contains xs x × (p x ≡ true)
filter_from p [] x h = absurd (none_in x h)
filter_from p (y ∷ xs) x h = ⊎_elim
    (λ r. let i = filter_from p xs x r in (later_in y xs x i.0, i.1))
    (λ q. (first_in y xs x q.0, subst (λ z. p z ≡ true) q.0 q.1)) (one_cases p y (filter p xs) (p y) refl x h)

one_more : (y : ℕ) (xs : List ℕ) (b : Bool) (x : ℕ) → Contains xs x → Contains (cond b (y ∷ xs) xs) x
one_more y xs true x h = later_in y xs x h
one_more y xs false x h = h

pub filter_to : (p : ℕ → Bool) (xs : List ℕ) (x : ℕ) → Contains xs x → p x ≡ true → Contains (filter p xs) x
filter_to p [] x h e = absurd (none_in x h)
filter_to p (y ∷ xs) x h e = ⊎_elim
    (λ q. subst (λ b. Contains (cond b (y ∷ filter p xs) (filter p xs)) x) (sym (ap p q ∙ e)) (first_in y (filter p xs) x q))
    (λ r. one_more y (filter p xs) (p y) x (filter_to p xs x r e)) (cons_cases y xs x h)
