-- Numbers of which something is true, and how many there are.
use Rattle.std.proofs.Common.{◌≡◌, ◌≢◌, ℕ, zero, suc, ◌≤◌, ◌==◌, Bool, true, false, not, cond, List, [], ◌∷◌, ◌++◌, length, refl, sym, subst, ap, ◌∙◌, arith, ◌⊎◌, ⊎_elim, inl, inr}
use Rattle.std.specs.List.{filter, Contains, AllZip}
use Rattle.std.specs.Prelude.{slice_get, Some}
use Rattle.std.proofs.lemmas.Bool.{eq-eqb, eqb-true, cases_eq}
use Rattle.std.proofs.lemmas.List.Elements.{Contains-append_left, Contains-append_right, Contains-append_cases}
use Rattle.std.proofs.Math.ListN.{length-append}
use Rattle.cone_cutter.specs.Cuts.{Counts}
use Rattle.cone_cutter.specs.Walks.{IsOnce}
use Rattle.cone_cutter.proofs.Lists.{none_in, first_in, later_in, cons_cases, filter_from, filter_to, pairs_first, pairs_append, pairs_filter}
use Rattle.cut_refine.specs.Examples.{among}
use Rattle.cut_refine.proofs.Unique.{once_fits}

pub both_ways : (b : Bool) → b ≡ true → b ≡ false → ⊥
both_ways b t f = cc

pub cases_bool : (b : Bool) → (b ≡ true) ⊎ (b ≡ false)
cases_bool true = inl refl
cases_bool false = inr refl

pub not_true : (b : Bool) → not b ≡ true → b ≡ false
not_true true e = cc
not_true false e = refl

-- membership as a test

pub among_to : (xs : List ℕ) (x : ℕ) → Contains xs x → among xs x ≡ true
among_to [] x c = absurd (none_in x c)
among_to (y ∷ ys) x c = by (y == x) refl (cons_cases y ys x c) (λ r. among_to ys x r) where
  by : (b : Bool) → (y == x) ≡ b → (y ≡ x) ⊎ Contains ys x → (Contains ys x → among ys x ≡ true) → cond b true (among ys x) ≡ true
  by true e h on = refl
  by false e h on = ⊎_elim (λ same. absurd (both_ways (y == x) (eq-eqb y x same) e)) on h

pub among_from : (xs : List ℕ) (x : ℕ) → among xs x ≡ true → Contains xs x
among_from [] x e = cc
among_from (y ∷ ys) x e = by (y == x) refl (λ r. among_from ys x r) e where
  by : (b : Bool) → (y == x) ≡ b → (among ys x ≡ true → Contains ys x) → cond b true (among ys x) ≡ true → Contains (y ∷ ys) x
  by true f on e = first_in y ys x (eqb-true y x f)
  by false f on e = later_in y ys x (on e)

pub in_list : (xs : List ℕ) (x : ℕ) → Contains xs x ⊎ (Contains xs x → ⊥)
in_list xs x = ⊎_elim (λ t. inl (among_from xs x t)) (λ f. inr (λ c. both_ways (among xs x) (among_to xs x c) f)) (cases_bool (among xs x))

-- lists of one number, and of several

pub single : (l : List ℕ) (a b : ℕ) → length l ≡ 1 → Contains l a → Contains l b → a ≡ b
single [] a b e c d = absurd (none_in a c)
single (y ∷ []) a b e c d = ⊎_elim (λ p. ⊎_elim (λ q. sym p ∙ q) (λ n. absurd (none_in b n)) (cons_cases y [] b d)) (λ n. absurd (none_in a n)) (cons_cases y [] a c)
single (y ∷ z ∷ ys) a b e c d = absurd (omega (arith, e))

pub second : (l : List ℕ) (s : ℕ) → IsOnce l → length l ≢ 1 → Contains l s → (k : ℕ) × Contains l k × (k ≢ s)
second [] s once n c = absurd (none_in s c)
second (y ∷ []) s once n c = absurd (n refl)
second (y ∷ z ∷ ys) s once n c = ⊎_elim
    (λ e. (z, later_in y (z ∷ ys) z (first_in z ys z refl), λ same. pairs_first (λ a b. a ≢ b) y (z ∷ ys) once z (first_in z ys z refl) (e ∙ sym same)))
    (λ d. (y, first_in y (z ∷ ys) y refl, d))
    (cases_eq y s)

-- more is at least as many

pub counts_fit : (P Q : ℕ → Type 0) (m n : ℕ) → ((x : ℕ) → P x → Q x) → Counts P m → Counts Q n → m ≤ n
counts_fit P Q m n f a b =
    let fits = once_fits a.numbers b.numbers a.listed.once (λ z c. b.listed.all z (f z (a.listed.only z c))) in
    omega (arith, fits, a.count, b.count)

-- two together
pub counts_union : (P Q R : ℕ → Type 0) (n m : ℕ) → Counts P n → Counts Q m → ((x : ℕ) → P x → R x) → ((x : ℕ) → Q x → R x) → ((x : ℕ) → R x → P x ⊎ Q x) → (k : ℕ) × Counts R k × (n ≤ k)
counts_union P Q R n m a b f g h = (length all, record { numbers = all; listed = record { only = only; all = every; once = once }; count = refl }, omega (arith, length-append a.numbers rest, a.count))
  where
    test : ℕ → Bool
    test = λ x. not (among a.numbers x)

    rest : List ℕ
    rest = filter (λ x. not (among a.numbers x)) b.numbers

    all : List ℕ
    all = a.numbers ++ rest

    only : (x : ℕ) → Contains all x → R x
    only x c = ⊎_elim (λ o. f x (a.listed.only x o)) (λ r. g x (b.listed.only x (filter_from test b.numbers x r).0)) (Contains-append_cases a.numbers rest x c)

    missing : (x : ℕ) → (Contains a.numbers x → ⊥) → not (among a.numbers x) ≡ true
    missing x out = ⊎_elim (λ t. absurd (out (among_from a.numbers x t))) (λ e. ap not e) (cases_bool (among a.numbers x))

    every : (x : ℕ) → R x → Contains all x
    every x r = ⊎_elim
        (λ o. Contains-append_left a.numbers rest x o)
        (λ out. ⊎_elim (λ p. absurd (out (a.listed.all x p))) (λ q. Contains-append_right a.numbers rest x (filter_to test b.numbers x (b.listed.all x q) (missing x out))) (h x r))
        (in_list a.numbers x)

    once : IsOnce all
    once = pairs_append (λ x y. x ≢ y) a.numbers rest a.listed.once (pairs_filter (λ x y. x ≢ y) test b.numbers b.listed.once)
        (λ x y c d e. both_ways (among a.numbers y) (among_to a.numbers y (subst (Contains a.numbers) e c)) (not_true (among a.numbers y) (filter_from test b.numbers y d).1))

-- items of two lists, place by place

pub zip_push : {A B : Type 0} (R : A → B → Type 0) (xs : List A) (ys : List B) (x : A) (y : B) → AllZip R xs ys → R x y → AllZip R (xs ++ x ∷ []) (ys ++ y ∷ [])
zip_push R [] [] x y h r = (r, tt)
zip_push R [] (b ∷ ys) x y h r = absurd h
zip_push R (a ∷ xs) [] x y h r = absurd h
zip_push R (a ∷ xs) (b ∷ ys) x y h r = (h.0, zip_push R xs ys x y h.1 r)

pub zip_left : {A B : Type 0} (R : A → B → Type 0) (xs : List A) (ys : List B) (i : ℕ) (x : A) → AllZip R xs ys → slice_get xs i ≡ Some x → (y : B) × (slice_get ys i ≡ Some y) × R x y
zip_left R [] ys i x h e = cc
zip_left R (a ∷ xs) [] i x h e = absurd h
zip_left {A} {B} R (a ∷ xs) (b ∷ ys) zero x h e = let same : a ≡ x = cc in (b, refl, subst (λ z. R z b) same h.0)
zip_left R (a ∷ xs) (b ∷ ys) (suc i) x h e = zip_left R xs ys i x h.1 e

pub zip_right : {A B : Type 0} (R : A → B → Type 0) (xs : List A) (ys : List B) (i : ℕ) (y : B) → AllZip R xs ys → slice_get ys i ≡ Some y → (x : A) × (slice_get xs i ≡ Some x) × R x y
zip_right R xs [] i y h e = cc
zip_right R [] (b ∷ ys) i y h e = absurd h
zip_right {A} {B} R (a ∷ xs) (b ∷ ys) zero y h e = let same : b ≡ y = cc in (a, refl, subst (λ z. R a z) same h.0)
zip_right R (a ∷ xs) (b ∷ ys) (suc i) y h e = zip_right R xs ys i y h.1 e
