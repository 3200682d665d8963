-- What is counted has one number, and what is kept is one list.
use Rattle.std.proofs.Common.{◌≡◌, ◌≢◌, ℕ, ◌+◌, ◌≤◌, ◌==◌, Bool, true, false, not, cond, List, [], ◌∷◌, length, filter, refl, sym, ap₂, ◌∙◌, arith, ◌⊎◌, ⊎_elim}
use Rattle.std.specs.Prelude.{count_by, Contains}
use Rattle.std.proofs.lemmas.Bool.{eq-eqb, eqb-true}
use Rattle.std.proofs.lemmas.List.Sums.{sum_by-cons}
use Rattle.cone_cutter.specs.Cuts.{Counts, Lists, Keeps}
use Rattle.cone_cutter.specs.Walks.{IsOnce}
use Rattle.cone_cutter.proofs.Lists.{none_in, first_in, later_in, cons_cases, filter_to, pairs_rest, pairs_first, split}

not_false : (b : Bool) → b ≡ false → b ≡ true → ⊥
not_false b f t = cc

counted : (x : ℕ) (ys : List ℕ) → Contains ys x → 1 ≤ count_by (λ y. y == x) ys
counted x [] c = absurd (none_in x c)
counted x (y ∷ ys) c =
    let first = sum_by-cons (λ z. cond {A = ℕ} (z == x) 1 0) y ys in
    let more = one (y == x) refl (cons_cases y ys x c) (λ r. counted x ys r) in omega arith
  where
    one : (b : Bool) → (y == x) ≡ b → (y ≡ x) ⊎ Contains ys x → (Contains ys x → 1 ≤ count_by (λ z. z == x) ys) → 1 ≤ cond {A = ℕ} b 1 0 + count_by (λ z. z == x) ys
    one true e h later = omega arith
    one false e h later = ⊎_elim (λ q. absurd (not_false (y == x) e (eq-eqb y x q))) (λ r. let rest = later r in omega arith) h

unequal : (z x : ℕ) → z ≢ x → not (z == x) ≡ true
unequal z x n = one (z == x) refl
  where
    one : (b : Bool) → (z == x) ≡ b → not b ≡ true
    one true e = absurd (n (eqb-true z x e))
    one false e = refl

pub once_fits : (xs ys : List ℕ) → IsOnce xs → ((z : ℕ) → Contains xs z → Contains ys z) → length xs ≤ length ys
once_fits [] ys h f = omega arith
once_fits (x ∷ xs) ys h f =
    let rest = once_fits xs (filter (λ y. not (y == x)) ys) (pairs_rest (λ a b. a ≢ b) x xs h)
    (λ z c. filter_to (λ y. not (y == x)) ys z (f z (later_in x xs z c)) (unequal z x (λ e. pairs_first (λ a b. a ≢ b) x xs h z c (sym e)))) in
    omega (arith, rest, split (λ y. y == x) ys, counted x ys (f x (first_in x xs x refl)))

-- what is counted has one number
pub lists_one : (P : ℕ → Type 0) (s t : List ℕ) → Lists P s → Lists P t → length s ≡ length t
lists_one P s t a b =
    let less = once_fits s t a.once (λ z c. b.all z (a.only z c)) in
    let more = once_fits t s b.once (λ z c. a.all z (b.only z c)) in omega arith

pub counts_one : (P : ℕ → Type 0) (m n : ℕ) → Counts P m → Counts P n → m ≡ n
counts_one P m n a b = sym a.count ∙ (lists_one P a.numbers b.numbers a.listed b.listed ∙ b.count)

-- what is kept is one list

same_test : (a b : Bool) → (a ≡ true → b ≡ true) → (b ≡ true → a ≡ true) → a ≡ b
same_test true b f g = sym (f refl)
same_test false true f g = g refl
same_test false false f g = refl

filter_same : (p q : ℕ → Bool) (xs : List ℕ) → ((x : ℕ) → Contains xs x → p x ≡ q x) → filter p xs ≡ filter q xs
filter_same p q [] h = refl
filter_same p q (x ∷ xs) h =
    ap₂ (λ b rest. cond b (x ∷ rest) rest) (h x (first_in x xs x refl)) (filter_same p q xs (λ y c. h y (later_in x xs y c)))

pub keeps_one : (P : ℕ → Type 0) (s kept other : List ℕ) → Keeps P s kept → Keeps P s other → kept ≡ other
keeps_one P s kept other a b =
    a.same
    ∙ (filter_same a.test b.test s (λ x c. same_test (a.test x) (b.test x) (λ e. (b.tests x c).1 ((a.tests x c).0 e)) (λ e. (a.tests x c).1 ((b.tests x c).0 e)))
    ∙ sym b.same)
