-- What a move makes of the costs.
use Rattle.std.proofs.Common.{◌≡◌, ◌≢◌, ℕ, zero, suc, ◌+◌, ◌≤◌, Bool, true, false, ◌&&◌, cond, eqb, ltb, List, [], ◌∷◌, Some, None, refl, sym, ap, ap₂, ◌∙◌, subst, arith, slice_get, ◌⊎◌, inl, inr, ⊎_elim}
use Rattle.std.specs.Prelude.{slice_set, count_by}
use Rattle.std.proofs.lemmas.Bool.{eq-eqb, ne_eqb, cases_eq, lt-ltb}
use Rattle.std.proofs.lemmas.Option.{same_Some}
use Rattle.std.proofs.lemmas.List.Sums.{sum_by-cons}
use Rattle.cut_refine.specs.Costs.{SinkRow, needing, cost, put, moved, lost, gained}

none_some : {A B : Type 0} {x : A} → None ≡ Some x → B
none_some e = absurd cc

abbrev one : Bool → ℕ
one b = cond b 1 0

-- one more in front
module _ {A : Type 0} (f : A → Bool) where
  front : (x : A) (xs : List A) → count_by f (x ∷ xs) ≡ one (f x) + count_by f xs
  front x xs = sum_by-cons (λ y. cond (f y) 1 0) x xs

-- one row's part in a count
abbrev in_part : ℕ → ℕ → SinkRow → ℕ
in_part p x r = one (eqb r.0 p && r.1 x)

here : (p x : ℕ) (r : SinkRow) → r.0 ≡ p → in_part p x r ≡ one (r.1 x)
here p x r e = ap (λ b. one (b && r.1 x)) (eq-eqb r.0 p e)

elsewhere : (p x : ℕ) (r : SinkRow) → r.0 ≢ p → in_part p x r ≡ 0
elsewhere p x r e = ap (λ b. one (b && r.1 x)) (ne_eqb r.0 p e)

-- a changed row
changed : (p x s : ℕ) (rows : List SinkRow) (r q : SinkRow) → slice_get rows s ≡ Some r → needing p x (slice_set rows s q) + in_part p x r ≡ needing p x rows + in_part p x q
changed p x s [] r q e = none_some e
changed p x zero (y ∷ ys) r q e =
    let same : in_part p x y ≡ in_part p x r = ap (in_part p x) (same_Some y r e) in
    let old : needing p x (y ∷ ys) ≡ in_part p x y + needing p x ys = front (λ (z : SinkRow). eqb z.0 p && z.1 x) y ys in
    let new : needing p x (slice_set {A = SinkRow} (y ∷ ys) 0 q) ≡ in_part p x q + needing p x ys = front (λ (z : SinkRow). eqb z.0 p && z.1 x) q ys in
    omega (arith, same, old, new)
changed p x (suc s) (y ∷ ys) r q e =
    let on = changed p x s ys r q e in
    let old : needing p x (y ∷ ys) ≡ in_part p x y + needing p x ys = front (λ (z : SinkRow). eqb z.0 p && z.1 x) y ys in
    let new : needing p x (slice_set {A = SinkRow} (y ∷ ys) (suc s) q) ≡ in_part p x y + needing p x (slice_set ys s q) = front (λ (z : SinkRow). eqb z.0 p && z.1 x) y (slice_set ys s q) in
    omega (arith, on, old, new)

module _ (p x s t : ℕ) (rows : List SinkRow) (r : SinkRow) (there : slice_get rows s ≡ Some r) where
  pub out : r.0 ≡ p → t ≢ p → needing p x (moved rows s r t) + one (r.1 x) ≡ needing p x rows
  out e n =
      let both = changed p x s rows r (put r t) there in
      let a = here p x r e in
      let b = elsewhere p x (put r t) n in
      omega (arith, both, a, b)

  pub into : r.0 ≢ p → t ≡ p → needing p x (moved rows s r t) ≡ needing p x rows + one (r.1 x)
  into e n =
      let both = changed p x s rows r (put r t) there in
      let a = elsewhere p x r e in
      let b = here p x (put r t) n in
      omega (arith, both, a, b)

  pub aside : r.0 ≢ p → t ≢ p → needing p x (moved rows s r t) ≡ needing p x rows
  aside e n =
      let both = changed p x s rows r (put r t) there in
      let a = elsewhere p x r e in
      let b = elsewhere p x (put r t) n in
      omega (arith, both, a, b)

-- counts of several tests
count_sum : (f g h : ℕ → Bool) (xs : List ℕ) → ((x : ℕ) → one (f x) + one (g x) ≡ one (h x)) → count_by f xs + count_by g xs ≡ count_by h xs
count_sum f g h [] e = omega arith
count_sum f g h (x ∷ xs) e =
    let a = e x in
    let on = count_sum f g h xs e in
    let fs = front f x xs in
    let gs = front g x xs in
    let hs = front h x xs in
    omega (arith, a, on, fs, gs, hs)

count_most : (f h : ℕ → Bool) (xs : List ℕ) → ((x : ℕ) → one (f x) ≤ one (h x)) → count_by f xs ≤ count_by h xs
count_most f h [] e = omega arith
count_most f h (x ∷ xs) e =
    let a = e x in
    let on = count_most f h xs e in
    let fs = front f x xs in
    let hs = front h x xs in
    omega (arith, a, on, fs, hs)

-- what some sink needs without one, and what that one alone needs
alone : (n m : ℕ) (b : Bool) → n + one b ≡ m → one (ltb 0 n) + one (b && eqb m 1) ≡ one (ltb 0 m)
alone zero m true e = subst (λ k. one (ltb 0 0) + one (true && eqb k 1) ≡ one (ltb 0 k)) e refl
alone (suc n) m true e = subst (λ k. one (ltb 0 (suc n)) + one (true && eqb k 1) ≡ one (ltb 0 k)) e (by n) where
  by : (k : ℕ) → one (ltb 0 (suc k)) + one (true && eqb (suc k + 1) 1) ≡ one (ltb 0 (suc k + 1))
  by k = let two : eqb (suc k + 1) 1 ≡ false = ne_eqb (suc k + 1) 1 (λ f. omega (arith, f)) in
      let some : ltb 0 (suc k) ≡ true = lt-ltb 0 (suc k) (omega arith) in
      let more : ltb 0 (suc k + 1) ≡ true = lt-ltb 0 (suc k + 1) (omega arith) in
      rw (two, some, more) refl
alone n m false e = let same : n ≡ m = omega (arith, e) in subst (λ k. one (ltb 0 n) + 0 ≡ one (ltb 0 k)) same (omega arith)

fresh : (n m : ℕ) (b : Bool) → n + one b ≡ m → one (ltb 0 n) + one (b && eqb n 0) ≡ one (ltb 0 m)
fresh zero m true e = subst (λ k. one (ltb 0 0) + one (true && eqb 0 0) ≡ one (ltb 0 k)) e refl
fresh (suc n) m true e = subst (λ k. one (ltb 0 (suc n)) + one (true && eqb (suc n) 0) ≡ one (ltb 0 k)) e (by n) where
  by : (k : ℕ) → one (ltb 0 (suc k)) + one (true && eqb (suc k) 0) ≡ one (ltb 0 (suc k + 1))
  by k = let none : eqb (suc k) 0 ≡ false = ne_eqb (suc k) 0 (λ f. omega (arith, f)) in
      let some : ltb 0 (suc k) ≡ true = lt-ltb 0 (suc k) (omega arith) in
      let more : ltb 0 (suc k + 1) ≡ true = lt-ltb 0 (suc k + 1) (omega arith) in
      rw (none, some, more) refl
fresh n m false e = let same : n ≡ m = omega (arith, e) in subst (λ k. one (ltb 0 n) + 0 ≡ one (ltb 0 k)) same (omega arith)

module _ (p s t : ℕ) (xs : List ℕ) (rows : List SinkRow) (r : SinkRow) (there : slice_get rows s ≡ Some r) where
  -- the part that a sink leaves
  pub cost_out : r.0 ≡ p → t ≢ p → cost p xs (moved rows s r t) + lost p xs rows r ≡ cost p xs rows
  cost_out e n = count_sum (λ x. ltb 0 (needing p x (moved rows s r t))) (λ x. r.1 x && eqb (needing p x rows) 1) (λ x. ltb 0 (needing p x rows)) xs
      (λ x. alone (needing p x (moved rows s r t)) (needing p x rows) (r.1 x) (out p x s t rows r there e n))

  -- the part that it goes to
  pub cost_into : r.0 ≢ p → t ≡ p → cost p xs (moved rows s r t) ≡ cost p xs rows + gained p xs rows r
  cost_into e n = sym (count_sum (λ x. ltb 0 (needing p x rows)) (λ x. r.1 x && eqb (needing p x rows) 0) (λ x. ltb 0 (needing p x (moved rows s r t))) xs
      (λ x. fresh (needing p x rows) (needing p x (moved rows s r t)) (r.1 x) (sym (into p x s t rows r there e n))))

  same_count : (f g : ℕ → Bool) (ys : List ℕ) → ((x : ℕ) → f x ≡ g x) → count_by f ys ≡ count_by g ys
  same_count f g [] h = refl
  same_count f g (y ∷ ys) h = front f y ys ∙ (ap₂ (λ b k. one b + k) (h y) (same_count f g ys h) ∙ sym (front g y ys))

  -- any other part
  pub cost_aside : r.0 ≢ p → t ≢ p → cost p xs (moved rows s r t) ≡ cost p xs rows
  cost_aside e n = same_count (λ x. ltb 0 (needing p x (moved rows s r t))) (λ x. ltb 0 (needing p x rows)) xs (λ x. ap (ltb 0) (aside p x s t rows r there e n))

  -- A part loses nothing where a sink of another part moves.
  pub cost_kept : r.0 ≢ p → cost p xs rows ≤ cost p xs (moved rows s r t)
  cost_kept e = ⊎_elim (λ here. let k = cost_into e here in omega (arith, k)) (λ ne. let k = cost_aside e ne in omega (arith, k)) (cases_eq t p)

-- Where two parts have the greatest cost, each move leaves it to one of them.
pub two_greatest : (p q s t greatest : ℕ) (xs : List ℕ) (rows : List SinkRow) (r : SinkRow) → slice_get rows s ≡ Some r → p ≢ q → cost p xs rows ≡ greatest → cost q xs rows ≡ greatest
    → (greatest ≤ cost p xs (moved rows s r t)) ⊎ (greatest ≤ cost q xs (moved rows s r t))
two_greatest p q s t greatest xs rows r there ne a b =
    ⊎_elim
    (λ here. let k = cost_kept q s t xs rows r there (λ same. ne (sym here ∙ same)) in inr (omega (arith, b, k)))
    (λ away. let k = cost_kept p s t xs rows r there away in inl (omega (arith, a, k)))
    (cases_eq r.0 p)
