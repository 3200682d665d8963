-- Lists of numbers.
use Rattle.std.proofs.Common.{◌≡◌, ◌≢◌, ℕ, zero, suc, ◌+◌, ◌<◌, ◌≤◌, ◌==◌, Bool, true, false, not, cond, List, [], ◌∷◌, ◌++◌, length, slice_index, slice_set, refl, sym, subst, ap, ◌∙◌, arith, ◌⊎◌, ⊎_elim, inl, inr, get_or, get_or-set_same, get_or-set_other, count_by}
use Rattle.std.specs.List.{filter, Contains, range_with_len}
use Rattle.std.proofs.lemmas.Bool.{cases_lt, eq-eqb, eqb-true}
use Rattle.std.proofs.lemmas.List.{get_or_append_left, get_or_push, length_push, get_or_default}
use Rattle.std.proofs.lemmas.List.Elements.{Contains-append_left, Contains-append_right, Contains-append_cases}
use Rattle.std.proofs.lemmas.List.Sums.{sum_by-cons}
use Rattle.std.proofs.lemmas.List.FromFn.{length-range_with_len, get_or-range_with_len}
pub use Rattle.comb_order.proofs.Members.{none_in, first_in, later_in, cons_cases, filter_from, filter_to}
use Rattle.cone_cutter.specs.Cuts.{Counts}
use Rattle.cone_cutter.specs.Walks.{IsOnce}

pub set_here : (l : List ℕ) (v a u : ℕ) → v < length l → u ≡ v → slice_index (slice_set l v a) u ≡ a
set_here l v a u lt e = ap (λ x. slice_index (slice_set l v a) x) e ∙ get_or-set_same l v a 0 lt

pub set_there : (l : List ℕ) (v a u : ℕ) → u ≢ v → slice_index (slice_set l v a) u ≡ slice_index l u
set_there l v a u n = get_or-set_other l v u a 0 n

pub push_old : (l : List ℕ) (x k : ℕ) → k < length l → slice_index (l ++ x ∷ []) k ≡ slice_index l k
push_old l x k lt = get_or_append_left l (x ∷ []) 0 k lt

pub push_new : (l : List ℕ) (x k : ℕ) → length l ≡ k → slice_index (l ++ x ∷ []) k ≡ x
push_new l x k e = get_or_push l x 0 k e

pub push_cases : (l : List ℕ) (x k : ℕ) → k < length (l ++ x ∷ []) → (k < length l) ⊎ (length l ≡ k)
push_cases l x k lt = let long = length_push l x in ⊎_elim (λ h. inl h) (λ h. let e : length l ≡ k = omega arith in inr e) (cases_lt k (length l))

-- membership

pub stands : (s : List ℕ) (x k : ℕ) → k < length s → slice_index s k ≡ x → Contains s x
stands s x k lt e = (k, lt, get_or_default s k x 0 lt ∙ e)

pub stood : (s : List ℕ) (x : ℕ) → Contains s x → (k : ℕ) × (k < length s) × (slice_index s k ≡ x)
stood s x h = (h.0, h.1, get_or_default s h.0 0 x h.1 ∙ h.2)

-- what holds of each two

abbrev pub Pairs : (ℕ → ℕ → Type 0) → List ℕ → Type 0
Pairs R s = (j k : ℕ) → j < k → k < length s → R (slice_index s j) (slice_index s k)

module _ (R : ℕ → ℕ → Type 0) where
  pub pairs_none : Pairs R []
  pairs_none j k less lt = absurd (omega arith)

  pub pairs_rest : (x : ℕ) (xs : List ℕ) → Pairs R (x ∷ xs) → Pairs R xs
  pairs_rest x xs h j k less lt = h (suc j) (suc k) (omega arith) (omega arith)

  pub pairs_first : (x : ℕ) (xs : List ℕ) → Pairs R (x ∷ xs) → (y : ℕ) → Contains xs y → R x y
  pairs_first x xs h y c = let at = stood xs y c in subst (R x) at.2 (h 0 (suc at.0) (omega arith) (omega (arith, at.1)))

  pub pairs_cons : (x : ℕ) (xs : List ℕ) → ((y : ℕ) → Contains xs y → R x y) → Pairs R xs → Pairs R (x ∷ xs)
  pairs_cons x xs f h zero zero less lt = absurd (omega arith)
  pairs_cons x xs f h zero (suc k) less lt = f (slice_index xs k) (stands xs (slice_index xs k) k (omega arith) refl)
  pairs_cons x xs f h (suc j) zero less lt = absurd (omega arith)
  pairs_cons x xs f h (suc j) (suc k) less lt = h j k (omega arith) (omega arith)

  pub pairs_append : (xs ys : List ℕ) → Pairs R xs → Pairs R ys → ((x y : ℕ) → Contains xs x → Contains ys y → R x y) → Pairs R (xs ++ ys)
  pairs_append [] ys h i f = i
  pairs_append (x ∷ xs) ys h i f = pairs_cons x (xs ++ ys)
      (λ y c. ⊎_elim (λ l. pairs_first x xs h y l) (λ r. f x y (first_in x xs x refl) r) (Contains-append_cases xs ys y c))
      (pairs_append xs ys (pairs_rest x xs h) i (λ a b l r. f a b (later_in x xs a l) r))

  one_pairs : (x : ℕ) (xs : List ℕ) (b : Bool) → ((y : ℕ) → Contains xs y → R x y) → Pairs R xs → Pairs R (cond b (x ∷ xs) xs)
  one_pairs x xs true f h = pairs_cons x xs f h
  one_pairs x xs false f h = h

  pub pairs_filter : (p : ℕ → Bool) (xs : List ℕ) → Pairs R xs → Pairs R (filter p xs)
  pairs_filter p [] h = h
  pairs_filter p (x ∷ xs) h = one_pairs x (filter p xs) (p x)
      (λ y c. pairs_first x xs h y (filter_from p xs y c).0) (pairs_filter p xs (pairs_rest x xs h))

pub once_push : (xs : List ℕ) (x : ℕ) → IsOnce xs → (Contains xs x → ⊥) → IsOnce (xs ++ x ∷ [])
once_push xs x h n = pairs_append (λ a b. a ≢ b) xs (x ∷ []) h (λ j k less lt. absurd (omega arith))
    (λ a b c d e. n (subst (Contains xs) (e ∙ ⊎_elim (λ q. sym q) (λ z. absurd (none_in b z)) (cons_cases x [] b d)) c))

-- counts

pub split : (p : ℕ → Bool) (xs : List ℕ) → length (filter (λ x. not (p x)) xs) + count_by p xs ≡ length xs
split p [] = refl
split p (x ∷ xs) = ap (λ n. length (filter (λ y. not (p y)) (x ∷ xs)) + n) (sum_by-cons (λ y. cond (p y) 1 0) x xs) ∙ one (p x) (split p xs)
  where
    one : (b : Bool) → length (filter (λ y. not (p y)) xs) + count_by p xs ≡ length xs
        → length (cond (not b) (x ∷ filter (λ y. not (p y)) xs) (filter (λ y. not (p y)) xs)) + (cond {A = ℕ} b 1 0 + count_by p xs) ≡ length (x ∷ xs)
    one true h = omega arith
    one false h = omega arith

pub counts_same : (P Q : ℕ → Type 0) (n : ℕ) → ((x : ℕ) → P x → Q x) → ((x : ℕ) → Q x → P x) → Counts P n → Counts Q n
counts_same P Q n f g h = record {
  numbers = h.numbers;
  listed = record { only = λ x c. f x (h.listed.only x c); all = λ x q. h.listed.all x (g x q); once = h.listed.once };
  count = h.count;
}

pub counts_push : (P : ℕ → Type 0) (n x : ℕ) → Counts P n → (P x → ⊥) → Counts (λ y. P y ⊎ (x ≡ y)) (n + 1)
counts_push P n x h none = record {
  numbers = h.numbers ++ x ∷ [];
  listed = record {
    only = λ y c. ⊎_elim (λ l. inl (h.listed.only y l)) (λ r. inr (⊎_elim (λ q. q) (λ z. absurd (none_in y z)) (cons_cases x [] y r))) (Contains-append_cases h.numbers (x ∷ []) y c);
    all = λ y q. ⊎_elim (λ l. Contains-append_left h.numbers (x ∷ []) y (h.listed.all y l)) (λ e. Contains-append_right h.numbers (x ∷ []) y (first_in x [] y e)) q;
    once = once_push h.numbers x h.listed.once (λ c. none (h.listed.only x c));
  };
  count = length_push h.numbers x ∙ ap (λ m. m + 1) h.count;
}

pub counts_none : (P : ℕ → Type 0) → ((x : ℕ) → P x → ⊥) → Counts P 0
counts_none P none = record {
  numbers = [];
  listed = record { only = λ x c. absurd (none_in x c); all = λ x h. absurd (none x h); once = λ j k less lt. absurd (omega arith) };
  count = refl;
}

-- ranges

pub in_range : (n k : ℕ) → Contains (range_with_len 0 n) k → k < n
in_range n k h =
    let lt : h.0 < n = omega (arith, h.1, length-range_with_len 0 n) in
    omega (arith, lt, get_or-range_with_len 0 n h.0 k lt, h.2)

pub to_range : (n k : ℕ) → k < n → Contains (range_with_len 0 n) k
to_range n k lt = (k, omega (arith, length-range_with_len 0 n), get_or-range_with_len 0 n k k lt ∙ omega arith)

pub range_rises : (n : ℕ) → Pairs (λ a b. a < b) (range_with_len 0 n)
range_rises n j k less lt =
    let long = length-range_with_len 0 n in
    omega (arith, get_or-range_with_len 0 n j 0 (omega arith), get_or-range_with_len 0 n k 0 (omega arith))

range_suc : (a n : ℕ) → range_with_len a (suc n) ≡ range_with_len a n ++ (a + n) ∷ []
range_suc a zero = let e : a ≡ a + 0 = omega arith in ap (λ x. x ∷ []) e
range_suc a (suc n) =
    let e : a + 1 + n ≡ a + suc n = omega arith in
    ap (λ xs. a ∷ xs) (range_suc (a + 1) n ∙ ap (λ x. range_with_len (a + 1) n ++ x ∷ []) e)

pub range_more : (n : ℕ) → range_with_len 0 (n + 1) ≡ range_with_len 0 n ++ n ∷ []
range_more n =
    let e : suc n ≡ n + 1 = omega arith in
    let z : 0 + n ≡ n = omega arith in
    subst (λ m. range_with_len 0 m ≡ range_with_len 0 n ++ n ∷ []) e (range_suc 0 n ∙ ap (λ x. range_with_len 0 n ++ x ∷ []) z)

-- numbers below n, each once, are at most n

none_counted : (n : ℕ) (s : List ℕ) → (Contains s n → ⊥) → count_by (λ x. x == n) s ≡ 0
none_counted n [] h = refl
none_counted n (x ∷ s) h = sum_by-cons (λ y. cond {A = ℕ} (y == n) 1 0) x s ∙ one (x == n) refl (none_counted n s (λ c. h (later_in x s n c)))
  where
    one : (b : Bool) → (x == n) ≡ b → count_by (λ y. y == n) s ≡ 0 → cond {A = ℕ} b 1 0 + count_by (λ y. y == n) s ≡ 0
    one true e r = absurd (h (first_in x s n (eqb-true x n e)))
    one false e r = omega arith

one_at_most : (n : ℕ) (s : List ℕ) → IsOnce s → count_by (λ x. x == n) s ≤ 1
one_at_most n [] h = omega arith
one_at_most n (x ∷ s) h =
    let first = sum_by-cons (λ y. cond {A = ℕ} (y == n) 1 0) x s in
    let rest = one (x == n) refl (one_at_most n s (pairs_rest (λ a b. a ≢ b) x s h)) in
    omega arith
  where
    one : (b : Bool) → (x == n) ≡ b → count_by (λ y. y == n) s ≤ 1 → cond {A = ℕ} b 1 0 + count_by (λ y. y == n) s ≤ 1
    one true e less = let none = none_counted n s (λ c. pairs_first (λ a b. a ≢ b) x s h n c (eqb-true x n e)) in omega arith
    one false e less = omega arith

pub fits_below : (n : ℕ) (s : List ℕ) → IsOnce s → ((x : ℕ) → Contains s x → x < n) → length s ≤ n
fits_below zero [] h f = omega arith
fits_below zero (x ∷ s) h f = absurd (omega (arith, f x (first_in x s x refl)))
fits_below (suc n) s h f =
    let rest = fits_below n (filter (λ x. not (x == n)) s) (pairs_filter (λ a b. a ≢ b) (λ x. not (x == n)) s h)
    (λ x c. let g = filter_from (λ y. not (y == n)) s x c in
    let differs : x ≢ n = (λ e. both (x == n) (eq-eqb x n e) g.1) in
    let lt = f x g.0 in omega arith) in
    omega (arith, rest, split (λ x. x == n) s, one_at_most n s h)
  where
    both : (b : Bool) → b ≡ true → not b ≡ true → ⊥
    both true e g = cc
    both false e g = cc
