-- Texts in the order of their first use: no text twice, so that the numbers of names agree.
use Rattle.std.proofs.Common.{◌≡◌, ℕ, ◌+◌, ◌<◌, ◌≤◌, Bool, true, false, List, [], ◌∷◌, ◌++◌, length, get_or, slice_get, Some, if◌then◌else◌, ◌⊎◌, inl, inr, ⊎_elim, refl, sym, ap, ◌∙◌, subst, Contains, bytes_eq, length-append, arith}
use Rattle.std.proofs.lemmas.List.{get_or_append_left}
use Rattle.std.proofs.Math.Seq.{get_or-append_seam}
use Rattle.std.proofs.lemmas.Bool.{cases_lt}
use Rattle.std.proofs.lemmas.Option.{slice_get_within, get_or_from_slice_get, slice_get-get_or}
use Rattle.std.proofs.lemmas.Slice.Eq.{bytes_eq-Decides}
use Rattle.std.proofs.lemmas.List.Elements.{Contains-append_cases, Contains-append_right}
use Rattle.fir_tree.specs.Numbered.{AddsName, IsDistinct}

only_one : (x y : List ℕ) → Contains (x ∷ []) y → x ≡ y
only_one x y (i, lt, e) = let zero_is : i ≡ 0 = omega arith in rw zero_is at e

decide_at : (x t : List ℕ) (xs : List (List ℕ)) → Contains xs t ⊎ ¬ (Contains xs t) → (b : Bool) → bytes_eq x t ≡ b → Contains (x ∷ xs) t ⊎ ¬ (Contains (x ∷ xs) t)
decide_at x t xs more true e = inl (0, omega arith, (bytes_eq-Decides x t).0 e)
decide_at x t xs (inl c) false e = inl (Contains-append_right (x ∷ []) xs t c)
decide_at x t xs (inr none) false e = inr (λ c.
    ⊎_elim (λ one. let same : bytes_eq x t ≡ true = (bytes_eq-Decides x t).1 (only_one x t one) in cc) (λ more. none more) (Contains-append_cases (x ∷ []) xs t c))

contains_or_not : (ts : List (List ℕ)) (t : List ℕ) → Contains ts t ⊎ ¬ (Contains ts t)
contains_or_not [] t = inr (λ c. let within : c.0 < 0 = c.1 in omega arith)
contains_or_not (x ∷ xs) t = decide_at x t xs (contains_or_not xs t) (bytes_eq x t) refl

contains_at : (xs : List (List ℕ)) (i : ℕ) (t : List ℕ) → slice_get xs i ≡ Some t → Contains xs t
contains_at xs i t h = (i, slice_get_within xs i t h, get_or_from_slice_get xs i t t h)

-- a text of a longer list is one of the shorter, or the one at its end
push_cases : (xs : List (List ℕ)) (t s : List ℕ) (i : ℕ) → slice_get (xs ++ t ∷ []) i ≡ Some s → (slice_get xs i ≡ Some s) ⊎ ((i ≡ length xs) × (t ≡ s))
push_cases xs t s i h =
    let within : i < length (xs ++ t ∷ []) = slice_get_within (xs ++ t ∷ []) i s h in
    let longer : length (xs ++ t ∷ []) ≡ length xs + 1 = length-append xs (t ∷ []) in
    let value : get_or (xs ++ t ∷ []) i s ≡ s = get_or_from_slice_get (xs ++ t ∷ []) i s s h in
    ⊎_elim (λ below. let here : get_or xs i s ≡ s = sym (get_or_append_left xs (t ∷ []) s i below) ∙ value in inl (slice_get-get_or xs i s below ∙ ap Some here))
    (λ past. let last : i ≡ length xs = omega arith in
    inr (last, sym (get_or-append_seam xs t [] s) ∙ subst (λ (n : ℕ). get_or (xs ++ t ∷ []) n s ≡ s) last value))
    (cases_lt i (length xs))

distinct_push : (xs : List (List ℕ)) (t : List ℕ) → IsDistinct xs → ¬ (Contains xs t) → IsDistinct (xs ++ t ∷ [])
distinct_push xs t d none = record { same = λ i j s a b. both i j s (push_cases xs t s i a) (push_cases xs t s j b) }
  where
    both : (i j : ℕ) (s : List ℕ) → (slice_get xs i ≡ Some s) ⊎ ((i ≡ length xs) × (t ≡ s)) → (slice_get xs j ≡ Some s) ⊎ ((j ≡ length xs) × (t ≡ s)) → i ≡ j
    both i j s (inl a) (inl b) = d.same i j s a b
    both i j s (inl a) (inr b) = absurd (none (rw b.1 (contains_at xs i s a)))
    both i j s (inr a) (inl b) = absurd (none (rw a.1 (contains_at xs j s b)))
    both i j s (inr a) (inr b) = a.0 ∙ sym b.0

pub record NamesAgree (m n : List (List ℕ)) (i j : ℕ) : Type 0 where
  pub names : m ≡ n
  pub number : i ≡ j
  pub distinct : IsDistinct m

pub names_agree : (old m n : List (List ℕ)) (t : List ℕ) (i j : ℕ) → IsDistinct old → AddsName old m t i → AddsName old n t j → NamesAgree m n i j
names_agree old m n t i j d a b = ⊎_elim known unknown (contains_or_not old t)
  where
    agree : (list : List (List ℕ)) → IsDistinct list → m ≡ list → n ≡ list → NamesAgree m n i j
    agree list distinct e f = record {
      names = e ∙ sym f;
      number = distinct.same i j t (rw e at a.number) (rw f at b.number);
      distinct = rw e distinct;
    }

    known : Contains old t → NamesAgree m n i j
    known c = agree old d (a.known c) (b.known c)

    unknown : ¬ (Contains old t) → NamesAgree m n i j
    unknown none = agree (old ++ t ∷ []) (distinct_push old t d none) (a.added none) (b.added none)

-- a text that none of these is equal to
abbrev pub is_fresh : List (List ℕ) → List ℕ → Bool
is_fresh [] t = true
is_fresh (x ∷ xs) t = if bytes_eq x t then false else is_fresh xs t

fresh_at : (x t : List ℕ) (xs : List (List ℕ)) → ¬ (Contains xs t) → (b : Bool) → bytes_eq x t ≡ b → (if b then false else true) ≡ true → ¬ (Contains (x ∷ xs) t)
fresh_at x t xs none true e h = cc
fresh_at x t xs none false e h = λ c.
    ⊎_elim (λ one. let same : bytes_eq x t ≡ true = (bytes_eq-Decides x t).1 (only_one x t one) in cc) (λ more. none more) (Contains-append_cases (x ∷ []) xs t c)

split_fresh : (b c : Bool) → (if b then false else c) ≡ true → (b ≡ false) × (c ≡ true)
split_fresh true c h = cc
split_fresh false c h = (refl, h)

pub fresh_none : (xs : List (List ℕ)) (t : List ℕ) → is_fresh xs t ≡ true → ¬ (Contains xs t)
fresh_none [] t h = λ c. let within : c.0 < 0 = c.1 in omega arith
fresh_none (x ∷ xs) t h = let s = split_fresh (bytes_eq x t) (is_fresh xs t) h in fresh_at x t xs (fresh_none xs t s.1) false s.0 refl

pub no_names : IsDistinct []
no_names = record { same = λ i j t a b. let within : i < 0 = slice_get_within [] i t a in omega arith }

pub one_more_name : (xs : List (List ℕ)) (t : List ℕ) → IsDistinct xs → is_fresh xs t ≡ true → IsDistinct (xs ++ t ∷ [])
one_more_name xs t d h = distinct_push xs t d (fresh_none xs t h)

-- adding a text gives at most one more
pub AddsName-length : (old new : List (List ℕ)) (t : List ℕ) (i : ℕ) → AddsName old new t i → length new ≤ length old + 1
AddsName-length old new t i a =
    ⊎_elim (λ known. let same : new ≡ old = a.known known in rw same (omega arith))
    (λ none. let grown : new ≡ old ++ t ∷ [] = a.added none in let longer : length (old ++ t ∷ []) ≡ length old + 1 = length-append old (t ∷ []) in rw grown (omega arith))
    (contains_or_not old t)
