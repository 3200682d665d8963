-- Noting the readers of variables.
use Rattle.std.proofs.Common.{◌≡◌, ◌≢◌, ◌⊎◌, inl, inr, ⊎_elim, ℕ, ◌+◌, ◌<◌, ◌≤◌, List, [], ◌∷◌, ◌++◌, length, take, get_or, set, slice_get, Some, refl, ap, sym, ◌∙◌, arith, get_or-set_same, get_or-set_other, Bool, true, false}
use Rattle.std.specs.Prelude.{nat_eq}
use Rattle.std.proofs.lemmas.Bool.{eqb-true, eqb-false}
use Rattle.std.specs.List.{Contains}
use Rattle.std.proofs.lemmas.List.{take_more, length-set}
use Rattle.std.proofs.lemmas.List.Elements.{Contains-append_left, Contains-append_cases, Contains-push, Contains-push_cases}
use Rattle.width_rules.specs.declared.rule.Rule.{Rule}
use Rattle.width_solver.specs.Readers.{variables, readers_at, AreReaders, Notes}

pub Contains-nil : {X : Type 0} (x : X) → Contains [] x → ⊥
Contains-nil x c = omega (arith, c.1)

pub one_only : {X : Type 0} (x y : X) → Contains (x ∷ []) y → y ≡ x
one_only x y c = ⊎_elim (λ none. absurd (Contains-nil y none)) (λ e. sym e) (Contains-push_cases [] x y c)

pub some_same : {X : Type 0} {x y : X} → Some x ≡ Some y → x ≡ y
some_same e = cc

pub notes_none : (number : ℕ) (readers : List (List ℕ)) → Notes [] number readers readers
notes_none number readers = record {
  counted = refl;
  noted = λ x c. absurd (Contains-nil x c);
  kept = λ x k c. c;
  only = λ x k c. inl c;
}

pub notes_then : (xs ys : List ℕ) (number : ℕ) (a b c : List (List ℕ)) → Notes xs number a b → Notes ys number b c → Notes (xs ++ ys) number a c
notes_then xs ys number a b c p q = record {
  counted = q.counted ∙ p.counted;
  noted = λ x h. ⊎_elim (λ first. q.kept x number (p.noted x first)) (λ second. q.noted x second) (Contains-append_cases xs ys x h);
  kept = λ x k h. q.kept x k (p.kept x k h);
  only = λ x k h. ⊎_elim (λ earlier. p.only x k earlier) (λ e. inr e) (q.only x k h);
}

pub notes_more : (xs : List ℕ) (i d number : ℕ) (a b c : List (List ℕ)) → i < length xs → Notes (take i xs) number a b → Notes (get_or xs i d ∷ []) number b c
    → Notes (take (i + 1) xs) number a c
notes_more xs i d number a b c lt p q = rw (take_more xs i d lt) (notes_then (take i xs) (get_or xs i d ∷ []) number a b c p q)

-- the readers of a variable, when one variable has one more
pushed : (readers : List (List ℕ)) (v number x : ℕ) → v < length readers
    → ((x ≡ v) × (readers_at (set readers v (readers_at readers v ++ number ∷ [])) x ≡ readers_at readers x ++ number ∷ []))
    ⊎ ((x ≢ v) × (readers_at (set readers v (readers_at readers v ++ number ∷ [])) x ≡ readers_at readers x))
pushed readers v number x lt = by (nat_eq x v) refl
  where
    by : (b : Bool) → nat_eq x v ≡ b → ((x ≡ v) × (readers_at (set readers v (readers_at readers v ++ number ∷ [])) x ≡ readers_at readers x ++ number ∷ []))
        ⊎ ((x ≢ v) × (readers_at (set readers v (readers_at readers v ++ number ∷ [])) x ≡ readers_at readers x))
    by true e = let same = eqb-true x v e in inl (same, rw same (get_or-set_same readers v (readers_at readers v ++ number ∷ []) [] lt))
    by false e = let other = eqb-false x v e in inr (other, get_or-set_other readers v x (readers_at readers v ++ number ∷ []) [] other)

pub notes_one : (readers : List (List ℕ)) (v number : ℕ) → v < length readers → Notes (v ∷ []) number readers (set readers v (readers_at readers v ++ number ∷ []))
notes_one readers v number lt = record {
  counted = length-set readers v (readers_at readers v ++ number ∷ []);
  noted = λ x c. ⊎_elim (λ here. rw (here.1) (Contains-push (readers_at readers x) number)) (λ there. absurd (there.0 (one_only v x c))) (pushed readers v number x lt);
  kept = λ x k c. ⊎_elim (λ here. rw (here.1) (Contains-append_left (readers_at readers x) (number ∷ []) k c)) (λ there. rw (there.1) c) (pushed readers v number x lt);
  only = λ x k c. ⊎_elim (λ here. ⊎_elim (λ earlier. inl earlier) (λ e. inr (sym e)) (Contains-push_cases (readers_at readers x) number k (rw (here.1) at c)))
      (λ there. inl (rw (there.1) at c)) (pushed readers v number x lt);
}

pub no_readers_yet : (rules : List Rule) (count : ℕ) (readers : List (List ℕ)) → length readers ≡ count → ((x : ℕ) → readers_at readers x ≡ []) → AreReaders rules count 0 readers
no_readers_yet rules count readers c none = record {
  counted = c;
  within = λ x k h. absurd (Contains-nil k (rw (none x) at h));
  noted = λ k rule lt. absurd (omega arith);
}

pub readers_more : (rules : List Rule) (count n : ℕ) (rule : Rule) (a b : List (List ℕ)) → n < length rules → slice_get rules n ≡ Some rule → AreReaders rules count n a → Notes (variables rule.formula) n a b
    → AreReaders rules count (n + 1) b
readers_more rules count n rule a b lt is p q = record {
  counted = q.counted ∙ p.counted;
  within = λ x k h. ⊎_elim (λ earlier. p.within x k earlier) (λ e. omega (arith, e, lt)) (q.only x k h);
  noted = λ k other below is_at x c. noted k other below is_at x c (nat_eq k n) refl;
}
  where
    noted : (k : ℕ) (other : Rule) → k < n + 1 → slice_get rules k ≡ Some other → (x : ℕ) → Contains (variables other.formula) x → (same : Bool) → nat_eq k n ≡ same
        → Contains (readers_at b x) k
    noted k other below is_at x c true e =
        let k_is = eqb-true k n e in
        let other_is : other ≡ rule = some_same (sym is_at ∙ ap (slice_get rules) k_is ∙ is) in
        rw k_is (q.noted x (rw other_is at c))
    noted k other below is_at x c false e = q.kept x k (p.noted k other (omega (arith, below, eqb-false k n e)) is_at x c)

pub readers_all : (rules : List Rule) (count n : ℕ) (readers : List (List ℕ)) → length rules ≤ n → AreReaders rules count n readers → AreReaders rules count (length rules) readers
readers_all rules count n readers past p = record {
  counted = p.counted;
  within = p.within;
  noted = λ k rule below is. p.noted k rule (omega (arith, below, past)) is;
}
