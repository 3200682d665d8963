-- The order of faults is total, and the first of a list.
use Rattle.std.proofs.Common.{◌≡◌, ℕ, zero, suc, ◌+◌, ◌<◌, List, [], ◌∷◌, ◌++◌, length, take, get_or, refl, sym, ap, ap₂, ◌∙◌, subst, arith, ⊎_elim, ◌⊎◌, inl, inr, Some, Option}
use Rattle.std.specs.Prelude.{None, Contains}
use Rattle.std.proofs.lemmas.List.{take_more}
use Rattle.std.proofs.lemmas.List.Elements.{Contains-append_left, Contains-append_right, Contains-append_cases, Contains-push, Contains-push_cases}
use Rattle.place_text.specs.declared.place.Place.{Place}
use Rattle.place_text.specs.Order.{IsNotLater, by_line, by_column, by_rank, ComesFirst, Precedes}
use Rattle.place_text.specs.First.{IsFirst, HasNone, Tells, Best, Earlier, only, stays, turns}

later_trans : {p q r : Place} {k l m : ℕ} → IsNotLater p k q l → IsNotLater q l r m → IsNotLater p k r m
later_trans (by_line a) (by_line b) = by_line (omega (arith, a, b))
later_trans (by_line a) (by_column b c) = by_line (omega (arith, a, b))
later_trans (by_line a) (by_rank b c d) = by_line (omega (arith, a, b))
later_trans (by_column a b) (by_line c) = by_line (omega (arith, a, c))
later_trans (by_column a b) (by_column c d) = by_column (a ∙ c) (omega (arith, b, d))
later_trans (by_column a b) (by_rank c d e) = by_column (a ∙ c) (omega (arith, b, d))
later_trans (by_rank a b c) (by_line d) = by_line (omega (arith, a, d))
later_trans (by_rank a b c) (by_column d e) = by_column (a ∙ d) (omega (arith, b, e))
later_trans (by_rank a b c) (by_rank d e f) = by_rank (a ∙ d) (b ∙ e) (omega (arith, c, f))

-- places with ranks of which neither is later are one
same_fault : {p q : Place} {k l : ℕ} → IsNotLater p k q l → IsNotLater q l p k → (p ≡ q) × (k ≡ l)
same_fault (by_line a) (by_line b) = absurd (omega (arith, a, b))
same_fault (by_line a) (by_column b c) = absurd (omega (arith, a, b))
same_fault (by_line a) (by_rank b c d) = absurd (omega (arith, a, b))
same_fault (by_column a b) (by_line c) = absurd (omega (arith, a, c))
same_fault (by_column a b) (by_column c d) = absurd (omega (arith, b, d))
same_fault (by_column a b) (by_rank c d e) = absurd (omega (arith, b, d))
same_fault (by_rank a b c) (by_line d) = absurd (omega (arith, a, d))
same_fault (by_rank a b c) (by_column d e) = absurd (omega (arith, b, e))
same_fault (by_rank a b c) (by_rank d e f) = (ap₂ (λ x y. record { line = x; column = y }) a b, omega (arith, c, f))

either_way : (m n : ℕ) → (m < n) ⊎ ((m ≡ n) ⊎ (n < m))
either_way zero zero = inr (inl refl)
either_way zero (suc n) = inl (omega arith)
either_way (suc m) zero = inr (inr (omega arith))
either_way (suc m) (suc n) = ⊎_elim (λ h. inl (omega (arith, h))) (λ h. ⊎_elim (λ e. inr (inl (ap suc e))) (λ g. inr (inr (omega (arith, g)))) h) (either_way m n)

total_at : (p : Place) (k : ℕ) (q : Place) (l : ℕ) → IsNotLater p k q l ⊎ IsNotLater q l p k
total_at p k q l = ⊎_elim (λ h. inl (by_line h)) (λ h. ⊎_elim (λ e. columns e (either_way p.column q.column)) (λ g. inr (by_line g)) h) (either_way p.line q.line)
  where
    ranks : p.line ≡ q.line → p.column ≡ q.column → (k < l) ⊎ ((k ≡ l) ⊎ (l < k)) → IsNotLater p k q l ⊎ IsNotLater q l p k
    ranks e f (inl h) = inl (by_rank e f (omega (arith, h)))
    ranks e f (inr (inl h)) = inl (by_rank e f (omega (arith, h)))
    ranks e f (inr (inr h)) = inr (by_rank (sym e) (sym f) (omega (arith, h)))

    columns : p.line ≡ q.line → (p.column < q.column) ⊎ ((p.column ≡ q.column) ⊎ (q.column < p.column)) → IsNotLater p k q l ⊎ IsNotLater q l p k
    columns e (inl h) = inl (by_column e h)
    columns e (inr (inl f)) = ranks e f (either_way k l)
    columns e (inr (inr h)) = inr (by_column (sym e) h)

comes_trans : (p q r : Option Place) (k l m : ℕ) → ComesFirst p k q l → ComesFirst q l r m → ComesFirst p k r m
comes_trans None None None k l m a b = omega (arith, a, b)
comes_trans None None (Some r) k l m a b = tt
comes_trans None (Some q) None k l m a b = absurd b
comes_trans None (Some q) (Some r) k l m a b = tt
comes_trans (Some p) None r k l m a b = absurd a
comes_trans (Some p) (Some q) None k l m a b = absurd b
comes_trans (Some p) (Some q) (Some r) k l m a b = later_trans a b

comes_same : (p q : Option Place) (k l : ℕ) → ComesFirst p k q l → ComesFirst q l p k → (p ≡ q) × (k ≡ l)
comes_same None None k l a b = (refl, omega (arith, a, b))
comes_same None (Some q) k l a b = absurd b
comes_same (Some p) None k l a b = absurd a
comes_same (Some p) (Some q) k l a b = let same = same_fault a b in (ap Some same.0, same.1)

comes_itself : (p : Option Place) (k : ℕ) → ComesFirst p k p k
comes_itself None k = omega arith
comes_itself (Some p) k = by_rank refl refl (omega arith)

comes_either : (p : Option Place) (k : ℕ) (q : Option Place) (l : ℕ) → ComesFirst p k q l ⊎ ComesFirst q l p k
comes_either None k None l = ⊎_elim (λ h. inl (omega (arith, h))) (λ h. ⊎_elim (λ e. inl (omega (arith, e))) (λ g. inr (omega (arith, g))) h) (either_way k l)
comes_either None k (Some q) l = inl tt
comes_either (Some p) k None l = inr tt
comes_either (Some p) k (Some q) l = total_at p k q l

-- two faults of one place and one rank are the same
abbrev pub OneEach : {F : Type 0} → (F → Option Place) → (F → ℕ) → Type 0
OneEach {F} place rank = (fault other : F) → place fault ≡ place other → rank fault ≡ rank other → fault ≡ other

module _ {F : Type 0} (place : F → Option Place) (rank : F → ℕ) where
  pub either : (fault other : F) → Precedes place rank fault other ⊎ Precedes place rank other fault
  either fault other = comes_either (place fault) (rank fault) (place other) (rank other)

  pub further : (fault middle other : F) → Precedes place rank fault middle → Precedes place rank middle other → Precedes place rank fault other
  further fault middle other = comes_trans (place fault) (place middle) (place other) (rank fault) (rank middle) (rank other)

  pub same : OneEach place rank → (fault other : F) → Precedes place rank fault other → Precedes place rank other fault → fault ≡ other
  same one fault other a b = let t = comes_same (place fault) (place other) (rank fault) (rank other) a b in one fault other t.0 t.1

  pub itself : (fault : F) → Precedes place rank fault fault
  itself fault = comes_itself (place fault) (rank fault)

  -- at most one is the first
  pub one_first : OneEach place rank → {has : F → Type 0} (fault other : F) → IsFirst place rank has fault → IsFirst place rank has other → fault ≡ other
  one_first one fault other f g = same one fault other (f.first other g.is) (g.first fault f.is)

  -- one more
  pub best_more : (faults : List F) (i : ℕ) (d : F) (best : Option F) (f : F) → i < length faults → Best place rank (take i faults) best
      → Earlier place rank best (get_or faults i d) f → IsFirst place rank (Contains (take (i + 1) faults)) f
  best_more faults i d best f lt b e = subst (λ l. IsFirst place rank (Contains l) f) (sym (take_more faults i d lt)) (by best (get_or faults i d) f b e)
    where
      by : (best : Option F) (x f : F) → Best place rank (take i faults) best → Earlier place rank best x f → IsFirst place rank (Contains (take i faults ++ x ∷ [])) f
      by None x f b (only y) = subst (λ l. IsFirst place rank (Contains (l ++ x ∷ [])) x) (sym b) record {
        is = Contains-push [] x;
        first = λ o h. ⊎_elim (λ l. absurd (omega (arith, l.1))) (λ r. subst (Precedes place rank x) r (itself x)) (Contains-push_cases [] x o h);
      }
      by (Some y) x f b (stays best' found h) = record {
        is = Contains-append_left (take i faults) (x ∷ []) y b.is;
        first = λ o h'. ⊎_elim (λ l. b.first o l) (λ r. subst (Precedes place rank y) r h) (Contains-push_cases (take i faults) x o h');
      }
      by (Some y) x f b (turns best' found h) = record {
        is = Contains-push (take i faults) x;
        first = λ o h'. ⊎_elim (λ l. further x y o h (b.first o l)) (λ r. subst (Precedes place rank x) r (itself x)) (Contains-push_cases (take i faults) x o h');
      }

  -- the first of a list that tells all faults is the first
  pub first_of : {has : F → Type 0} {faults : List F} (fault : F) → Tells has faults → IsFirst place rank (Contains faults) fault → IsFirst place rank has fault
  first_of fault tells f = record { is = tells.had fault f.is; first = λ other h. f.first other (tells.told other h) }

  -- a list has a first one, or it is empty
  pub best_of : (faults : List F) → ((fault : F) × IsFirst place rank (Contains faults) fault) ⊎ (faults ≡ [])
  best_of [] = inr refl
  best_of (x ∷ xs) = inl (⊎_elim (λ (t : (fault : F) × IsFirst place rank (Contains xs) fault). by t.0 t.1 (either x t.0)) (λ e. subst (λ l. (fault : F) × IsFirst place rank (Contains (x ∷ l)) fault) (sym e) alone) (best_of xs))
    where
      alone : (fault : F) × IsFirst place rank (Contains (x ∷ [])) fault
      alone = (x, record { is = Contains-push [] x; first = λ o h. ⊎_elim (λ l. absurd (omega (arith, l.1))) (λ r. subst (Precedes place rank x) r (itself x)) (Contains-push_cases [] x o h) })

      one : (o : F) → Contains (x ∷ []) o → x ≡ o
      one o h = ⊎_elim (λ l. absurd (omega (arith, l.1))) (λ r. r) (Contains-push_cases [] x o h)

      by : (y : F) → IsFirst place rank (Contains xs) y → Precedes place rank x y ⊎ Precedes place rank y x → (fault : F) × IsFirst place rank (Contains (x ∷ xs)) fault
      by y f (inl a) = (
        x,
        record {
          is = Contains-append_left (x ∷ []) xs x (Contains-push [] x);
          first = λ o h. ⊎_elim (λ e. subst (Precedes place rank x) (one o e) (itself x)) (λ c. further x y o a (f.first o c)) (Contains-append_cases (x ∷ []) xs o h);
        },
      )
      by y f (inr a) = (
        y,
        record {
          is = Contains-append_right (x ∷ []) xs y f.is;
          first = λ o h. ⊎_elim (λ e. subst (Precedes place rank y) (one o e) a) (λ c. f.first o c) (Contains-append_cases (x ∷ []) xs o h);
        },
      )

-- an empty list tells that there is none
pub none_of : {F : Type 0} {has : F → Type 0} (faults : List F) → Tells has faults → faults ≡ [] → HasNone has
none_of faults tells e fault h = let c = subst (λ l. Contains l fault) e (tells.told fault h) in absurd (omega (arith, c.1))
