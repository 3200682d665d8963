-- Rows that grow by one feed after another.
use Rattle.std.proofs.Common.{arith, ◌≡◌, ◌⊎◌, inl, inr, ℕ, zero, suc, ◌+◌, ◌<◌, Bool, true, false, ◌||◌, List, [], ◌∷◌, ◌++◌, take, length, get_or, Option, Some, None, if◌then◌else◌, nat_eq, cond, refl, sym, ap, ap₂, ◌∙◌, subst, true≢false, ⊎_elim}
use Rattle.std.specs.Prelude.{Contains}
use Rattle.std.specs.List.{list_any}
use Rattle.std.specs.Map.{lookup}
use Rattle.std.proofs.lemmas.Bool.{eqb-true, eqb-false}
use Rattle.std.proofs.lemmas.List.{take_more}
use Rattle.std.proofs.lemmas.List.Folds.{list_any-append}
use Rattle.std.proofs.lemmas.List.Elements.{Contains-append_left, Contains-append_right, Contains-append_cases}
use Rattle.indexmap.specs.IndexMap.{insert_entry}
use Rattle.reset_search.specs.declared.spot.Spot.{Spot}
use Rattle.reset_search.specs.declared.spot.Feed.{Feed}
use Rattle.reset_search.specs.Feeds.{feed}
use Rattle.reset_search.specs.Rows.{number, holds, listed_in, targets, FeedsAt, AreRows}

abbrev Rows : Type 0
Rows = List (ℕ × List ℕ)

pub eq_refl : (n : ℕ) → nat_eq n n ≡ true
eq_refl n = by (nat_eq n n) refl
  where
    by : (b : Bool) → nat_eq n n ≡ b → b ≡ true
    by true e = refl
    by false e = absurd (eqb-false n n e refl)

picked : {A : Type 0} (b c : Bool) (x y : A) → b ≡ c → (if b then x else y) ≡ (if c then x else y)
picked b c x y e = ap (λ q. if q then x else y) e

-- the row of one key after an insert
set_one : (es : Rows) (f : ℕ) (v : List ℕ) (k : ℕ) → targets (insert_entry nat_eq es f v) k ≡ (if nat_eq f k then v else targets es k)
set_one [] f v k = by (nat_eq k f) (nat_eq f k) refl refl
  where
    by : (b c : Bool) → nat_eq k f ≡ b → nat_eq f k ≡ c → listed_in (cond b (Some v) None) ≡ (if c then v else [])
    by true true e g = refl
    by false false e g = refl
    by true false e g = absurd (eqb-false f k g (sym (eqb-true k f e)))
    by false true e g = absurd (eqb-false k f e (sym (eqb-true f k g)))
set_one (e ∷ es) f v k = by (set_one es f v k) (nat_eq f e.0) refl (nat_eq k e.0) refl (nat_eq f k) refl
  where
    by : targets (insert_entry nat_eq es f v) k ≡ (if nat_eq f k then v else targets es k)
        → (b : Bool) → nat_eq f e.0 ≡ b → (c : Bool) → nat_eq k e.0 ≡ c → (d : Bool) → nat_eq f k ≡ d
        → targets (if b then (e.0, v) ∷ es else e ∷ insert_entry nat_eq es f v) k ≡ (if d then v else targets (e ∷ es) k)
    by rest true h true g true i = ap listed_in (picked (nat_eq k e.0) true (Some v) (lookup (nat_eq k) es) g)
    by rest true h true g false i = absurd (eqb-false f k i (eqb-true f e.0 h ∙ sym (eqb-true k e.0 g)))
    by rest true h false g true i = absurd (eqb-false k e.0 g (sym (eqb-true f k i) ∙ eqb-true f e.0 h))
    by rest true h false g false i =
        ap listed_in (picked (nat_eq k e.0) false (Some v) (lookup (nat_eq k) es) g ∙ sym (picked (nat_eq k e.0) false (Some e.1) (lookup (nat_eq k) es) g))
    by rest false h true g true i = absurd (eqb-false f e.0 h (eqb-true f k i ∙ eqb-true k e.0 g))
    by rest false h true g false i =
        ap listed_in (picked (nat_eq k e.0) true (Some e.1) (lookup (nat_eq k) (insert_entry nat_eq es f v)) g ∙ sym (picked (nat_eq k e.0) true (Some e.1) (lookup (nat_eq k) es) g))
    by rest false h false g true i = ap listed_in (picked (nat_eq k e.0) false (Some e.1) (lookup (nat_eq k) (insert_entry nat_eq es f v)) g) ∙ rest ∙ picked (nat_eq f k) true v (targets es k) i
    by rest false h false g false i =
        ap listed_in (picked (nat_eq k e.0) false (Some e.1) (lookup (nat_eq k) (insert_entry nat_eq es f v)) g) ∙ rest ∙ picked (nat_eq f k) false v (targets es k) i
        ∙ ap listed_in (sym (picked (nat_eq k e.0) false (Some e.1) (lookup (nat_eq k) es) g))

pub one_added : (es : Rows) (from to : ℕ) (empty all : List ℕ) (held : Option (List ℕ)) → held ≡ lookup (nat_eq from) es → all ≡ listed_in held ++ to ∷ [] → (k : ℕ)
    → targets (insert_entry nat_eq (insert_entry nat_eq es from empty) from all) k ≡ targets es k ++ (if nat_eq from k then to ∷ [] else [])
one_added es from to empty all held old is k = set_one (insert_entry nat_eq es from empty) from all k ∙ by (nat_eq from k) refl
  where
    nothing : (xs : List ℕ) → xs ≡ xs ++ []
    nothing [] = refl
    nothing (x ∷ xs) = ap (λ ys. x ∷ ys) (nothing xs)

    by : (b : Bool) → nat_eq from k ≡ b → (if b then all else targets (insert_entry nat_eq es from empty) k) ≡ targets es k ++ (if b then to ∷ [] else [])
    by true e = is ∙ ap (λ l. l ++ to ∷ []) (ap listed_in old ∙ ap (targets es) (eqb-true from k e))
    by false e = set_one es from empty k ∙ picked (nat_eq from k) false empty (targets es k) e ∙ nothing (targets es k)

-- Rows of feeds

or_left : (a b : Bool) → a ≡ true → (a || b) ≡ true
or_left true b e = refl
or_left false b e = cc

or_right : (a b : Bool) → b ≡ true → (a || b) ≡ true
or_right true b e = refl
or_right false b e = e

or_either : {R : Type 0} (a b : Bool) → (a || b) ≡ true → (a ≡ true → R) → (b ≡ true → R) → R
or_either true b e f g = f refl
or_either false b e f g = g e

pub rows_none : (rows : Rows) → rows ≡ [] → AreRows [] rows
rows_none rows e = record {
  all = λ p q c. absurd (none c);
  only = λ k t h. absurd (true≢false (sym h ∙ ap (λ r. holds (targets r k) t) e));
}
  where
    none : {p : Feed} → Contains [] p → ⊥
    none (k, below, is) = absurd (omega arith)

one : {x y : Feed} → Contains (x ∷ []) y → y ≡ x
one (zero, below, is) = sym is
one (suc k, below, is) = absurd (omega arith)

pub rows_more : (feeds : List Feed) (i : ℕ) (f d : Feed) (old new : Rows) → i < length feeds → f ≡ get_or feeds i d → AreRows (take i feeds) old
    → ((k : ℕ) → targets new k ≡ targets old k ++ (if nat_eq (number f.from) k then number f.to ∷ [] else [])) → AreRows (take (i + 1) feeds) new
rows_more feeds i f d old new lt is h added = subst (λ fs. AreRows fs new) (sym next) (record { all = all; only = only })
  where
    before : List Feed
    before = take i feeds

    next : take (i + 1) feeds ≡ before ++ f ∷ []
    next = take_more feeds i d lt ∙ ap (λ y. before ++ y ∷ []) (sym is)

    extra : ℕ → List ℕ
    extra k = if nat_eq (number f.from) k then number f.to ∷ [] else []

    split : (k t : ℕ) → holds (targets new k) t ≡ (holds (targets old k) t || holds (extra k) t)
    split k t = ap (λ l. holds l t) (added k) ∙ list_any-append (nat_eq t) (targets old k) (extra k)

    own : (p q : Spot) → feed p q ≡ f → holds (extra (number p)) (number q) ≡ true
    own p q e =
        let from : nat_eq (number f.from) (number p) ≡ true = ap (λ (x : Feed). nat_eq (number x.from) (number p)) (sym e) ∙ eq_refl (number p) in
        let to : nat_eq (number q) (number f.to) ≡ true = ap (λ (x : Feed). nat_eq (number q) (number x.to)) (sym e) ∙ eq_refl (number q) in
        ap (λ b. holds (if b then number f.to ∷ [] else []) (number q)) from ∙ or_left (nat_eq (number q) (number f.to)) false to

    all : (p q : Spot) → Contains (before ++ f ∷ []) (feed p q) → holds (targets new (number p)) (number q) ≡ true
    all p q c = split (number p) (number q) ∙ ⊎_elim
        (λ l. or_left (holds (targets old (number p)) (number q)) (holds (extra (number p)) (number q)) (h.all p q l))
        (λ r. or_right (holds (targets old (number p)) (number q)) (holds (extra (number p)) (number q)) (own p q (one r)))
        (Contains-append_cases before (f ∷ []) (feed p q) c)

    kept : {k t : ℕ} → FeedsAt before k t → FeedsAt (before ++ f ∷ []) k t
    kept at = record { source = at.source; driven = at.driven; has = Contains-append_left before (f ∷ []) (feed at.source at.driven) at.has; from' = at.from'; to' = at.to' }

    by : (k t : ℕ) (b : Bool) → nat_eq (number f.from) k ≡ b → holds (if b then number f.to ∷ [] else []) t ≡ true → FeedsAt (before ++ f ∷ []) k t
    by k t false e g = absurd (true≢false (sym g))
    by k t true e g = or_either (nat_eq t (number f.to)) false g
        (λ same. record {
          source = f.from;
          driven = f.to;
          has = Contains-append_right before (f ∷ []) f (0, omega arith, refl);
          from' = eqb-true (number f.from) k e;
          to' = sym (eqb-true t (number f.to) same);
        })
        (λ no. absurd (true≢false (sym no)))

    only : (k t : ℕ) → holds (targets new k) t ≡ true → FeedsAt (before ++ f ∷ []) k t
    only k t g = or_either (holds (targets old k) t) (holds (extra k) t) (sym (split k t) ∙ g) (λ l. kept (h.only k t l)) (λ r. by k t (nat_eq (number f.from) k) refl r)
