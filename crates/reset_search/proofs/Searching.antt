-- What a search has found, step by step.
use Rattle.std.proofs.Common.{arith, ◌≡◌, ◌↔◌, ℕ, zero, suc, ◌+◌, ◌<◌, ◌≤◌, Bool, true, false, ◌||◌, List, [], ◌∷◌, ◌++◌, map, take, length, get_or, Option, Some, None, slice_get, if◌then◌else◌, nat_eq, refl, sym, ap, ap₂, ◌∙◌, subst, append-nil, append_assoc, true≢false}
use Rattle.std.specs.Prelude.{Contains}
use Rattle.std.specs.List.{list_any}
use Rattle.std.proofs.lemmas.Bool.{eqb-true, eqb-false}
use Rattle.std.proofs.lemmas.List.Folds.{list_any_more, list_any-append}
use Rattle.indexmap.specs.IndexSet.{insert_key}
use Rattle.reset_search.specs.declared.spot.Spot.{Spot}
use Rattle.reset_search.specs.declared.spot.Feed.{Feed}
use Rattle.reset_search.specs.declared.spot.Feeds.{Feeds}
use Rattle.reset_search.specs.Feeds.{feed, IsReached, begins, onward}
use Rattle.reset_search.specs.Rows.{number, holds, targets, AreRows, Way, starts_at, goes_on, Grows}
use Rattle.reset_search.proofs.Numbering.{number_once}
use Rattle.reset_search.proofs.Rowing.{eq_refl}

abbrev Rows : Type 0
Rows = List (ℕ × List ℕ)

some_same : {x y : ℕ} → Some x ≡ Some y → x ≡ y
some_same e = cc

none_some : {x : ℕ} → None ≡ Some x → ⊥
none_some e = absurd cc

-- Sets that grow

pub grows_one : (keys : List ℕ) (key : ℕ) → Grows keys (insert_key nat_eq keys key)
grows_one keys key = by (list_any (nat_eq key) keys)
  where
    by : (b : Bool) → Grows keys (if b then keys else keys ++ key ∷ [])
    by true = ([], sym (append-nil keys))
    by false = (key ∷ [], refl)

pub one_more : (keys : List ℕ) (key k : ℕ) → holds (insert_key nat_eq keys key) k ≡ (holds keys k || nat_eq k key)
one_more keys key k = by (list_any (nat_eq key) keys) refl
  where
    there : (ks : List ℕ) → list_any (nat_eq key) ks ≡ true → (holds ks k || nat_eq k key) ≡ holds ks k
    there ks e = by' (nat_eq k key) refl
      where
        or_false : (b : Bool) → (b || false) ≡ b
        or_false true = refl
        or_false false = refl

        or_true : (b : Bool) → b ≡ true → (b || true) ≡ b
        or_true true f = refl
        or_true false f = sym f

        by' : (c : Bool) → nat_eq k key ≡ c → (holds ks k || c) ≡ holds ks k
        by' true f = or_true (holds ks k) (subst (λ n. holds ks n ≡ true) (sym (eqb-true k key f)) e)
        by' false f = or_false (holds ks k)

    last : (c : Bool) → (holds keys k || (c || false)) ≡ (holds keys k || c)
    last true = refl
    last false = refl

    by : (b : Bool) → list_any (nat_eq key) keys ≡ b → holds (if b then keys else keys ++ key ∷ []) k ≡ (holds keys k || nat_eq k key)
    by true e = sym (there keys e)
    by false e = list_any-append (nat_eq k) keys (key ∷ []) ∙ last (nat_eq k key)

grows_both : (a b c : List ℕ) → Grows a b → Grows b c → Grows a c
grows_both a b c g h = (g.0 ++ h.0, h.1 ∙ ap (λ l. l ++ h.0) g.1 ∙ append_assoc a g.0 h.0)

-- these numbers were added
pub record Adds (old added new : List ℕ) : Type 0 where
  pub within : (k : ℕ) → holds new k ≡ (holds old k || holds added k)
  pub grows : Grows old new

or_none : (b : Bool) → b ≡ (b || false)
or_none true = refl
or_none false = refl

or_assoc : (a b c : Bool) → ((a || b) || c) ≡ (a || (b || c))
or_assoc true b c = refl
or_assoc false b c = refl

pub adds_none : (old : List ℕ) → Adds old [] old
adds_none old = record { within = λ x. or_none (holds old x); grows = ([], sym (append-nil old)) }

pub adds_one : (old mid new added : List ℕ) (key : ℕ) → Adds old added mid → ((k : ℕ) → holds new k ≡ (holds mid k || nat_eq k key)) → Grows mid new
    → Adds old (added ++ key ∷ []) new
adds_one old mid new added key h w g = record {
  within = λ k. w k ∙ ap (λ b. b || nat_eq k key) (h.within k) ∙ or_assoc (holds old k) (holds added k) (nat_eq k key)
      ∙ ap (λ b. holds old k || b) (ap (λ b. holds added k || b) (or_none (nat_eq k key)) ∙ sym (list_any-append (nat_eq k) added (key ∷ [])));
  grows = grows_both old mid new h.grows g;
}

-- Keys of a set

or_left : (a b : Bool) → a ≡ true → (a || b) ≡ true
or_left true b e = refl
or_left false b e = cc

or_right : (a b : Bool) → b ≡ true → (a || b) ≡ true
or_right true b e = refl
or_right false b e = e

or_either : {R : Type 0} (a b : Bool) → (a || b) ≡ true → (a ≡ true → R) → (b ≡ true → R) → R
or_either true b e f g = f refl
or_either false b e f g = g e

get_within : (keys : List ℕ) (at key : ℕ) → slice_get keys at ≡ Some key → holds keys key ≡ true
get_within [] at key e = absurd (none_some e)
get_within (y ∷ keys) zero key e = or_left (nat_eq key y) (holds keys key) (ap (nat_eq key) (some_same e) ∙ eq_refl key)
get_within (y ∷ keys) (suc at) key e = or_right (nat_eq key y) (holds keys key) (get_within keys at key e)

record Kept (keys : List ℕ) (x : ℕ) : Type 0 where
  at : ℕ
  here' : slice_get keys at ≡ Some x

within_get : (keys : List ℕ) (x : ℕ) → holds keys x ≡ true → Kept keys x
within_get [] x e = absurd (true≢false (sym e))
within_get (y ∷ keys) x e = or_either (nat_eq x y) (holds keys x) e
    (λ same. record { at = 0; here' = ap Some (sym (eqb-true x y same)) })
    (λ more. let rest = within_get keys x more in record { at = suc rest.at; here' = rest.here' })

get_front : (keys more : List ℕ) (k at key one : ℕ) → slice_get keys at ≡ Some one → k ≤ at → slice_get (keys ++ more) k ≡ Some key → slice_get keys k ≡ Some key
get_front [] more k at key one e le f = absurd (none_some e)
get_front (y ∷ keys) more zero at key one e le f = f
get_front (y ∷ keys) more (suc k) zero key one e le f = absurd (omega (arith, le))
get_front (y ∷ keys) more (suc k) (suc at) key one e le f = get_front keys more k at key one e (omega (arith, le)) f

before_end : (keys : List ℕ) (k at key : ℕ) → slice_get keys k ≡ Some key → slice_get keys at ≡ None → k < at
before_end [] k at key e f = absurd (none_some e)
before_end (y ∷ keys) k zero key e f = absurd (none_some (sym f))
before_end (y ∷ keys) zero (suc at) key e f = omega arith
before_end (y ∷ keys) (suc k) (suc at) key e f = let rest = before_end keys k at key e f in omega (arith, rest)

-- The search: ways lead to all that is found, and with the first ones those are found that they feed.
pub record Searched (rows : Rows) (starts : List Spot) (keys : List ℕ) (at : ℕ) : Type 0 where
  pub begun : (p : Spot) → Contains starts p → holds keys (number p) ≡ true
  pub sound : (k : ℕ) → holds keys k ≡ true → Way rows starts k
  pub done : (k key : ℕ) → k < at → slice_get keys k ≡ Some key → (t : ℕ) → holds (targets rows key) t ≡ true → holds keys t ≡ true

numbers_hold : (starts : List Spot) (p : Spot) → Contains starts p → holds (map number starts) (number p) ≡ true
numbers_hold [] p (k, below, is) = absurd (omega arith)
numbers_hold (s ∷ starts) p (zero, below, is) = or_left (nat_eq (number p) (number s)) (holds (map number starts) (number p)) (ap (λ x. nat_eq (number p) (number x)) is ∙ eq_refl (number p))
numbers_hold (s ∷ starts) p (suc k, below, is) = or_right (nat_eq (number p) (number s)) (holds (map number starts) (number p)) (numbers_hold starts p (k, omega arith, is))

record Started (starts : List Spot) (k : ℕ) : Type 0 where
  spot : Spot
  has : Contains starts spot
  is' : number spot ≡ k

started : (starts : List Spot) (k : ℕ) → holds (map number starts) k ≡ true → Started starts k
started [] k e = absurd (true≢false (sym e))
started (s ∷ starts) k e = or_either (nat_eq k (number s)) (holds (map number starts) k) e
    (λ same. record { spot = s; has = (0, omega arith, refl); is' = sym (eqb-true k (number s) same) })
    (λ more. let rest = started starts k more in record { spot = rest.spot; has = later rest.has; is' = rest.is' })
  where
    later : {p : Spot} → Contains starts p → Contains (s ∷ starts) p
    later (j, below, is) = (suc j, omega arith, is)

pub searched_first : (rows : Rows) (starts : List Spot) (none keys : List ℕ) → ((k : ℕ) → holds none k ≡ false) → Adds none (map number starts) keys → Searched rows starts keys 0
searched_first rows starts none keys empty a = record {
  begun = λ p c. at (number p) ∙ numbers_hold starts p c;
  sound = λ k e. let s = started starts k (sym (at k) ∙ e) in subst (Way rows starts) s.is' (starts_at s.spot s.has);
  done = λ k key lt e t is. absurd (omega (arith, lt));
}
  where
    at : (k : ℕ) → holds keys k ≡ holds (map number starts) k
    at k = a.within k ∙ ap (λ b. b || holds (map number starts) k) (empty k)

pub searched_next : (rows : Rows) (starts : List Spot) (keys new : List ℕ) (at key : ℕ) → Searched rows starts keys at → slice_get keys at ≡ Some key → Adds keys (targets rows key) new
    → Searched rows starts new (at + 1)
searched_next rows starts keys new at key s e a = record {
  begun = λ p c. kept (number p) (s.begun p c);
  sound = λ k w. or_either (holds keys k) (holds (targets rows key) k) (sym (a.within k) ∙ w) (s.sound k) (λ is. goes_on key k (s.sound key (get_within keys at key e)) is);
  done = λ k other lt f t is. by k other (get_front keys a.grows.0 k at other key e (omega (arith, lt)) (subst (λ l. slice_get l k ≡ Some other) a.grows.1 f)) t is (nat_eq k at) refl lt;
}
  where
    kept : (k : ℕ) → holds keys k ≡ true → holds new k ≡ true
    kept k w = a.within k ∙ or_left (holds keys k) (holds (targets rows key) k) w

    by : (k other : ℕ) → slice_get keys k ≡ Some other → (t : ℕ) → holds (targets rows other) t ≡ true → (b : Bool) → nat_eq k at ≡ b → k < at + 1 → holds new t ≡ true
    by k other f t is true same lt =
        let now' : k ≡ at = eqb-true k at same in
        let one : other ≡ key = some_same (sym f ∙ ap (slice_get keys) now' ∙ e) in
        a.within t ∙ or_right (holds keys t) (holds (targets rows key) t) (subst (λ o. holds (targets rows o) t ≡ true) one is)
    by k other f t is false same lt =
        let apart = eqb-false k at same in
        kept t (s.done k other (below k at apart lt) f t is)
      where
        below : (k at : ℕ) → (k ≡ at → ⊥) → k < at + 1 → k < at
        below k at apart lt = omega (arith, apart, lt)

pub searched_all : (rows : Rows) (starts : List Spot) (keys : List ℕ) (at : ℕ) → Searched rows starts keys at → slice_get keys at ≡ None → (k : ℕ) → (holds keys k ≡ true) ↔ Way rows starts k
searched_all rows starts keys at s e k = (s.sound k, found s)
  where
    found : Searched rows starts keys at → {t : ℕ} → Way rows starts t → holds keys t ≡ true
    found r (starts_at p c) = r.begun p c
    found r (goes_on from t way is) =
        let its = within_get keys from (found r way) in
        r.done its.at from (before_end keys its.at at from its.here' e) its.here' t is

-- Ways along the rows of feeds lead exactly to the numbers of the places that are reached.

record Reaches (all : Feeds) (k : ℕ) : Type 0 where
  spot : Spot
  reached : IsReached all spot
  is' : number spot ≡ k

way_reaches : (all : Feeds) (rows : Rows) → AreRows all.feeds rows → (k : ℕ) → Way rows all.asyncs k → Reaches all k
way_reaches all rows h k (starts_at p c) = record { spot = p; reached = begins c; is' = refl }
way_reaches all rows h k (goes_on from t way is) =
    let before = way_reaches all rows h from way in
    let f = h.only from t is in
    let same : before.spot ≡ f.source = number_once before.spot f.source (before.is' ∙ sym f.from') in
    record { spot = f.driven; reached = onward (subst (IsReached all) same before.reached) f.has; is' = f.to' }

way_to : (all : Feeds) (rows : Rows) → AreRows all.feeds rows → (p : Spot) → IsReached all p → Way rows all.asyncs (number p)
way_to all rows h p (begins c) = starts_at p c
way_to all rows h p (onward {p = from} r c) = goes_on (number from) (number p) (way_to all rows h from r) (h.all from p c)

pub ways_are : (all : Feeds) (rows : Rows) → AreRows all.feeds rows → (p : Spot) → Way rows all.asyncs (number p) ↔ IsReached all p
ways_are all rows h p = (λ way. let r = way_reaches all rows h (number p) way in subst (IsReached all) (number_once r.spot p r.is') r.reached, way_to all rows h p)
