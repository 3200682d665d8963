-- What a search has found, step by step.
use Rattle.std.proofs.Common.{◌≡◌, ◌↔◌, ℕ, zero, suc, ◌+◌, ◌<◌, ◌≤◌, Bool, true, false, ◌||◌, ◌&&◌, ◌==◌, List, [], ◌∷◌, ◌++◌, take, length, get_or, Option, Some, None, slice_get, if◌then◌else◌, refl, sym, ap, ap₂, ◌∙◌, subst, arith, append-nil, append_assoc, true≢false, cond}
use Rattle.std.specs.List.{list_any}
use Rattle.std.specs.Map.{lookup}
use Rattle.std.specs.Global.{Vec}
use Rattle.std.proofs.lemmas.Bool.{eqb-true, eqb-false}
use Rattle.std.proofs.lemmas.List.Folds.{list_any_more}
use Rattle.indexmap.specs.IndexMap.{insert_entry}
use Rattle.indexmap.specs.IndexSet.{insert_key}
use Rattle.fir_types.specs.declared.leaf.PathStep.{PathStep}
use Rattle.fir_types.specs.declared.leaf.PathStep.TheVariants as step
use Rattle.fir_meaning.specs.Components.{FlatLeaf}
use Rattle.fir_meaning.specs.Drives.{same_way, same_step}
use Rattle.fir_meaning.proofs.Tracking.{none_some}
use Rattle.fir_names.proofs.Graphs.{some_same}
use Rattle.clock_check.specs.declared.flat_set.FlatKey.{FlatKey}
use Rattle.clock_check.specs.Flats.{leaf_of_flat, same_path, same_flat, is_within}
use Rattle.clock_check.specs.Searched.{Sinks, sinks_at, listed_in, IsSink, LeadsTo, there, onward, Grows}
use Rattle.clock_check.proofs.FlatTests.{flat_eq, flat_same, flat_equal, turned}

-- A leaf is the same as itself

number_same : (n : ℕ) → (n == n) ≡ true
number_same n = by (n == n) refl
  where
    by : (b : Bool) → (n == n) ≡ b → b ≡ true
    by true e = refl
    by false e = absurd (eqb-false n n e refl)

step_same : (s : PathStep) → same_step s s ≡ true
step_same (step.Field n) = number_same n
step_same (step.Element n) = number_same n

and_same : (p q : Bool) → p ≡ true → q ≡ true → (p && q) ≡ true
and_same p q e f = ap₂ (λ a b. a && b) e f

way_same : (way : List PathStep) → same_way way way ≡ true
way_same [] = refl
way_same (s ∷ way) = and_same (same_step s s) (same_way way way) (step_same s) (way_same way)

path_same : (path : List ℕ) → same_path path path ≡ true
path_same [] = refl
path_same (i ∷ path) = and_same (i == i) (same_path path path) (number_same i) (path_same path)

pub leaf_same : (x : FlatLeaf) → same_flat x x ≡ true
leaf_same x = and_same (same_path x.path x.path) ((x.component == x.component) && same_way x.way x.way) (path_same x.path)
    (and_same (x.component == x.component) (same_way x.way x.way) (number_same x.component) (way_same x.way))

-- Sets that grow

pub grows_one : (keys : List FlatKey) (key : FlatKey) → Grows keys (insert_key flat_eq keys key)
grows_one keys key = by (list_any (flat_eq key) keys)
  where
    by : (b : Bool) → Grows keys (if b then keys else keys ++ key ∷ [])
    by true = ([], sym (append-nil keys))
    by false = (key ∷ [], refl)

grows_both : (a b c : List FlatKey) → Grows a b → Grows b c → Grows a c
grows_both a b c g h = (g.0 ++ h.0, h.1 ∙ ap (λ l. l ++ h.0) g.1 ∙ append_assoc a g.0 h.0)

-- these leaves were added
pub record Adds (old leaves new : List FlatKey) : Type 0 where
  pub within : (x : FlatLeaf) → is_within new x ≡ (is_within old x || is_within leaves x)
  pub grows : Grows old new

pub or_none : (b : Bool) → b ≡ (b || false)
or_none true = refl
or_none false = refl

pub or_assoc : (a b c : Bool) → ((a || b) || c) ≡ (a || (b || c))
or_assoc true b c = refl
or_assoc false b c = refl

pub adds_none : (old : List FlatKey) → Adds old [] old
adds_none old = record { within = λ x. or_none (is_within old x); grows = ([], sym (append-nil old)) }

pub adds_more : (old mid new leaves : List FlatKey) (i : ℕ) (key copy : FlatKey) → i < length leaves → key ≡ get_or leaves i key → Adds old (take i leaves) mid
    → leaf_of_flat copy ≡ leaf_of_flat key → ((x : FlatLeaf) → is_within new x ≡ (is_within mid x || same_flat (leaf_of_flat copy) x)) → Grows mid new
    → Adds old (take (i + 1) leaves) new
adds_more old mid new leaves i key copy lt is h same w g = record {
  within = λ x. w x ∙ ap₂ (λ p q. p || q) (h.within x) (ap (λ l. same_flat l x) same)
      ∙ or_assoc (is_within old x) (is_within (take i leaves) x) (same_flat (leaf_of_flat key) x)
      ∙ ap (λ q. is_within old x || q) (ap (λ k. is_within (take i leaves) x || same_flat (leaf_of_flat k) x) is ∙ sym (list_any_more (λ k. same_flat (leaf_of_flat k) x) leaves i key lt));
  grows = grows_both old mid new h.grows g;
}

-- Keys of a set

or_left : (a b : Bool) → a ≡ true → (a || b) ≡ true
or_left true b e = refl
or_left false b e = cc

or_right : (a b : Bool) → b ≡ true → (a || b) ≡ true
or_right true b e = refl
or_right false b e = e

or_either : {R : Type 0} (a b : Bool) → (a || b) ≡ true → (a ≡ true → R) → (b ≡ true → R) → R
or_either true b e f g = f refl
or_either false b e f g = g e

pub get_within : (keys : List FlatKey) (k : ℕ) (key : FlatKey) → slice_get keys k ≡ Some key → is_within keys (leaf_of_flat key) ≡ true
get_within [] k key e = absurd (none_some e)
get_within (y ∷ keys) zero key e =
    or_left (same_flat (leaf_of_flat y) (leaf_of_flat key)) (is_within keys (leaf_of_flat key)) (ap (λ z. same_flat (leaf_of_flat z) (leaf_of_flat key)) (some_same e) ∙ leaf_same (leaf_of_flat key))
get_within (y ∷ keys) (suc k) key e = or_right (same_flat (leaf_of_flat y) (leaf_of_flat key)) (is_within keys (leaf_of_flat key)) (get_within keys k key e)

-- a key of this leaf
record Kept (keys : List FlatKey) (x : FlatLeaf) : Type 0 where
  k : ℕ
  key : FlatKey
  here' : slice_get keys k ≡ Some key
  is : leaf_of_flat key ≡ x

within_get : (keys : List FlatKey) (x : FlatLeaf) → is_within keys x ≡ true → Kept keys x
within_get [] x e = absurd (true≢false (sym e))
within_get (y ∷ keys) x e = or_either (same_flat (leaf_of_flat y) x) (is_within keys x) e
    (λ same. record { k = 0; key = y; here' = refl; is = flat_equal (leaf_of_flat y) x same })
    (λ more. let rest = within_get keys x more in record { k = suc rest.k; key = rest.key; here' = rest.here'; is = rest.is })

get_front : (keys more : List FlatKey) (k at : ℕ) (key one : FlatKey) → slice_get keys at ≡ Some one → k ≤ at → slice_get (keys ++ more) k ≡ Some key → slice_get keys k ≡ Some key
get_front [] more k at key one e le f = absurd (none_some e)
get_front (y ∷ keys) more zero at key one e le f = f
get_front (y ∷ keys) more (suc k) zero key one e le f = absurd (omega (arith, le))
get_front (y ∷ keys) more (suc k) (suc at) key one e le f = get_front keys more k at key one e (omega (arith, le)) f

before_end : (keys : List FlatKey) (k at : ℕ) (key : FlatKey) → slice_get keys k ≡ Some key → slice_get keys at ≡ None → k < at
before_end [] k at key e f = absurd (none_some e)
before_end (y ∷ keys) k zero key e f = absurd (none_some (sym f))
before_end (y ∷ keys) zero (suc at) key e f = omega arith
before_end (y ∷ keys) (suc k) (suc at) key e f = let rest = before_end keys k at key e f in omega (arith, rest)

-- The search: all leads to the start, and with the first ones those are found that have their values from them.
pub record Searched (sinks : Sinks) (start : FlatLeaf) (keys : List FlatKey) (at : ℕ) : Type 0 where
  pub begun : is_within keys start ≡ true
  pub sound : (x : FlatLeaf) → is_within keys x ≡ true → LeadsTo sinks start x
  pub done : (k : ℕ) (key : FlatKey) → k < at → slice_get keys k ≡ Some key → (x : FlatLeaf) → IsSink sinks x (leaf_of_flat key) → is_within keys x ≡ true

pub searched_first : (sinks : Sinks) (start : FlatLeaf) (none keys : List FlatKey) → ((x : FlatLeaf) → is_within none x ≡ false)
    → ((x : FlatLeaf) → is_within keys x ≡ (is_within none x || same_flat start x)) → Searched sinks start keys 0
searched_first sinks start none keys empty first = record {
  begun = at start ∙ leaf_same start;
  sound = λ x e. subst (LeadsTo sinks start) (flat_equal start x (sym (at x) ∙ e)) there;
  done = λ k key lt e x is. absurd (omega (arith, lt));
}
  where
    at : (x : FlatLeaf) → is_within keys x ≡ same_flat start x
    at x = first x ∙ ap (λ b. b || same_flat start x) (empty x)

pub searched_next : (sinks : Sinks) (start : FlatLeaf) (keys new : List FlatKey) (at : ℕ) (key : FlatKey) → Searched sinks start keys at → slice_get keys at ≡ Some key
    → Adds keys (sinks_at sinks (leaf_of_flat key)) new → Searched sinks start new (at + 1)
searched_next sinks start keys new at key s e a = record {
  begun = kept start s.begun;
  sound = λ x w. or_either (is_within keys x) (is_within (sinks_at sinks (leaf_of_flat key)) x) (sym (a.within x) ∙ w)
      (s.sound x)
      (λ is. onward x (leaf_of_flat key) is (s.sound (leaf_of_flat key) (get_within keys at key e)));
  done = λ k other lt f x is. by k other (get_front keys a.grows.0 k at other key e (omega (arith, lt)) (subst (λ l. slice_get l k ≡ Some other) a.grows.1 f)) x is (k == at) refl lt;
}
  where
    kept : (x : FlatLeaf) → is_within keys x ≡ true → is_within new x ≡ true
    kept x w = a.within x ∙ or_left (is_within keys x) (is_within (sinks_at sinks (leaf_of_flat key)) x) w

    by : (k : ℕ) (other : FlatKey) → slice_get keys k ≡ Some other → (x : FlatLeaf) → IsSink sinks x (leaf_of_flat other) → (b : Bool) → (k == at) ≡ b → k < at + 1 → is_within new x ≡ true
    by k other f x is true same lt =
        let now' : k ≡ at = eqb-true k at same in
        let one : other ≡ key = some_same (sym f ∙ ap (slice_get keys) now' ∙ e) in
        a.within x ∙ or_right (is_within keys x) (is_within (sinks_at sinks (leaf_of_flat key)) x) (subst (λ o. IsSink sinks x (leaf_of_flat o)) one is)
    by k other f x is false same lt =
        let apart = eqb-false k at same in
        kept x (s.done k other (below k at apart lt) f x is)
      where
        below : (k at : ℕ) → (k ≡ at → ⊥) → k < at + 1 → k < at
        below k at apart lt = omega (arith, apart, lt)

pub searched_all : (sinks : Sinks) (start : FlatLeaf) (keys : List FlatKey) (at : ℕ) → Searched sinks start keys at → slice_get keys at ≡ None
    → (x : FlatLeaf) → (is_within keys x ≡ true) ↔ LeadsTo sinks start x
searched_all sinks start keys at s e x = (s.sound x, found s)
  where
    found : Searched sinks start keys at → {y : FlatLeaf} → LeadsTo sinks start y → is_within keys y ≡ true
    found t there = t.begun
    found t (onward y z is rest) =
        let its = within_get keys z (found t rest) in
        t.done its.k its.key (before_end keys its.k at its.key its.here' e) its.here' y (subst (IsSink sinks y) (sym its.is) is)

-- Look-ups

pub looked_up : (es : Sinks) (key : FlatKey) → listed_in (lookup (flat_eq key) es) ≡ sinks_at es (leaf_of_flat key)
looked_up [] key = refl
looked_up (e ∷ es) key = by (flat_eq key e.0) (same_flat (leaf_of_flat e.0) (leaf_of_flat key)) (flat_same key e.0 ∙ turned (leaf_of_flat key) (leaf_of_flat e.0)) (looked_up es key)
  where
    by : (b c : Bool) → b ≡ c → listed_in (lookup (flat_eq key) es) ≡ sinks_at es (leaf_of_flat key)
        → listed_in (cond b (Some e.1) (lookup (flat_eq key) es)) ≡ (if c then e.1.items else sinks_at es (leaf_of_flat key))
    by true true e' rest = refl
    by false false e' rest = rest
    by true false e' rest = absurd (true≢false e')
    by false true e' rest = absurd (true≢false (sym e'))

picked : {A : Type 0} (b c : Bool) (x y : A) → b ≡ c → (if b then x else y) ≡ (if c then x else y)
picked b c x y e = ap (λ q. if q then x else y) e

set_one : (es : Sinks) (k : FlatKey) (v : Vec FlatKey) (y : FlatLeaf) → sinks_at (insert_entry flat_eq es k v) y ≡ (if same_flat (leaf_of_flat k) y then v.items else sinks_at es y)
set_one [] k v y = refl
set_one (e ∷ es) k v y = by (set_one es k v y) (flat_eq k e.0) refl (same_flat (leaf_of_flat e.0) y) refl
  where
    by : sinks_at (insert_entry flat_eq es k v) y ≡ (if same_flat (leaf_of_flat k) y then v.items else sinks_at es y)
        → (b : Bool) → flat_eq k e.0 ≡ b → (c : Bool) → same_flat (leaf_of_flat e.0) y ≡ c
        → sinks_at (if b then (e.0, v) ∷ es else e ∷ insert_entry flat_eq es k v) y ≡ (if same_flat (leaf_of_flat k) y then v.items else sinks_at (e ∷ es) y)
    by rest true h true f =
        let same : leaf_of_flat k ≡ leaf_of_flat e.0 = flat_equal (leaf_of_flat k) (leaf_of_flat e.0) (sym (flat_same k e.0) ∙ h) in
        picked _ true v.items (sinks_at es y) f ∙ sym (picked _ true v.items (sinks_at (e ∷ es) y) (ap (λ l. same_flat l y) same ∙ f))
    by rest true h false f =
        let same : leaf_of_flat k ≡ leaf_of_flat e.0 = flat_equal (leaf_of_flat k) (leaf_of_flat e.0) (sym (flat_same k e.0) ∙ h) in
        picked _ false v.items (sinks_at es y) f ∙ sym (picked _ false e.1.items (sinks_at es y) f)
        ∙ sym (picked _ false v.items (sinks_at (e ∷ es) y) (ap (λ l. same_flat l y) same ∙ f))
    by rest false h true f =
        let is : leaf_of_flat e.0 ≡ y = flat_equal (leaf_of_flat e.0) y f in
        let other : same_flat (leaf_of_flat k) y ≡ false = ap (same_flat (leaf_of_flat k)) (sym is) ∙ sym (flat_same k e.0) ∙ h in
        picked _ true e.1.items (sinks_at (insert_entry flat_eq es k v) y) f ∙ sym (picked _ true e.1.items (sinks_at es y) f)
        ∙ sym (picked _ false v.items (sinks_at (e ∷ es) y) other)
    by rest false h false f =
        picked _ false e.1.items (sinks_at (insert_entry flat_eq es k v) y) f ∙ rest
        ∙ ap (λ d. if same_flat (leaf_of_flat k) y then v.items else d) (sym (picked _ false e.1.items (sinks_at es y) f))

pub one_added : (es : Sinks) (source copy sink : FlatKey) (empty all : Vec FlatKey) (held : Option (Vec FlatKey)) → leaf_of_flat copy ≡ leaf_of_flat source → held ≡ lookup (flat_eq copy) es
    → all.items ≡ listed_in held ++ sink ∷ [] → (y : FlatLeaf)
    → sinks_at (insert_entry flat_eq (insert_entry flat_eq es copy empty) source all) y ≡ sinks_at es y ++ (if same_flat (leaf_of_flat source) y then sink ∷ [] else [])
one_added es source copy sink empty all held same old is y =
    set_one (insert_entry flat_eq es copy empty) source all y ∙ by (same_flat (leaf_of_flat source) y) refl
  where
    by : (b : Bool) → same_flat (leaf_of_flat source) y ≡ b
        → (if b then all.items else sinks_at (insert_entry flat_eq es copy empty) y) ≡ sinks_at es y ++ (if b then sink ∷ [] else [])
    by true e = is ∙ ap (λ l. l ++ sink ∷ []) (ap listed_in old ∙ looked_up es copy ∙ ap (sinks_at es) (same ∙ flat_equal (leaf_of_flat source) y e))
    by false e = set_one es copy empty y ∙ picked _ false empty.items (sinks_at es y) (ap (λ l. same_flat l y) same ∙ e) ∙ sym (append-nil (sinks_at es y))
