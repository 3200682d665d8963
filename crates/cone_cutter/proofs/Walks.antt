-- Walks of cones.
use Rattle.std.proofs.Common.{◌≡◌, ◌≢◌, ℕ, suc, ◌+◌, ◌<◌, ◌≤◌, ◌==◌, Bool, true, false, not, cond, List, [], ◌∷◌, ◌++◌, length, slice_index, slice_set, refl, sym, subst, ap, ◌∙◌, arith, ⊎_elim, inl, inr, append_assoc, get_or}
use Rattle.std.specs.List.{Contains, All}
use Rattle.std.proofs.lemmas.Bool.{cases_eq, cases_lt, eq-eqb, eqb-true}
use Rattle.std.proofs.lemmas.List.{length-set, length_push, get_or_append_left, get_or_default, append-nil}
use Rattle.std.proofs.lemmas.List.Elements.{Contains-append_left, Contains-append_right, Contains-append_cases, Contains-push, Contains-push_cases}
use Rattle.std.proofs.lemmas.List.Sums.{sum_by-set, sum_by-cons}
use Rattle.std.proofs.Math.ListN.{length-append}
use Rattle.cone_cutter.specs.Rows.{AreBelow, row_at, Met, root, next}
use Rattle.cone_cutter.specs.Walks.{unstamped, Meets, Walking, Walked}
use Rattle.cone_cutter.proofs.Lists.{set_here, set_there, none_in, once_push, pairs_append, stands, stood}

-- stamps

stamped_one : (s : ℕ) → cond {A = ℕ} (not (s == s)) 1 0 ≡ 0
stamped_one s = ap (λ b. cond {A = ℕ} (not b) 1 0) (eq-eqb s s refl)

other_one : (s t : ℕ) → s ≢ t → cond {A = ℕ} (not (s == t)) 1 0 ≡ 1
other_one s t n = one (s == t) refl
  where
    one : (b : Bool) → (s == t) ≡ b → cond {A = ℕ} (not b) 1 0 ≡ 1
    one true e = absurd (n (eqb-true s t e))
    one false e = refl

unstamped_all : (stamp : ℕ) (s : List ℕ) → ((v : ℕ) → slice_index s v < stamp) → unstamped stamp s ≡ length s
unstamped_all stamp [] h = refl
unstamped_all stamp (x ∷ s) h =
    let here = other_one x stamp (λ e. omega (arith, h 0)) in
    let rest = unstamped_all stamp s (λ v. h (suc v)) in
    omega (arith, here, rest, sum_by-cons (λ t. cond {A = ℕ} (not (t == stamp)) 1 0) x s)

unstamped_set : (stamp : ℕ) (s : List ℕ) (x : ℕ) → x < length s → slice_index s x ≢ stamp → unstamped stamp (slice_set s x stamp) + 1 ≡ unstamped stamp s
unstamped_set stamp s x lt n =
    let sum = sum_by-set (λ t. cond (not (t == stamp)) 1 0) s x stamp 0 lt in
    omega (arith, sum, stamped_one stamp, other_one (slice_index s x) stamp n)

-- one more leaf of a row

pub meets_none : (stamp : ℕ) (old before : List ℕ) → Meets [] stamp old before old before
meets_none stamp old before = record {
  more = [];
  added = sym (append-nil before);
  long = refl;
  fresh = λ v c. absurd (none_in v c);
  met = λ v c. absurd (none_in v c);
  stamped = λ v c. absurd (none_in v c);
  others = λ v. inl refl;
  once = λ j k less lt. absurd (omega arith);
  room = omega arith;
}

pub meets_met : (row : List ℕ) (stamp : ℕ) (old before new after : List ℕ) (x : ℕ) → Meets row stamp old before new after → slice_index new x ≡ stamp → Meets (row ++ x ∷ []) stamp old before new after
meets_met row stamp old before new after x h e = record {
  more = h.more;
  added = h.added;
  long = h.long;
  fresh = λ v c. let f = h.fresh v c in (Contains-append_left row (x ∷ []) v f.0, f.1, f.2);
  met = λ v c. ⊎_elim (λ o. h.met v o) (λ q. subst (λ y. slice_index new y ≡ stamp) q e) (Contains-push_cases row x v c);
  stamped = h.stamped;
  others = h.others;
  once = h.once;
  room = h.room;
}

module _ (row : List ℕ) (stamp : ℕ) (old before new after : List ℕ) (x : ℕ) (h : Meets row stamp old before new after) (lt : x < length new) (n : slice_index new x ≢ stamp) where
  not_yet : Contains h.more x → ⊥
  not_yet c = n (h.stamped x c)

  was_not : slice_index old x ≢ stamp
  was_not e = ⊎_elim (λ same. n (same ∙ e)) (λ c. not_yet c) (h.others x)

  still : (v : ℕ) → slice_index new v ≡ stamp → slice_index (slice_set new x stamp) v ≡ stamp
  still v e = ⊎_elim (λ q. set_here new x stamp v lt q) (λ d. set_there new x stamp v d ∙ e) (cases_eq v x)

  pub meets_new : Meets (row ++ x ∷ []) stamp old before (slice_set new x stamp) (after ++ x ∷ [])
  meets_new = record {
    more = h.more ++ x ∷ [];
    added = ap (λ s. s ++ x ∷ []) h.added ∙ append_assoc before h.more (x ∷ []);
    long = length-set new x stamp ∙ h.long;
    fresh = λ v c. ⊎_elim (λ o. let f = h.fresh v o in (Contains-append_left row (x ∷ []) v f.0, f.1, f.2))
        (λ q. (subst (Contains (row ++ x ∷ [])) q (Contains-push row x), subst (λ y. slice_index old y ≢ stamp) q was_not, omega (arith, q, h.long, lt))) (Contains-push_cases h.more x v c);
    met = λ v c. ⊎_elim (λ o. still v (h.met v o)) (λ q. set_here new x stamp v lt (sym q)) (Contains-push_cases row x v c);
    stamped = λ v c. ⊎_elim (λ o. still v (h.stamped v o)) (λ q. set_here new x stamp v lt (sym q)) (Contains-push_cases h.more x v c);
    others = λ v. ⊎_elim (λ q. inr (subst (Contains (h.more ++ x ∷ [])) (sym q) (Contains-push h.more x)))
        (λ d. ⊎_elim (λ same. inl (set_there new x stamp v d ∙ same)) (λ c. inr (Contains-append_left h.more (x ∷ []) v c)) (h.others v)) (cases_eq v x);
    once = once_push h.more x h.once not_yet;
    room = omega (arith, h.room, length_push h.more x, unstamped_set stamp new x lt n);
  }

-- a walk

pub walk_begins : (reads : List (List ℕ)) (roots : List ℕ) (stamp : ℕ) (old none stamps found : List ℕ) → ((v : ℕ) → slice_index old v < stamp) → none ≡ [] → Meets roots stamp old none stamps found
    → Walking reads roots stamp 0 old stamps found
walk_begins reads roots stamp old none stamps found early e m =
    let is : found ≡ m.more = m.added ∙ ap (λ s. s ++ m.more) e in
    let there = λ (v : ℕ) (c : Contains m.more v). subst (λ s. Contains s v) (sym is) c in
    let back = λ (v : ℕ) (q : slice_index stamps v ≡ stamp). ⊎_elim {C = Contains found v} (λ same. absurd (omega (arith, early v))) (λ c. there v c) (m.others v) in
    record {
      long = m.long;
      here = λ v c. let f = m.fresh v (subst (λ s. Contains s v) is c) in (m.stamped v (subst (λ s. Contains s v) is c), omega (arith, m.long, f.2), root f.0);
      back = back;
      others = λ v. ⊎_elim (λ same. inl same) (λ c. inr (there v c)) (m.others v);
      once = subst (λ s. (j k : ℕ) → j < k → k < length s → slice_index s j ≢ slice_index s k) (sym is) m.once;
      roots_met = λ v c. back v (m.met v c);
      closed = λ k less. absurd (omega arith);
      behind = omega arith;
      room = omega (arith, m.room, m.long, ap length is, unstamped_all stamp old early);
    }

module _ (reads : List (List ℕ)) (roots : List ℕ) (stamp place : ℕ) (old stamps found new after : List ℕ) (x : ℕ) (h : Walking reads roots stamp place old stamps found) (inside : place < length found)
    (is : x ≡ slice_index found place) (m : Meets (row_at reads x) stamp stamps found new after) where
  before_in : (v : ℕ) → Contains found v → Contains after v
  before_in v c = subst (λ s. Contains s v) (sym m.added) (Contains-append_left found m.more v c)

  more_in : (v : ℕ) → Contains m.more v → Contains after v
  more_in v c = subst (λ s. Contains s v) (sym m.added) (Contains-append_right found m.more v c)

  x_in : Contains found x
  x_in = stands found x place inside (sym is)

  back_to : (v : ℕ) → slice_index new v ≡ stamp → Contains after v
  back_to v e = ⊎_elim (λ same. before_in v (h.back v (sym same ∙ e))) (λ c. more_in v c) (m.others v)

  same_at : (k : ℕ) → k < length found → slice_index after k ≡ slice_index found k
  same_at k lt = ap (λ s. slice_index s k) m.added ∙ get_or_append_left found m.more 0 k lt

  longer : length after ≡ length found + length m.more
  longer = ap length m.added ∙ length-append found m.more

  pub walk_goes_on : Walking reads roots stamp (place + 1) old new after
  walk_goes_on = record {
    long = m.long ∙ h.long;
    here = λ v c. ⊎_elim
        (λ o. let f = h.here v o in (⊎_elim (λ same. same ∙ f.0) (λ n. m.stamped v n) (m.others v), omega (arith, m.long, f.1), f.2))
        (λ n. let f = m.fresh v n in (m.stamped v n, omega (arith, m.long, f.2), next (h.here x x_in).2 f.0)) (Contains-append_cases found m.more v (subst (λ s. Contains s v) m.added c));
    back = back_to;
    others = λ v. ⊎_elim (λ same. ⊎_elim (λ e. inl (same ∙ e)) (λ c. inr (before_in v c)) (h.others v)) (λ c. inr (more_in v c)) (m.others v);
    once = subst (λ s. (j k : ℕ) → j < k → k < length s → slice_index s j ≢ slice_index s k) (sym m.added)
        (pairs_append (λ a b. a ≢ b) found m.more h.once m.once (λ a b c d e. (m.fresh b d).1 (ap (λ y. slice_index stamps y) (sym e) ∙ (h.here a c).0)));
    roots_met = λ v c. before_in v (h.roots_met v c);
    closed = λ k less w c. ⊎_elim
        (λ earlier. before_in w (h.closed k earlier w (subst (λ y. Contains (row_at reads y) w) (same_at k (omega arith)) c)))
        (λ last. let e : k ≡ place = omega arith in
        back_to w (m.met w (subst (λ y. Contains (row_at reads y) w) (same_at k (omega arith) ∙ ap (λ y. slice_index found y) e ∙ sym is) c))) (cases_lt k place);
    behind = omega (arith, longer);
    room = omega (arith, longer, m.room, h.room, m.long);
  }

module _ (reads : List (List ℕ)) (roots : List ℕ) (stamp place : ℕ) (old stamps found : List ℕ) (h : Walking reads roots stamp place old stamps found) (done : length found ≤ place) where
  met_all : (x : ℕ) → Met reads roots x → Contains found x
  met_all x (root c) = h.roots_met x c
  met_all x (next {x = y} m c) =
      let at = stood found y (met_all y m) in
      h.closed at.0 (omega (arith, at.1)) x (subst (λ z. Contains (row_at reads z) x) (sym at.2) c)

  pub walk_ends : Walked reads roots stamp old stamps found
  walk_ends = record {
    listed = record { only = λ x c. (h.here x c).2; all = met_all; once = h.once };
    long = h.long;
    few = omega (arith, h.room, h.long);
    within = λ v c. omega (arith, (h.here v c).1, h.long);
    here = λ v c. (h.here v c).0;
    others = h.others;
  }

-- the first step of each walk, in the code's words

pub row_below : (reads : List (List ℕ)) (n x : ℕ) (row : List ℕ) → AreBelow n reads → x < length reads → row ≡ get_or reads x row → All (λ v. v < n) row
row_below reads n x row h lt e = subst (λ r. All (λ v. v < n) r) (sym e) (h x row lt)

pub row_is : (reads : List (List ℕ)) (x : ℕ) (row : List ℕ) → x < length reads → row ≡ get_or reads x row → row ≡ row_at reads x
row_is reads x row lt e = e ∙ get_or_default reads x row [] lt
