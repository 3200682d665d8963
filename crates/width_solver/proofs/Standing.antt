-- How things stand when a rule was looked at.
use Rattle.std.proofs.Common.{◌≡◌, ◌≢◌, ◌⊎◌, inl, inr, ⊎_elim, ℕ, zero, suc, ◌+◌, ◌-◌, ◌*◌, ◌<◌, ◌≤◌, min, Bool, true, false, List, [], ◌∷◌, ◌++◌, length, replicate, get_or, set, slice_get, Some, refl, ap, sym, ◌∙◌, arith, get_or-set_same, get_or-set_other}
use Rattle.std.specs.Prelude.{nat_eq}
use Rattle.std.specs.List.{All, Contains}
use Rattle.std.proofs.lemmas.Bool.{eqb-true, eqb-false}
use Rattle.std.proofs.lemmas.List.{length-set, length-replicate, get_or-replicate}
use Rattle.std.proofs.lemmas.List.Elements.{All-tail, All-append, All-contains_itself, All-weaker, Contains-append_left, Contains-append_right, Contains-append_cases, Contains-push}
use Rattle.std.proofs.lemmas.List.Sums.{sum_by-set, sum_by-cons}
use Rattle.std.proofs.lemmas.Option.{slice_get_within, slice_get-get_or, get_or_from_slice_get}
use Rattle.prim_ops.specs.declared.widths.Width.{Width}
use Rattle.prim_ops.specs.declared.widths.Width.TheVariants.{Bits}
use Rattle.width_rules.specs.declared.rule.Rule.{Rule}
use Rattle.width_rules.specs.Formulas.{level, width_under}
use Rattle.width_rules.specs.Solutions.{level_at, IsRule, IsWidth, IsAssignment, MeetsOne, Meets, AtOrBelow, IsLeast}
use Rattle.width_rules.proofs.Monotone.{level_small, width_is_width, width_grows}
use Rattle.width_solver.specs.Readers.{variables, readers_at, AreReaders}
use Rattle.width_solver.specs.Rounds.{total, Waits, Wakes, Stands, Rises}
use Rattle.width_solver.proofs.Noting.{Contains-nil, one_only, some_same}
use Rattle.width_solver.proofs.Variables.{same_width}
use Rattle.width_solver.proofs.Waking.{all_left, all_right, flag_set}

Contains-rest : {X : Type 0} (x : X) (xs : List X) (y : X) → Contains (x ∷ xs) y → y ≢ x → Contains xs y
Contains-rest x xs y c other = ⊎_elim (λ here. absurd (other (one_only x y here))) (λ there. there) (Contains-append_cases (x ∷ []) xs y c)

contains_or_not : (xs : List ℕ) (x : ℕ) → Contains xs x ⊎ (Contains xs x → ⊥)
contains_or_not [] x = inr (λ c. Contains-nil x c)
contains_or_not (y ∷ ys) x = by (contains_or_not ys x) (nat_eq x y) refl
  where
    by : Contains ys x ⊎ (Contains ys x → ⊥) → (same : Bool) → nat_eq x y ≡ same → Contains (y ∷ ys) x ⊎ (Contains (y ∷ ys) x → ⊥)
    by behind true e = inl (rw (eqb-true x y e) (Contains-append_left (y ∷ []) ys y (Contains-push [] y)))
    by behind false e = ⊎_elim (λ yes. inl (Contains-append_right (y ∷ []) ys x yes)) (λ no. inr (λ c. no (Contains-rest y ys x c (eqb-false x y e)))) behind

met_by : (rules : List Rule) (k : ℕ) (rule : Rule) (w : List Width) → slice_get rules k ≡ Some rule → Meets rules w → MeetsOne rule w
met_by rules k rule w is meets = rw (get_or_from_slice_get rules k rule rule is) at (meets k rule (slice_get_within rules k rule is))

false_true : false ≡ true → ⊥
false_true e = cc

pub readers_within : {rules : List Rule} {count n : ℕ} {readers : List (List ℕ)} → AreReaders rules count n readers → (x : ℕ) → All (λ k. k < length rules) (readers_at readers x)
readers_within {rules} {count} {n} {readers} noted x =
    All-weaker (Contains (readers_at readers x)) (λ k. k < length rules) (noted.within x) (readers_at readers x) (All-contains_itself (readers_at readers x))

module _ (rules : List Rule) (count number : ℕ) (rule : Rule) (rest next : List ℕ) (widths : List Width) (waits : List Bool)
    (is : slice_get rules number ≡ Some rule) (s : Stands rules count (number ∷ rest ++ next) widths waits) where
  within : number < length waits
  within = omega (arith, slice_get_within rules number rule is, s.counted)

  -- what waits behind the rule
  left_waits : (k : ℕ) → Waits (set waits number false) k → Contains (rest ++ next) k
  left_waits k w = ⊎_elim (λ here. absurd (false_true (sym here.1 ∙ w)))
      (λ there. Contains-rest number (rest ++ next) k (s.listed k (sym there.1 ∙ w)) there.0) (flag_set waits number false k within)

  -- the rule doesn't raise its variable
  pub stands_met : MeetsOne rule widths → Stands rules count (rest ++ next) widths (set waits number false)
  stands_met met = record {
    assignment = s.assignment;
    counted = length-set waits number false ∙ s.counted;
    within = All-tail (λ k. k < length rules) number (rest ++ next) s.within;
    met = λ k other found. ⊎_elim (λ here. inl (rw (some_same (sym found ∙ ap (slice_get rules) here.0 ∙ is)) met))
        (λ there. ⊎_elim (λ earlier. inl earlier) (λ w. inr (there.1 ∙ w)) (s.met k other found)) (flag_set waits number false k within);
    listed = left_waits;
    least = s.least;
  }

  -- the rule raises its variable
  module _ (fits : IsRule count rule) (less : level_at widths rule.target < level (width_under rule.formula widths)) where
    abbrev pub raised : List Width
    raised = set widths rule.target (width_under rule.formula widths)

    target_within : rule.target < length widths
    target_within = omega (arith, fits.target, s.assignment.counted)

    raised_same : get_or raised rule.target (Bits 0) ≡ width_under rule.formula widths
    raised_same = get_or-set_same widths rule.target (width_under rule.formula widths) (Bits 0) target_within

    raised_other : (k : ℕ) → k ≢ rule.target → get_or raised k (Bits 0) ≡ get_or widths k (Bits 0)
    raised_other k other = get_or-set_other widths rule.target k (width_under rule.formula widths) (Bits 0) other

    is_width : (k : ℕ) → IsWidth (get_or raised k (Bits 0))
    is_width k = by (nat_eq k rule.target) refl
      where
        by : (same : Bool) → nat_eq k rule.target ≡ same → IsWidth (get_or raised k (Bits 0))
        by true e = rw (eqb-true k rule.target e, raised_same) (width_is_width widths s.assignment.bounded rule.formula)
        by false e = rw (raised_other k (eqb-false k rule.target e)) (s.assignment.bounded k)

    raised_above : AtOrBelow widths raised
    raised_above k = by (nat_eq k rule.target) refl
      where
        by : (same : Bool) → nat_eq k rule.target ≡ same → level_at widths k ≤ level_at raised k
        by true e = rw (eqb-true k rule.target e, raised_same) (omega (arith, less))
        by false e = rw (raised_other k (eqb-false k rule.target e)) (omega arith)

    raised_least : (other : List Width) → IsAssignment count other → Meets rules other → AtOrBelow raised other
    raised_least other assigned meets k = by (nat_eq k rule.target) refl
      where
        by : (same : Bool) → nat_eq k rule.target ≡ same → level_at raised k ≤ level_at other k
        by true e = rw (eqb-true k rule.target e, raised_same)
            (omega (arith, width_grows widths other assigned.bounded (s.least other assigned meets) rule.formula, met_by rules number rule other is meets))
        by false e = rw (raised_other k (eqb-false k rule.target e)) (s.least other assigned meets k)

    -- a rule that doesn't read the variable
    unread_met : (k : ℕ) (other : Rule) → slice_get rules k ≡ Some other → (Contains (variables other.formula) rule.target → ⊥) → (k ≢ number → Waits waits k → Waits (set waits number false) k)
        → MeetsOne other raised ⊎ Waits (set waits number false) k
    unread_met k other found unread kept = by (nat_eq k number) refl
      where
        same : width_under other.formula raised ≡ width_under other.formula widths
        same = same_width raised widths other.formula (λ x c. raised_other x (λ e. unread (rw e at c)))

        by : (itself : Bool) → nat_eq k number ≡ itself → MeetsOne other raised ⊎ Waits (set waits number false) k
        by true e =
            let other_is : other ≡ rule = some_same (sym found ∙ ap (slice_get rules) (eqb-true k number e) ∙ is) in
            inl (rw (same, other_is, raised_same) (omega arith))
        by false e = ⊎_elim (λ met. inl (rw same (omega (arith, met, raised_above other.target)))) (λ w. inr (kept (eqb-false k number e) w)) (s.met k other found)

    still_waits : (k : ℕ) → k ≢ number → Waits waits k → Waits (set waits number false) k
    still_waits k other w = ⊎_elim (λ here. absurd (other here.0)) (λ there. there.1 ∙ w) (flag_set waits number false k within)

    -- the rules that read the variable were woken
    pub stands_raised : (readers : List (List ℕ)) (waits' : List Bool) (next' : List ℕ) → AreReaders rules count (length rules) readers
        → Wakes (readers_at readers rule.target) (set waits number false) next waits' next' → Stands rules count (rest ++ next') raised waits'
    stands_raised readers waits' next' noted woken = record {
      assignment = record { counted = length-set widths rule.target (width_under rule.formula widths) ∙ s.assignment.counted; bounded = is_width };
      counted = woken.counted ∙ length-set waits number false ∙ s.counted;
      within = All-append (λ k. k < length rules) rest next' (all_left (λ k. k < length rules) rest next behind)
          (woken.within (length rules) (readers_within noted rule.target) (all_right (λ k. k < length rules) rest next behind));
      met = λ k other found. ⊎_elim (λ reads. inr (woken.woken k (noted.noted k other (slice_get_within rules k other found) found rule.target reads)))
          (λ unread. ⊎_elim (λ met. inl met) (λ w. inr (woken.kept k w)) (unread_met k other found unread (still_waits k)))
          (contains_or_not (variables other.formula) rule.target);
      listed = λ k w. ⊎_elim
          (λ waited. ⊎_elim (λ first. Contains-append_left rest next' k first) (λ known. Contains-append_right rest next' k (woken.more k known)) (Contains-append_cases rest next k (left_waits k waited)))
          (λ known. Contains-append_right rest next' k known) (woken.listed k w);
      least = raised_least;
    }
      where
        behind : All (λ k. k < length rules) (rest ++ next)
        behind = All-tail (λ k. k < length rules) number (rest ++ next) s.within

-- The widths rise.

pub rises_none : (widths : List Width) → Rises widths widths []
rises_none widths = record { grows = omega arith; more = inl refl }

pub rises_raised : (before widths : List Width) (next next' : List ℕ) (target : ℕ) (w : Width) → target < length widths → level_at widths target < level w → Rises before widths next
    → Rises before (set widths target w) next'
rises_raised before widths next next' target w lt less r =
    let sums = sum_by-set level widths target w (Bits 0) lt in
    record { grows = omega (arith, r.grows, sums, less); more = inr (omega (arith, r.grows, sums, less)) }

total_small : (widths : List Width) → ((k : ℕ) → IsWidth (get_or widths k (Bits 0))) → total widths ≤ 129 * length widths
total_small [] h = omega arith
total_small (w ∷ ws) h = omega (arith, sum_by-cons level w ws, level_small w (h 0), total_small ws (λ k. h (suc k)))

-- the measure of the rounds falls
pub falls : (count : ℕ) (old new : List Width) (pending next : List ℕ) → IsAssignment count new → 0 < length pending → Rises old new next
    → 2 * (129 * count - total new) + min 1 (length next) < 2 * (129 * count - total old) + min 1 (length pending)
falls count old new pending next assigned some r =
    ⊎_elim (λ none. rw none (omega (arith, r.grows, some)))
    (λ more. omega (arith, more, some, total_small new assigned.bounded, assigned.counted)) r.more

-- The rounds begin and end.

level_of_none : (count k : ℕ) → get_or (replicate count (Bits 0)) k (Bits 0) ≡ Bits 0
level_of_none zero k = refl
level_of_none (suc count) zero = refl
level_of_none (suc count) (suc k) = level_of_none count k

waiting_within : (n k : ℕ) → get_or (replicate n true) k false ≡ true → k < n
waiting_within zero k e = absurd (false_true e)
waiting_within (suc n) zero e = omega arith
waiting_within (suc n) (suc k) e = omega (arith, waiting_within n k e)

pub stands_first : (rules : List Rule) (count : ℕ) (pending : List ℕ) → All (λ k. k < length rules) pending → ((k : ℕ) → k < length rules → Contains pending k)
    → Stands rules count pending (replicate count (Bits 0)) (replicate (length rules) true)
stands_first rules count pending within all = record {
  assignment = record { counted = length-replicate count (Bits 0); bounded = λ k. rw (level_of_none count k) (omega arith) };
  counted = length-replicate (length rules) true;
  within = within;
  met = λ k rule found. inr (get_or-replicate (length rules) k true false (slice_get_within rules k rule found));
  listed = λ k w. all k (waiting_within (length rules) k w);
  least = λ other assigned meets k. rw (level_of_none count k) (omega arith);
}

pub stands_last : (rules : List Rule) (count : ℕ) (pending : List ℕ) (widths : List Width) (waits : List Bool) → pending ≡ [] → Stands rules count pending widths waits
    → IsLeast rules count widths
stands_last rules count pending widths waits none s = record {
  assignment = s.assignment;
  meets = λ k d lt. ⊎_elim (λ met. met) (λ w. absurd (Contains-nil k (rw none at (s.listed k w)))) (s.met k (get_or rules k d) (slice_get-get_or rules k d lt));
  least = s.least;
}

pub all_below : (numbers : List ℕ) (n : ℕ) → ((k : ℕ) → k < n → Contains numbers k) → (k : ℕ) → k < n + 1 → Contains (numbers ++ n ∷ []) k
all_below numbers n all k below = by (nat_eq k n) refl
  where
    by : (same : Bool) → nat_eq k n ≡ same → Contains (numbers ++ n ∷ []) k
    by true e = rw (eqb-true k n e) (Contains-push numbers n)
    by false e = Contains-append_left numbers (n ∷ []) k (all k (omega (arith, below, eqb-false k n e)))
