-- The costs behind a move of a sink of one part, what the parts hold then, and the row of the sink.
use Rattle.std.proofs.Common.{◌≡◌, ◌≢◌, ℕ, ◌<◌, ◌≤◌, IsTrue, List, length, slice_index, slice_set, sym, subst, ap, ◌∙◌, arith, ◌⊎◌, ⊎_elim, inl, inr}
use Rattle.std.specs.Prelude.{◌↔◌, max}
use Rattle.std.specs.List.{Contains}
use Rattle.std.proofs.Math.Nat.{le-max_left, le-max_right, max-eq_left, max-eq_right}
use Rattle.std.proofs.lemmas.Bool.{cases_eq, cases_lt}
use Rattle.std.proofs.lemmas.List.{length-set}
use Rattle.cone_cutter.specs.Cuts.{Lists, NeededBy}
use Rattle.cone_cutter.specs.Rows.{places_of}
use Rattle.cone_cutter.specs.Loads.{holds, cost_with, Gets}
use Rattle.cone_cutter.proofs.Lists.{set_here, set_there}
use Rattle.cut_refine.specs.declared.refined.Move.{Move}
use Rattle.cut_refine.specs.declared.targets.Target.{Target}
use Rattle.cut_refine.specs.Refining.{HasCost, IsGreatest, IsMove, GoesBefore, IsRow, moved}
use Rattle.cut_refine.specs.Standing.{AreCounts, Loses, IsStanding, IsMostBut, IsTarget, cost_without}
use Rattle.cut_refine.proofs.Unique.{counts_one}
use Rattle.cut_refine.proofs.Moving.{aside_to, aside_from, aside_cost, into_old, into_new, into_from, into_cost, out_cost, out_held}

pub cases_max : (a b : ℕ) → (max a b ≡ a) ⊎ (max a b ≡ b)
cases_max a b = ⊎_elim (λ lt. inr (max-eq_right (omega (arith, lt)))) (λ ge. inl (max-eq_left ge)) (cases_lt a b)

pub greatest_one : (cone : ℕ → ℕ → Type 0) (workers : ℕ) (owners : List ℕ) (a b : ℕ) → IsGreatest cone workers owners a → IsGreatest cone workers owners b → a ≡ b
greatest_one cone workers owners a b g h =
    let less = h.most g.part a g.within g.reached in
    let more = g.most h.part b h.within h.reached in
    omega (arith, less, more)

-- the same move, by its numbers
pub by_numbers : (cone : ℕ → ℕ → Type 0) (workers : ℕ) (owners : List ℕ) (move : Move) (s t g : ℕ) → move.sink ≡ s → move.target ≡ t → move.greatest ≡ g → IsGreatest cone workers (slice_set owners s t) g
    → IsGreatest cone workers (moved owners move) move.greatest
by_numbers cone workers owners move s t g e f is h =
    subst (λ k. IsGreatest cone workers (slice_set owners k move.target) move.greatest) (sym e)
    (subst (λ k. IsGreatest cone workers (slice_set owners s k) move.greatest) (sym f)
    (subst (λ k. IsGreatest cone workers (slice_set owners s t) k) (sym is) h))

module _ (cone : ℕ → ℕ → Type 0) (leaves workers : ℕ) (owners masks costs : List ℕ) (h : IsStanding cone leaves workers owners masks costs)
    (s p : ℕ) (inside : s < length owners) (own : slice_index owners s ≡ p) (found counts : List ℕ) (listed : Lists (cone s) found) (below : (x : ℕ) → Contains found x → x < leaves)
    (are : AreCounts cone leaves (places_of owners p) counts) where
  part_within : p < workers
  part_within = omega (arith, h.within s inside, own)

  module _ (t : ℕ) (lt : t < workers) (other : t ≢ p) where
    pub without_cost : HasCost cone (slice_set owners s t) p (cost_without costs found counts p)
    without_cost = out_cost cone owners s t inside p leaves own other found counts listed below are (slice_index costs p) (h.counts p part_within)

    pub with_cost : HasCost cone (slice_set owners s t) t (cost_with masks costs found t)
    with_cost = into_cost cone owners s t inside masks found (slice_index costs t) leaves listed below (λ x lx. h.held t x lt lx) (h.counts t lt)

    pub other_cost : (q : ℕ) → q < workers → q ≢ p → q ≢ t → HasCost cone (slice_set owners s t) q (slice_index costs q)
    other_cost q lq n m = aside_cost cone owners s t inside q (slice_index costs q) (λ e. n (sym e ∙ own)) (λ e. m (sym e)) (h.counts q lq)

    one_cost : (q n m : ℕ) → HasCost cone (slice_set owners s t) q n → HasCost cone (slice_set owners s t) q m → n ≡ m
    one_cost q n m a b = counts_one (NeededBy cone (places_of (slice_set owners s t) q)) n m a b

    module _ (far : ℕ) (but : IsMostBut costs p far) where
      all : ℕ
      all = max (max (cost_without costs found counts p) (slice_index costs far)) (cost_with masks costs found t)

      without_fits : cost_without costs found counts p ≤ all
      unfolding all
      without_fits =
          let a = le-max_left (cost_without costs found counts p) (slice_index costs far) in
          let b = le-max_left (max (cost_without costs found counts p) (slice_index costs far)) (cost_with masks costs found t) in
          omega (arith, a, b)

      most_fits : slice_index costs far ≤ all
      unfolding all
      most_fits =
          let a = le-max_right (cost_without costs found counts p) (slice_index costs far) in
          let b = le-max_left (max (cost_without costs found counts p) (slice_index costs far)) (cost_with masks costs found t) in
          omega (arith, a, b)

      with_fits : cost_with masks costs found t ≤ all
      unfolding all
      with_fits = le-max_right (max (cost_without costs found counts p) (slice_index costs far)) (cost_with masks costs found t)

      with_more : slice_index costs t ≤ cost_with masks costs found t
      with_more = omega arith

      fits : (q n : ℕ) → q < workers → HasCost cone (slice_set owners s t) q n → n ≤ all
      fits q n lq c = ⊎_elim
          (λ e. let same = one_cost t n (cost_with masks costs found t) (subst (λ k. HasCost cone (slice_set owners s t) k n) e c) with_cost in omega (arith, same, with_fits))
          (λ away. ⊎_elim
          (λ e. let same = one_cost p n (cost_without costs found counts p) (subst (λ k. HasCost cone (slice_set owners s t) k n) e c) without_cost in omega (arith, same, without_fits))
          (λ apart. let same = one_cost q n (slice_index costs q) c (other_cost q lq apart away) in
          let fit = but.fits q (omega (arith, lq, h.costs_long)) apart in
          omega (arith, same, fit, most_fits))
          (cases_eq q p))
          (cases_eq q t)

      abbrev Reached : Type 0
      Reached = (q : ℕ) × (q < workers) × HasCost cone (slice_set owners s t) q all

      reached_at : (q n : ℕ) → q < workers → all ≡ n → HasCost cone (slice_set owners s t) q n → Reached
      reached_at q n lq e c = (q, lq, subst (HasCost cone (slice_set owners s t) q) (sym e) c)

      at_target : all ≤ cost_with masks costs found t → Reached
      at_target le = let fit = with_fits in reached_at t (cost_with masks costs found t) lt (omega (arith, le, fit)) with_cost

      at_most : all ≡ slice_index costs far → Reached
      at_most e = ⊎_elim
          (λ same. let c : slice_index costs t ≡ slice_index costs far = ap (slice_index costs) (sym same) in at_target (omega (arith, e, with_more, c)))
          (λ away. reached_at far (slice_index costs far) (omega (arith, but.within, h.costs_long)) e (other_cost far (omega (arith, but.within, h.costs_long)) but.apart away))
          (cases_eq far t)

      is_reached : Reached
      unfolding all
      is_reached = ⊎_elim
          (λ l. ⊎_elim
          (λ w. reached_at p (cost_without costs found counts p) part_within (l ∙ w) without_cost)
          (λ m. at_most (l ∙ m))
          (cases_max (cost_without costs found counts p) (slice_index costs far)))
          (λ r. reached_at t (cost_with masks costs found t) lt r with_cost)
          (cases_max (max (cost_without costs found counts p) (slice_index costs far)) (cost_with masks costs found t))

      pub greatest_behind : IsGreatest cone workers (slice_set owners s t) (max (max (cost_without costs found counts p) (slice_index costs far)) (cost_with masks costs found t))
      unfolding all
      greatest_behind = record { most = fits; part = is_reached.0; within = is_reached.1; reached = is_reached.2 }

    -- what the parts hold then

    module _ (mid new : List ℕ) (loses : Loses p found counts masks mid) (gets : Gets t found mid new) (few : workers ≤ 64) where
      abbrev Holds : ℕ → ℕ → Type 0
      Holds q x = IsTrue (holds new q x) ↔ NeededBy cone (places_of (slice_set owners s t) q) x

      held_target : (x : ℕ) → x < leaves → Holds t x
      held_target x lx = (to, from)
        where
          was : holds mid t x ≡ holds masks t x
          was = loses.others t x (omega (arith, lt, few)) other

          to : IsTrue (holds new t x) → NeededBy cone (places_of (slice_set owners s t) t) x
          to e = ⊎_elim
              (λ c. into_new cone owners s t inside x (listed.only x c))
              (λ o. into_old cone owners s t inside x ((h.held t x lt lx).0 (sym was ∙ o)))
              (gets.only x e)

          from : NeededBy cone (places_of (slice_set owners s t) t) x → IsTrue (holds new t x)
          from m = ⊎_elim
              (λ o. gets.kept x (was ∙ (h.held t x lt lx).1 o))
              (λ i. gets.got x (listed.all x i))
              (into_from cone owners s t inside x m)

      held_part : (x : ℕ) → x < leaves → Holds p x
      held_part x lx =
          let both = out_held cone owners s t inside p leaves own other found counts listed below are masks mid loses x (h.held p x part_within lx) in
          let same = gets.others p x (λ e. other (sym e)) in
          (λ e. both.0 (sym same ∙ e), λ m. same ∙ both.1 m)

      held_other : (q x : ℕ) → q < workers → x < leaves → q ≢ p → q ≢ t → Holds q x
      held_other q x lq lx n m =
          let same = gets.others q x m ∙ loses.others q x (omega (arith, lq, few)) n in
          let both = h.held q x lq lx in
          (λ e. aside_to cone owners s t inside q (λ f. n (sym f ∙ own)) x (both.0 (sym same ∙ e)), λ a. same ∙ both.1 (aside_from cone owners s t inside q (λ f. m (sym f)) x a))

      held_now : (q x : ℕ) → q < workers → x < leaves → Holds q x
      held_now q x lq lx = ⊎_elim
          (λ e. subst (λ k. Holds k x) (sym e) (held_target x lx))
          (λ m. ⊎_elim (λ e. subst (λ k. Holds k x) (sym e) (held_part x lx)) (λ n. held_other q x lq lx n m) (cases_eq q p))
          (cases_eq q t)

      pub stands_behind : (now : List ℕ) → now ≡ slice_set (slice_set costs p (cost_without costs found counts p)) t (cost_with masks costs found t)
          → IsStanding cone leaves workers (slice_set owners s t) new now
      stands_behind now e = record {
        masks_long = gets.long ∙ (loses.long ∙ h.masks_long);
        costs_long = long;
        within = λ k lk. ⊎_elim
            (λ q. omega (arith, set_here owners s t k inside q, lt))
            (λ n. omega (arith, set_there owners s t k n, h.within k (omega (arith, lk, length-set owners s t))))
            (cases_eq k s);
        held = held_now;
        counts = counted;
      }
        where
          first : List ℕ
          first = slice_set costs p (cost_without costs found counts p)

          long : length now ≡ workers
          long = ap length e ∙ (length-set (slice_set costs p (cost_without costs found counts p)) t (cost_with masks costs found t) ∙ (length-set costs p (cost_without costs found counts p) ∙ h.costs_long))

          at : (q : ℕ) → slice_index now q ≡ slice_index (slice_set (slice_set costs p (cost_without costs found counts p)) t (cost_with masks costs found t)) q
          at q = ap (λ l. slice_index l q) e

          counted : (q : ℕ) → q < workers → HasCost cone (slice_set owners s t) q (slice_index now q)
          counted q lq = ⊎_elim
              (λ f. let is = at q ∙ set_here (slice_set costs p (cost_without costs found counts p)) t (cost_with masks costs found t) q (omega (arith, lt, h.costs_long, length-set costs p (cost_without costs found counts p))) f in
              subst (HasCost cone (slice_set owners s t) q) (sym is) (subst (λ k. HasCost cone (slice_set owners s t) k (cost_with masks costs found t)) (sym f) with_cost))
              (λ m. let past = at q ∙ set_there (slice_set costs p (cost_without costs found counts p)) t (cost_with masks costs found t) q m in
              ⊎_elim
              (λ f. let is = past ∙ set_here costs p (cost_without costs found counts p) q (omega (arith, part_within, h.costs_long)) f in
              subst (HasCost cone (slice_set owners s t) q) (sym is) (subst (λ k. HasCost cone (slice_set owners s t) k (cost_without costs found counts p)) (sym f) without_cost))
              (λ n. let is = past ∙ set_there costs p (cost_without costs found counts p) q n in
              subst (HasCost cone (slice_set owners s t) q) (sym is) (other_cost q lq n m))
              (cases_eq q p))
              (cases_eq q t)

  -- the row of the sink
  pub row_is : (far : ℕ) (but : IsMostBut costs p far) (target : Target) → IsTarget (λ q. max (max (cost_without costs found counts p) (slice_index costs far)) (cost_with masks costs found q)) workers p target
      → (move : Move) → move.sink ≡ s → move.target ≡ target.part → move.greatest ≡ target.greatest → IsRow cone workers owners s move
  row_is far but target is move es et eg = record {
    of_sink = es;
    is_move = record {
      sink = omega (arith, es, inside);
      target = omega (arith, et, is.within);
      other = λ e. is.other (sym et ∙ (sym e ∙ (ap (slice_index owners) es ∙ own)));
      greatest = by_numbers cone workers owners move s target.part _ es et (eg ∙ sym is.is) (greatest_behind target.part is.within is.other far but);
    };
    first = first;
  }
    where
      first : (o : Move) → IsMove cone workers owners o → o.sink ≡ s → GoesBefore o move → ⊥
      first o om eo before =
          let away : o.target ≢ p = (λ e. om.other (ap (slice_index owners) eo ∙ (own ∙ sym e))) in
          let there = subst (λ k. IsGreatest cone workers (slice_set owners k o.target) o.greatest) eo om.greatest in
          let same = greatest_one cone workers (slice_set owners s o.target) o.greatest _ there (greatest_behind o.target om.target away far but) in
          let low = is.least o.target om.target away in
          ⊎_elim
          (λ less. omega (arith, less, same, low, eg))
          (λ tie. ⊎_elim
          (λ sink. omega (arith, sink, eo, es))
          (λ target_low. let lower = is.lowest o.target (omega (arith, target_low.1, et)) away in let tied = tie.0 in omega (arith, lower, same, tied, eg))
          tie.1)
          before
