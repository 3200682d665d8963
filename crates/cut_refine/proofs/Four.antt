-- The four registers are refined by one move.
use Rattle.std.proofs.Common.{◌≡◌, ◌≢◌, ℕ, zero, suc, ◌<◌, ◌≤◌, Bool, true, false, cond, eqb, List, [], ◌∷◌, Some, None, refl, sym, ap, ◌∙◌, subst, arith, slice_get, ◌⊎◌, inl, inr}
use Rattle.std.specs.Prelude.{slice_index, slice_set}
use Rattle.std.proofs.lemmas.Bool.{eqb-true, false≢true}
use Rattle.std.proofs.lemmas.Option.{same_Some}
use Rattle.cone_cutter.specs.Cuts.{NeededBy}
use Rattle.cone_cutter.specs.Rows.{places_of}
use Rattle.cone_cutter.proofs.Lists.{to_range, range_rises}
use Rattle.cut_refine.specs.declared.refined.Move.{Move}
use Rattle.cut_refine.specs.Refining.{HasCost, IsGreatest, IsMove, GoesBefore, Refines, ended, improved, moved}
use Rattle.cut_refine.specs.Costs.{SinkRow, cost, AreRowsOf}
use Rattle.cut_refine.specs.Examples.{among, nodes, x_cone, y_cone, z_cone, w_cone, four, cone_list, four_cones}
use Rattle.cut_refine.proofs.Bridge.{cost_is}
use Rattle.cut_refine.proofs.Unique.{counts_one}

none_some : {A B : Type 0} {x : A} → None ≡ Some x → B
none_some e = absurd cc

abbrev AllPass : (ℕ → Type 0) → List ℕ → Type 0
AllPass P [] = Unit {0}
AllPass P (y ∷ ys) = P y × AllPass P ys

passes : (P : ℕ → Type 0) (xs : List ℕ) (x : ℕ) → AllPass P xs → among xs x ≡ true → P x
passes P [] x h e = absurd (false≢true e)
passes P (y ∷ ys) x h e = by (passes P ys x h.1) (eqb y x) refl e where
  by : (among ys x ≡ true → P x) → (b : Bool) → eqb y x ≡ b → cond b true (among ys x) ≡ true → P x
  by on true f g = subst P (eqb-true y x f) h.0
  by on false f g = on g

in_nodes : (k x : ℕ) → four_cones k x → x < 8
in_nodes zero x h = passes (λ y. y < 8) x_cone x (omega arith, (omega arith, (omega arith, (omega arith, tt)))) h
in_nodes (suc zero) x h = passes (λ y. y < 8) y_cone x (omega arith, (omega arith, (omega arith, tt))) h
in_nodes (suc (suc zero)) x h = passes (λ y. y < 8) z_cone x (omega arith, (omega arith, (omega arith, tt))) h
in_nodes (suc (suc (suc zero))) x h = passes (λ y. y < 8) w_cone x (omega arith, (omega arith, (omega arith, tt))) h
in_nodes (suc (suc (suc (suc k)))) x h = absurd (false≢true h)

module _ (a b c d : ℕ) where
  owned : (k : ℕ) (r : SinkRow) → slice_get (four a b c d) k ≡ Some r → slice_index (a ∷ b ∷ c ∷ d ∷ []) k ≡ r.0
  owned zero r e = ap (λ (z : SinkRow). z.0) (same_Some (a, among x_cone) r e)
  owned (suc zero) r e = ap (λ (z : SinkRow). z.0) (same_Some (b, among y_cone) r e)
  owned (suc (suc zero)) r e = ap (λ (z : SinkRow). z.0) (same_Some (c, among z_cone) r e)
  owned (suc (suc (suc zero))) r e = ap (λ (z : SinkRow). z.0) (same_Some (d, among w_cone) r e)
  owned (suc (suc (suc (suc k)))) r e = none_some e

  tested : (k x : ℕ) (r : SinkRow) → slice_get (four a b c d) k ≡ Some r → among (cone_list k) x ≡ r.1 x
  tested zero x r e = ap (λ (z : SinkRow). z.1 x) (same_Some (a, among x_cone) r e)
  tested (suc zero) x r e = ap (λ (z : SinkRow). z.1 x) (same_Some (b, among y_cone) r e)
  tested (suc (suc zero)) x r e = ap (λ (z : SinkRow). z.1 x) (same_Some (c, among z_cone) r e)
  tested (suc (suc (suc zero))) x r e = ap (λ (z : SinkRow). z.1 x) (same_Some (d, among w_cone) r e)
  tested (suc (suc (suc (suc k)))) x r e = none_some e

  rows_of : AreRowsOf four_cones (a ∷ b ∷ c ∷ d ∷ []) nodes (four a b c d)
  rows_of = record {
    long = refl;
    owned = owned;
    to_cone = λ k x r e t. tested k x r e ∙ t;
    from_cone = λ k x r e h. sym (tested k x r e) ∙ h;
    listed = λ k x h. to_range 8 x (in_nodes k x h);
    once = λ j k less lt e. let rises = range_rises 8 j k less lt in omega (arith, rises, e);
  }

  has : (p : ℕ) → HasCost four_cones (a ∷ b ∷ c ∷ d ∷ []) p (cost p nodes (four a b c d))
  has p = cost_is four_cones (a ∷ b ∷ c ∷ d ∷ []) nodes (four a b c d) rows_of p

  is : (p n : ℕ) → HasCost four_cones (a ∷ b ∷ c ∷ d ∷ []) p n → n ≡ cost p nodes (four a b c d)
  is p n h = counts_one (NeededBy four_cones (places_of (a ∷ b ∷ c ∷ d ∷ []) p)) n (cost p nodes (four a b c d)) h (has p)

  most : (m n g : ℕ) → cost 0 nodes (four a b c d) ≡ m → cost 1 nodes (four a b c d) ≡ n → m ≤ g → n ≤ g → (p : ℕ) → p < 2 → cost p nodes (four a b c d) ≡ g → IsGreatest four_cones 2 (a ∷ b ∷ c ∷ d ∷ []) g
  most m n g e f less fewer p lt full = record {
    most = λ q k small h. at q k small (is q k h);
    part = p;
    within = lt;
    reached = subst (HasCost four_cones (a ∷ b ∷ c ∷ d ∷ []) p) full (has p);
  } where
    at : (q k : ℕ) → q < 2 → k ≡ cost q nodes (four a b c d) → k ≤ g
    at zero k small s = let r : k ≡ m = s ∙ e in omega (arith, r, less)
    at (suc zero) k small s = let r : k ≡ n = s ∙ f in omega (arith, r, fewer)
    at (suc (suc q)) k small s = absurd (omega (arith, small))

  least : (g p m : ℕ) → IsGreatest four_cones 2 (a ∷ b ∷ c ∷ d ∷ []) g → p < 2 → cost p nodes (four a b c d) ≡ m → m ≤ g
  least g p m all lt e = subst (λ k. k ≤ g) e (all.most p (cost p nodes (four a b c d)) lt (has p))

-- the greatest cost behind a move
then : (os : List ℕ) (move : Move) (s t : ℕ) → IsGreatest four_cones 2 (moved os move) move.greatest → move.sink ≡ s → move.target ≡ t → IsGreatest four_cones 2 (slice_set os s t) move.greatest
then os move s t all e f = subst (λ k. IsGreatest four_cones 2 (slice_set os s k) move.greatest) f (subst (λ k. IsGreatest four_cones 2 (slice_set os k move.target) move.greatest) e all)

from_start : (move : Move) → IsMove four_cones 2 (0 ∷ 1 ∷ 0 ∷ 0 ∷ []) move → (5 < move.greatest) ⊎ ((5 ≤ move.greatest) × (move.sink ≡ 2) × (move.target ≡ 1))
from_start move h = by move.sink move.target refl refl h.sink h.target h.other where
  by : (s t : ℕ) → move.sink ≡ s → move.target ≡ t → s < 4 → t < 2 → slice_index (0 ∷ 1 ∷ 0 ∷ 0 ∷ []) s ≢ t → (5 < move.greatest) ⊎ ((5 ≤ move.greatest) × (move.sink ≡ 2) × (move.target ≡ 1))
  by zero zero e f less lt other = absurd (other refl)
  by zero (suc zero) e f less lt other = let k : 7 ≤ move.greatest = least 1 1 0 0 move.greatest 1 7 (then (0 ∷ 1 ∷ 0 ∷ 0 ∷ []) move 0 1 h.greatest e f) (omega arith) refl in inl (omega (arith, k))
  by zero (suc (suc t)) e f less lt other = absurd (omega (arith, lt))
  by (suc (zero)) zero e f less lt other = let k : 8 ≤ move.greatest = least 0 0 0 0 move.greatest 0 8 (then (0 ∷ 1 ∷ 0 ∷ 0 ∷ []) move 1 0 h.greatest e f) (omega arith) refl in inl (omega (arith, k))
  by (suc (zero)) (suc zero) e f less lt other = absurd (other refl)
  by (suc (zero)) (suc (suc t)) e f less lt other = absurd (omega (arith, lt))
  by (suc (suc (zero))) zero e f less lt other = absurd (other refl)
  by (suc (suc (zero))) (suc zero) e f less lt other = let k : 5 ≤ move.greatest = least 0 1 1 0 move.greatest 0 5 (then (0 ∷ 1 ∷ 0 ∷ 0 ∷ []) move 2 1 h.greatest e f) (omega arith) refl in inr (omega (arith, k), e, f)
  by (suc (suc (zero))) (suc (suc t)) e f less lt other = absurd (omega (arith, lt))
  by (suc (suc (suc (zero)))) zero e f less lt other = absurd (other refl)
  by (suc (suc (suc (zero)))) (suc zero) e f less lt other = let k : 6 ≤ move.greatest = least 0 1 0 1 move.greatest 1 6 (then (0 ∷ 1 ∷ 0 ∷ 0 ∷ []) move 3 1 h.greatest e f) (omega arith) refl in inl (omega (arith, k))
  by (suc (suc (suc (zero)))) (suc (suc t)) e f less lt other = absurd (omega (arith, lt))
  by (suc (suc (suc (suc s)))) t e f less lt other = absurd (omega (arith, less))

from_end : (move : Move) → IsMove four_cones 2 (0 ∷ 1 ∷ 1 ∷ 0 ∷ []) move → 5 ≤ move.greatest
from_end move h = by move.sink move.target refl refl h.sink h.target h.other where
  by : (s t : ℕ) → move.sink ≡ s → move.target ≡ t → s < 4 → t < 2 → slice_index (0 ∷ 1 ∷ 1 ∷ 0 ∷ []) s ≢ t → 5 ≤ move.greatest
  by zero zero e f less lt other = absurd (other refl)
  by zero (suc zero) e f less lt other = let k : 7 ≤ move.greatest = least 1 1 1 0 move.greatest 1 7 (then (0 ∷ 1 ∷ 1 ∷ 0 ∷ []) move 0 1 h.greatest e f) (omega arith) refl in omega (arith, k)
  by zero (suc (suc t)) e f less lt other = absurd (omega (arith, lt))
  by (suc (zero)) zero e f less lt other = let k : 8 ≤ move.greatest = least 0 0 1 0 move.greatest 0 8 (then (0 ∷ 1 ∷ 1 ∷ 0 ∷ []) move 1 0 h.greatest e f) (omega arith) refl in omega (arith, k)
  by (suc (zero)) (suc zero) e f less lt other = absurd (other refl)
  by (suc (zero)) (suc (suc t)) e f less lt other = absurd (omega (arith, lt))
  by (suc (suc (zero))) zero e f less lt other = let k : 6 ≤ move.greatest = least 0 1 0 0 move.greatest 0 6 (then (0 ∷ 1 ∷ 1 ∷ 0 ∷ []) move 2 0 h.greatest e f) (omega arith) refl in omega (arith, k)
  by (suc (suc (zero))) (suc zero) e f less lt other = absurd (other refl)
  by (suc (suc (zero))) (suc (suc t)) e f less lt other = absurd (omega (arith, lt))
  by (suc (suc (suc (zero)))) zero e f less lt other = absurd (other refl)
  by (suc (suc (suc (zero)))) (suc zero) e f less lt other = let k : 6 ≤ move.greatest = least 0 1 1 1 move.greatest 1 6 (then (0 ∷ 1 ∷ 1 ∷ 0 ∷ []) move 3 1 h.greatest e f) (omega arith) refl in omega (arith, k)
  by (suc (suc (suc (zero)))) (suc (suc t)) e f less lt other = absurd (omega (arith, lt))
  by (suc (suc (suc (suc s)))) t e f less lt other = absurd (omega (arith, less))

abbrev best : Move
best = record { sink = 2; target = 1; greatest = 5 }

not_before : (move : Move) → (5 < move.greatest) ⊎ ((5 ≤ move.greatest) × (move.sink ≡ 2) × (move.target ≡ 1)) → GoesBefore move best → ⊥
not_before move (inl more) (inl less) = omega (arith, more, less)
not_before move (inl more) (inr same) = let e = same.0 in omega (arith, more, e)
not_before move (inr here) (inl less) = let k = here.0 in omega (arith, k, less)
not_before move (inr here) (inr (e, inl lower)) = let s = here.1 in omega (arith, s, lower)
not_before move (inr here) (inr (e, inr lower)) = let t = here.2 in let k = lower.1 in omega (arith, t, k)

pub four_refined : Refines four_cones 2 (0 ∷ 1 ∷ 0 ∷ 0 ∷ []) (0 ∷ 1 ∷ 1 ∷ 0 ∷ []) 5
four_refined = improved 6 5 best (most 0 1 0 0 6 3 6 refl refl (omega arith) (omega arith) 0 (omega arith) refl)
    (record {
      is_move = record { sink = omega arith; target = omega arith; other = λ e. omega (arith, e); greatest = most 0 1 1 0 5 5 5 refl refl (omega arith) (omega arith) 0 (omega arith) refl };
      lowers = omega arith;
      first = λ move h. not_before move (from_start move h);
    })
    (ended 5 (most 0 1 1 0 5 5 5 refl refl (omega arith) (omega arith) 0 (omega arith) refl) from_end)
