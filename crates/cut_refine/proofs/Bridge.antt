-- The cost of a part by counts is its cost.
use Rattle.std.proofs.Common.{◌≡◌, ◌≢◌, ℕ, zero, suc, ◌+◌, ◌<◌, Bool, true, false, ◌&&◌, cond, eqb, ltb, List, [], ◌∷◌, length, filter, get_or, Some, None, refl, sym, ap, ◌∙◌, subst, arith, slice_get}
use Rattle.std.specs.Prelude.{slice_index}
use Rattle.std.specs.List.{range_with_len}
use Rattle.std.proofs.lemmas.Bool.{eq-eqb, eqb-true, and_parts, and_from, lt-ltb, ltb-true}
use Rattle.std.proofs.lemmas.Option.{same_Some, slice_get_within, slice_get-get_or}
use Rattle.std.proofs.lemmas.List.Sums.{length-filter, sum_by-cons}
use Rattle.cone_cutter.specs.Cuts.{NeededBy}
use Rattle.cone_cutter.specs.Rows.{places_of}
use Rattle.cone_cutter.proofs.Lists.{filter_from, filter_to, in_range, to_range, pairs_filter}
use Rattle.cut_refine.specs.Costs.{SinkRow, needing, cost, AreRowsOf}
use Rattle.cut_refine.specs.Refining.{HasCost}

none_some : {A B : Type 0} {x : A} → None ≡ Some x → B
none_some e = absurd cc

-- some sink of the part needs the assignment
pub record SomeNeeds (p x : ℕ) (rows : List SinkRow) : Type 0 where
  pub at : ℕ
  pub row : SinkRow
  pub there : slice_get rows at ≡ Some row
  pub part : row.0 ≡ p
  pub needs : row.1 x ≡ true

front : (p x : ℕ) (y : SinkRow) (ys : List SinkRow) → needing p x (y ∷ ys) ≡ cond (eqb y.0 p && y.1 x) 1 0 + needing p x ys
front p x y ys = sum_by-cons (λ (z : SinkRow). cond (eqb z.0 p && z.1 x) 1 0) y ys

some_needs : (p x : ℕ) (rows : List SinkRow) → 0 < needing p x rows → SomeNeeds p x rows
some_needs p x [] lt = absurd (omega (arith, lt))
some_needs p x (y ∷ ys) lt = by (some_needs p x ys) (eqb y.0 p && y.1 x) refl (subst (λ n. 0 < n) (front p x y ys) lt) where
  by : (0 < needing p x ys → SomeNeeds p x ys) → (b : Bool) → eqb y.0 p && y.1 x ≡ b → 0 < cond b 1 0 + needing p x ys → SomeNeeds p x (y ∷ ys)
  by on true e h = let parts = and_parts (eqb y.0 p) (y.1 x) e in record { at = 0; row = y; there = refl; part = eqb-true y.0 p parts.0; needs = parts.1 }
  by on false e h = let r = on (omega (arith, h)) in record { at = suc r.at; row = r.row; there = r.there; part = r.part; needs = r.needs }

needs_some : (p x k : ℕ) (rows : List SinkRow) (r : SinkRow) → slice_get rows k ≡ Some r → r.0 ≡ p → r.1 x ≡ true → 0 < needing p x rows
needs_some p x k [] r there part needs = none_some there
needs_some p x zero (y ∷ ys) r there part needs =
    let same : y ≡ r = same_Some y r there in
    let test : eqb y.0 p && y.1 x ≡ true = and_from (eqb y.0 p) (y.1 x) (eq-eqb y.0 p (ap (λ (z : SinkRow). z.0) same ∙ part)) (ap (λ (z : SinkRow). z.1 x) same ∙ needs) in
    subst (λ n. 0 < n) (sym (front p x y ys ∙ ap (λ b. cond b 1 0 + needing p x ys) test)) (omega arith)
needs_some p x (suc k) (y ∷ ys) r there part needs =
    let on = needs_some p x k ys r there part needs in
    let all = front p x y ys in
    omega (arith, on, all)

module _ (cone : ℕ → ℕ → Type 0) (owners xs : List ℕ) (rows : List SinkRow) (are : AreRowsOf cone owners xs rows) (p : ℕ) where
  needed : (x : ℕ) → SomeNeeds p x rows → NeededBy cone (places_of owners p) x
  needed x s = record {
    sink = s.at;
    there = filter_to (λ place. eqb (slice_index owners place) p) (range_with_len 0 (length owners)) s.at
        (to_range (length owners) s.at (omega (arith, slice_get_within rows s.at s.row s.there, are.long))) (eq-eqb (slice_index owners s.at) p (are.owned s.at s.row s.there ∙ s.part));
    inside = are.to_cone s.at x s.row s.there s.needs;
  }

  count_some : (x : ℕ) → NeededBy cone (places_of owners p) x → 0 < needing p x rows
  count_some x n =
      let place = filter_from (λ place. eqb (slice_index owners place) p) (range_with_len 0 (length owners)) n.sink n.there in
      let within : n.sink < length rows = omega (arith, in_range (length owners) n.sink place.0, are.long) in
      let some : SinkRow = get_or rows n.sink (0, λ z. true) in
      let there : slice_get rows n.sink ≡ Some (get_or rows n.sink (0, λ z. true)) = slice_get-get_or rows n.sink (0, λ z. true) within in
      needs_some p x n.sink rows (get_or rows n.sink (0, λ z. true)) there
      (sym (are.owned n.sink (get_or rows n.sink (0, λ z. true)) there) ∙ eqb-true (slice_index owners n.sink) p place.1) (are.from_cone n.sink x (get_or rows n.sink (0, λ z. true)) there n.inside)

  pub cost_is : HasCost cone owners p (cost p xs rows)
  cost_is = record {
    numbers = filter (λ x. ltb 0 (needing p x rows)) xs;
    listed = record {
      only = λ x h. needed x (some_needs p x rows (ltb-true 0 (needing p x rows) (filter_from (λ x. ltb 0 (needing p x rows)) xs x h).1));
      all = λ x h. filter_to (λ x. ltb 0 (needing p x rows)) xs x (are.listed h.sink x h.inside) (lt-ltb 0 (needing p x rows) (count_some x h));
      once = pairs_filter (λ a b. a ≢ b) (λ x. ltb 0 (needing p x rows)) xs are.once;
    };
    count = length-filter (λ x. ltb 0 (needing p x rows)) xs;
  }
