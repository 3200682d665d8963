-- What a cut is to the code that is made of it.
use Rattle.std.proofs.Common.{◌≡◌, ◌≢◌, ℕ, ◌<◌, List, length, slice_get, slice_index, Some, refl, sym, subst, ap, ◌∙◌, arith, ⊎_elim}
use Rattle.std.specs.List.{Contains}
use Rattle.std.proofs.lemmas.Bool.{cases_eq, cases_lt}
use Rattle.std.proofs.lemmas.Option.{slice_get_within, slice_get_cases, get_or_from_slice_get}
use Rattle.std.proofs.lemmas.List.{get_or-map}
use Rattle.ground_net.specs.declared.net.Net.{Net}
use Rattle.ground_net.specs.declared.net.Ordered.{Ordered}
use Rattle.ground_net.specs.declared.net.Cut.{Cut}
use Rattle.ground_net.specs.declared.net.CutPart.{CutPart}
use Rattle.ground_net.specs.Cones.{sinks, behind}
use Rattle.ground_net.specs.Reads.{IsAssigned, Reads, IsOrder}
use Rattle.cone_cutter.specs.declared.placing.Placing.{Placing}
use Rattle.cone_cutter.specs.Cuts.{Keeps, placed, placed_in, all_sinks, IsCut}
use Rattle.cone_cutter.specs.Splits.{StandsOnce, Rises, IsUnion, IsSplit, IsClosed, StandBehindReads}
use Rattle.cone_cutter.proofs.Lists.{stands, stood, filter_from, filter_to, Pairs, pairs_filter, range_rises, in_range, to_range}
use Rattle.cone_cutter.proofs.Assembly.{placed_from, placed_to, placing_of}

-- what is kept

pub kept_from : (is : ℕ → Type 0) (s kept : List ℕ) → Keeps is s kept → (x : ℕ) → Contains kept x → Contains s x × is x
kept_from is s kept h x c =
    let f = filter_from h.test s x (subst (λ l. Contains l x) h.same c) in (f.0, (h.tests x f.0).0 f.1)

pub kept_to : (is : ℕ → Type 0) (s kept : List ℕ) → Keeps is s kept → (x : ℕ) → Contains s x → is x → Contains kept x
kept_to is s kept h x c i = subst (λ l. Contains l x) (sym h.same) (filter_to h.test s x c ((h.tests x c).1 i))

-- closed under reads

pub union_closed : (net : Net) (watch sequence : List ℕ) (part : CutPart) → IsUnion net watch sequence part → IsClosed net part.assignments
union_closed net watch sequence part h x y c r a =
    let n = h.exactly.only x c in
    h.exactly.all y (record { sink = n.sink; there = n.there; inside = record { sink = n.inside.sink; there = n.inside.there; inside = behind n.inside.inside r a } })

-- behind what is read

not_later : (net : Net) (s : List ℕ) → IsOrder net s → (j k : ℕ) → j < k → k < length s → Reads net (slice_index s j) (slice_index s k) → IsAssigned net.leaves (slice_index s k) → ⊥
not_later net s o j k less lt r a = let q = o.after j (slice_index s k) (omega arith) r a in o.once q.0 k (omega (arith, q.1)) lt q.2

not_itself : (net : Net) (s : List ℕ) → IsOrder net s → (x w : ℕ) → Contains s x → Reads net x w → IsAssigned net.leaves w → x ≢ w
not_itself net s o x w c r a e =
    let at = stood s x c in
    let q = o.after at.0 w at.1 (subst (λ y. Reads net y w) (sym at.2) r) a in
    o.once q.0 at.0 q.1 at.1 (q.2 ∙ (sym e ∙ sym at.2))

pub union_ordered : (net : Net) (watch sequence : List ℕ) (part : CutPart) → IsOrder net sequence → IsUnion net watch sequence part → StandBehindReads net part.assignments
union_ordered net watch sequence part o h k w lt r a =
    let these = part.assignments in
    let here : Contains part.assignments (slice_index part.assignments k) = stands these _ k lt refl in
    let at = stood these w (union_closed net watch sequence part h (slice_index these k) w here r a) in
    let pairs = subst (Pairs (λ x y. Reads net x y → IsAssigned net.leaves y → ⊥)) (sym h.in_order.same)
    (pairs_filter (λ x y. Reads net x y → IsAssigned net.leaves y → ⊥) h.in_order.test sequence (not_later net sequence o)) in
    ⊎_elim (λ less. (at.0, less, at.2))
    (λ past. ⊎_elim
    (λ same. absurd (not_itself net sequence o (slice_index these k) w (kept_from _ sequence these h.in_order (slice_index these k) here).0 r a (ap (slice_index these) (sym same) ∙ at.2)))
    (λ n. absurd (pairs k at.0 (omega arith) at.1 (subst (Reads net (slice_index these k)) (sym at.2) r) (subst (IsAssigned net.leaves) (sym at.2) a))) (cases_eq at.0 k))
    (cases_lt at.0 k)

-- each sink once

module _ (ordered : Ordered) (watch : List ℕ) (workers : ℕ) (it : Cut) (h : IsCut ordered watch workers it) where
  sink_at : (i : ℕ) (q : Placing) → slice_get h.placings i ≡ Some q → slice_index (placed h.placings) i ≡ q.sink
  sink_at i q e = get_or-map (λ (z : Placing). z.sink) h.placings i q 0 (slice_get_within h.placings i q e) ∙ ap (λ (z : Placing). z.sink) (get_or_from_slice_get h.placings i q q e)

  apart : (i j : ℕ) (q r : Placing) → slice_get h.placings i ≡ Some q → slice_get h.placings j ≡ Some r → i < j → q.sink ≢ r.sink
  apart i j q r e f less same =
      let sinks_same : slice_index (placed h.placings) i ≡ slice_index (placed h.placings) j = sink_at i q e ∙ (same ∙ sym (sink_at j r f)) in
      ⊎_elim (λ bigger. let sizes = ap h.are_placed.size sinks_same in omega arith) (λ lower. omega (arith, lower.1, sinks_same))
      (h.are_placed.in_order i j less (slice_get_within h.placings j r f))

  one_of : (a b : Placing) → Some a ≡ Some b → a ≡ b
  one_of a b e = cc

  one_part : (i j : ℕ) (q r : Placing) → slice_get h.placings i ≡ Some q → slice_get h.placings j ≡ Some r → q.sink ≡ r.sink → q.part ≡ r.part
  one_part i j q r e f same = ⊎_elim
      (λ k. ap (λ (z : Placing). z.part) (one_of q r (sym e ∙ (ap (slice_get h.placings) k ∙ f))))
      (λ n. ⊎_elim (λ less. absurd (apart i j q r e f less same)) (λ past. absurd (apart j i r q f e (omega arith) (sym same))) (cases_lt i j)) (cases_eq i j)

  stands_once : (k : ℕ) → k < length (sinks ordered.net watch) → StandsOnce it.parts k
  stands_once k lt =
      let at = placing_of h.placings k (h.are_placed.all k lt) in
      let q = at.1 in
      let in_parts : at.1.part < length it.parts = omega (arith, (h.are_placed.choices at.0 q at.2).within, h.count) in
      let here = part_there q.part in_parts in
      let is = h.each q.part here.0 here.1 in
      record {
        number = q.part;
        part = here.0;
        there = here.1;
        here = kept_to _ (all_sinks ordered.net watch) here.0.sinks is.of_sinks k (to_range (length (sinks ordered.net watch)) k lt) (subst (Contains (placed_in q.part h.placings)) at.3 (placed_to q.part h.placings at.0 q at.2 refl));
        alone = λ other o e c.
            let there = kept_from _ (all_sinks ordered.net watch) o.sinks (h.each other o e).of_sinks k c in
            let s = placed_from other h.placings k there.1 in
            sym s.is_part ∙ one_part s.at at.0 s.it q s.there at.2 (s.is_sink ∙ sym at.3);
      }
    where
      part_there : (p : ℕ) → p < length it.parts → (part : CutPart) × (slice_get it.parts p ≡ Some part)
      part_there p lt = ⊎_elim (λ here. (here.0, here.2)) (λ past. absurd (omega (arith, past.0))) (slice_get_cases it.parts p).1

  union_of : (p : ℕ) (part : CutPart) → slice_get it.parts p ≡ Some part → IsUnion ordered.net watch ordered.sequence part
  union_of p part e =
      let is = h.each p part e in
      record {
        only = λ k c. in_range (length (sinks ordered.net watch)) k (kept_from _ (all_sinks ordered.net watch) part.sinks is.of_sinks k c).0;
        rises = subst Rises (sym is.of_sinks.same) (pairs_filter (λ a b. a < b) is.of_sinks.test (all_sinks ordered.net watch) (range_rises (length (sinks ordered.net watch))));
        exactly = is.exactly;
        in_order = is.in_order;
      }

  pub is_split : IsSplit ordered watch it.parts
  is_split = record { once = stands_once; unions = union_of }
