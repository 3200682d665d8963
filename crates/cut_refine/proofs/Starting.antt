-- What the cut of the rule says of its sinks, their cones, and its parts.
use Rattle.std.proofs.Common.{◌≡◌, ℕ, ◌<◌, ◌==◌, IsTrue, List, length, map, slice_get, slice_index, Some, sym, subst, ap, ◌∙◌, arith, ⊎_elim}
use Rattle.std.specs.Prelude.{◌↔◌}
use Rattle.std.specs.List.{Contains, filter, range_with_len}
use Rattle.std.proofs.lemmas.Bool.{eq-eqb, eqb-true}
use Rattle.std.proofs.lemmas.List.{get_or-map, length-map}
use Rattle.std.proofs.lemmas.Option.{slice_get_within, slice_get_cases, get_or_from_slice_get}
use Rattle.ground_net.specs.declared.net.Ordered.{Ordered}
use Rattle.ground_net.specs.declared.net.Cut.{Cut}
use Rattle.ground_net.specs.declared.net.CutPart.{CutPart}
use Rattle.ground_net.specs.Cones.{sinks}
use Rattle.cone_cutter.specs.Cuts.{NeededBy, InConeOf, all_sinks, IsCut, placed_in}
use Rattle.cone_cutter.specs.Rows.{places_of, read_rows, need_rows, ConeAt}
use Rattle.cone_cutter.specs.Loads.{holds}
use Rattle.cone_cutter.specs.Splits.{IsSplit}
use Rattle.cone_cutter.proofs.Lists.{in_range}
use Rattle.cone_cutter.proofs.Assembly.{cone_to, cone_from, cone_assigned, assigned_within, needed_lift}
use Rattle.cone_cutter.proofs.Splitting.{kept_from, kept_to, is_split}
use Rattle.cut_refine.specs.Refining.{HasCost, AreOwners}
use Rattle.cut_refine.specs.Standing.{AreSized, AreParted, AreApart, IsStanding}
use Rattle.cut_refine.proofs.Unique.{keeps_one}

pub cut_sized : (ordered : Ordered) (watch : List ℕ) (workers : ℕ) (start : Cut) → IsCut ordered watch workers start → (owners : List ℕ) → length owners ≡ length (sinks ordered.net watch)
    → AreSized (InConeOf ordered.net watch) (length owners)
cut_sized ordered watch workers start is owners long k lt = (is.are_placed.size k, is.are_placed.sizes k (omega (arith, lt, long)))

pub one_part : {A : Type 0} (a b : A) → Some a ≡ Some b → a ≡ b
one_part a b e = cc

module _ (ordered : Ordered) (watch : List ℕ) (workers : ℕ) (start : Cut) (is : IsCut ordered watch workers start) where
  split : IsSplit ordered watch start.parts
  split = is_split ordered watch workers start is

  pub sinks_few : (p : ℕ) (part : CutPart) → slice_get start.parts p ≡ Some part → (k : ℕ) → Contains part.sinks k → k < length (sinks ordered.net watch)
  sinks_few p part e k c = (split.unions p part e).only k c

  pub needs_few : (p : ℕ) (part : CutPart) → slice_get start.parts p ≡ Some part → (x : ℕ) → Contains part.assignments x → x < length ordered.net.leaves
  needs_few p part e x c =
      let n = (split.unions p part e).exactly.only x c in
      assigned_within ordered.net.leaves x (cone_assigned ordered.net n.inside.sink x n.inside.inside)

  pub parts_apart : AreApart start.parts
  parts_apart p q k part other e f c d =
      let once = split.once k (sinks_few p part e k c) in
      once.alone p part e c ∙ sym (once.alone q other f d)

  module _ (owners masks : List ℕ) (parted : AreParted (length start.parts) start.parts owners masks) (long : length owners ≡ length (sinks ordered.net watch)) where
    owner_of : (k : ℕ) (lt : k < length (sinks ordered.net watch)) → slice_index owners k ≡ (split.once k lt).number
    owner_of k lt = parted.owned (split.once k lt).number (split.once k lt).part (slice_get_within start.parts (split.once k lt).number (split.once k lt).part (split.once k lt).there) (split.once k lt).there k (split.once k lt).here

    owner_to : (p : ℕ) (part : CutPart) → slice_get start.parts p ≡ Some part → (k : ℕ) → k < length (sinks ordered.net watch) → slice_index owners k ≡ p → Contains part.sinks k
    owner_to p part e k lt own =
        let once = split.once k lt in
        let same : (split.once k lt).number ≡ p = sym (owner_of k lt) ∙ own in
        subst (λ q. Contains q.sinks k) (one_part once.part part (sym once.there ∙ (ap (slice_get start.parts) same ∙ e))) once.here

    pub part_sinks : (p : ℕ) (part : CutPart) → slice_get start.parts p ≡ Some part → part.sinks ≡ places_of owners p
    part_sinks p part e = keeps_one (Contains part.sinks) (all_sinks ordered.net watch) part.sinks (places_of owners p)
        (record {
          test = (is.each p part e).of_sinks.test;
          tests = λ k c. (
            λ t. kept_to (Contains (placed_in p is.placings)) (all_sinks ordered.net watch) part.sinks (is.each p part e).of_sinks k c (((is.each p part e).of_sinks.tests k c).0 t),
            λ d. ((is.each p part e).of_sinks.tests k c).1 (kept_from (Contains (placed_in p is.placings)) (all_sinks ordered.net watch) part.sinks (is.each p part e).of_sinks k d).1,
          );
          same = (is.each p part e).of_sinks.same;
        })
        (record {
          test = λ k. slice_index owners k == p;
          tests = λ k c. (
            λ t. owner_to p part e k (in_range (length (sinks ordered.net watch)) k c) (eqb-true (slice_index owners k) p t),
            λ d. eq-eqb (slice_index owners k) p (parted.owned p part (slice_get_within start.parts p part e) e k d),
          );
          same = ap (λ n. filter (λ k. slice_index owners k == p) (range_with_len 0 n)) long;
        })

    owner_few : (k : ℕ) → k < length (sinks ordered.net watch) → slice_index owners k < length start.parts
    owner_few k lt = let once = split.once k lt in omega (arith, owner_of k lt, slice_get_within start.parts once.number once.part once.there)

    pub start_owners : AreOwners (length (sinks ordered.net watch)) start.parts owners
    start_owners = record { long = long; each = part_sinks; within = owner_few }

    module _ (reads rows : List (List ℕ)) (er : reads ≡ read_rows ordered.net) (en : rows ≡ need_rows ordered.net (sinks ordered.net watch)) (costs : List ℕ)
        (masks_long : length masks ≡ length reads) (are : costs ≡ map (λ (part : CutPart). length part.assignments) start.parts) where
      to : (k x : ℕ) → InConeOf ordered.net watch k x → ConeAt reads rows k x
      to = cone_to ordered.net watch reads rows er en

      from : (k x : ℕ) → ConeAt reads rows k x → InConeOf ordered.net watch k x
      from = cone_from ordered.net watch reads rows er en

      part_there : (p : ℕ) → p < length start.parts → (part : CutPart) × (slice_get start.parts p ≡ Some part)
      part_there p lt = ⊎_elim (λ here. (here.0, here.2)) (λ past. absurd (omega (arith, lt, past.0))) (slice_get_cases start.parts p).1

      needs_to : (p : ℕ) (part : CutPart) → slice_get start.parts p ≡ Some part → (x : ℕ) → Contains part.assignments x → NeededBy (ConeAt reads rows) (places_of owners p) x
      needs_to p part e x c = subst (λ s. NeededBy (ConeAt reads rows) s x) (part_sinks p part e) (needed_lift (InConeOf ordered.net watch) (ConeAt reads rows) to from part.sinks x ((split.unions p part e).exactly.only x c))

      needs_from : (p : ℕ) (part : CutPart) → slice_get start.parts p ≡ Some part → (x : ℕ) → NeededBy (ConeAt reads rows) (places_of owners p) x → Contains part.assignments x
      needs_from p part e x n =
          (split.unions p part e).exactly.all x (needed_lift (ConeAt reads rows) (InConeOf ordered.net watch) from to part.sinks x (subst (λ s. NeededBy (ConeAt reads rows) s x) (sym (part_sinks p part e)) n))

      held : (p x : ℕ) → p < length start.parts → x < length reads → IsTrue (holds masks p x) ↔ NeededBy (ConeAt reads rows) (places_of owners p) x
      held p x lt lx =
          let here = part_there p lt in
          (λ t. needs_to p here.0 here.1 x (parted.held p here.0 lt here.1 x t), λ n. parted.holding p here.0 lt here.1 x (needs_from p here.0 here.1 x n))

      cost_at : (p : ℕ) (part : CutPart) → slice_get start.parts p ≡ Some part → length part.assignments ≡ slice_index costs p
      cost_at p part e =
          sym (ap (λ l. slice_index l p) are
          ∙ (get_or-map (λ (q : CutPart). length q.assignments) start.parts p part 0 (slice_get_within start.parts p part e)
          ∙ ap (λ (q : CutPart). length q.assignments) (get_or_from_slice_get start.parts p part part e)))

      counted : (p : ℕ) → p < length start.parts → HasCost (ConeAt reads rows) owners p (slice_index costs p)
      counted p lt =
          let here = part_there p lt in
          record {
            numbers = here.0.assignments;
            listed = record { only = needs_to p here.0 here.1; all = needs_from p here.0 here.1; once = (split.unions p here.0 here.1).exactly.once };
            count = cost_at p here.0 here.1;
          }

      pub start_stands : IsStanding (ConeAt reads rows) (length reads) (length start.parts) owners masks costs
      start_stands = record {
        masks_long = masks_long;
        costs_long = ap length are ∙ length-map start.parts (λ (part : CutPart). length part.assignments);
        within = λ k lt. owner_few k (omega (arith, lt, long));
        held = held;
        counts = counted;
      }
