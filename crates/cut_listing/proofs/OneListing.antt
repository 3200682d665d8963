-- Refined cuts with the same cones have one listing.
use Rattle.std.proofs.Common.{◌≡◌, ℕ, suc, ◌+◌, List, [], ◌∷◌, ◌++◌, length, slice_get, Some, refl, sym, subst, ap, ap₂, ◌∙◌, arith}
use Rattle.std.specs.List.{Contains, range_with_len, flat_map, zip}
use Rattle.std.specs.Prelude.{codes, decimal}
use Rattle.std.proofs.lemmas.List.Sums.{sum_by-cons}
use Rattle.std.proofs.lemmas.List.Concat.{flat_map-cons}
use Rattle.ground_net.specs.declared.net.Ordered.{Ordered}
use Rattle.ground_net.specs.declared.net.Cut.{Cut}
use Rattle.ground_net.specs.declared.net.CutPart.{CutPart}
use Rattle.ground_net.specs.Cones.{sinks}
use Rattle.cone_cutter.specs.Cuts.{Counts, Keeps, NeededBy, placed_in, ArePlaced, InConeOf, all_sinks, IsCut}
use Rattle.cone_cutter.specs.Rows.{places_of}
use Rattle.cone_cutter.proofs.Assembly.{counts_lift, placed_lift}
use Rattle.cut_listing.specs.Listing.{part_line, total_line, all_assignments, listing_of}
use Rattle.cut_listing.proofs.OneCut.{one_placing}
use Rattle.cut_listing.proofs.Sorted.{counts_one, keeps_one}
use Rattle.cut_refine.specs.declared.refined.Move.{Move}
use Rattle.cut_refine.specs.declared.refined.Refined.{Refined}
use Rattle.cut_refine.specs.Refining.{Refines, IsTable, AreOwners, IsRefined}
use Rattle.cut_refine.proofs.Lift.{refines_lift, table_lift}
use Rattle.cut_refine.proofs.Once.{SameSinks, owners_one, refines_one, table_one}
use Rattle.cut_listing.specs.RefinedTexts.{greatest_line, move_line, refined_listing}

-- the listing says the same of two partitions
record Alike (p q : CutPart) : Type 0 where
  of_sinks : length p.sinks ≡ length q.sinks
  of_assignments : length p.assignments ≡ length q.assignments

-- the line of a partition with so many sinks and assignments
line_by : ℕ → ℕ → ℕ → List ℕ
line_by n s a = codes "partition " ++ decimal n ++ codes " sinks " ++ decimal s ++ codes " assignments " ++ decimal a ++ codes "\n"

same_line : (n : ℕ) (p q : CutPart) → Alike p q → part_line n p ≡ part_line n q
unfolding line_by
same_line n p q h = ap₂ (line_by n) h.of_sinks h.of_assignments

abbrev AreAlike : List CutPart → List CutPart → Type 0
AreAlike ps qs = (i : ℕ) (p q : CutPart) → slice_get ps i ≡ Some p → slice_get qs i ≡ Some q → Alike p q

same_lines : (ps qs : List CutPart) (from : ℕ) → length ps ≡ length qs → AreAlike ps qs
    → flat_map (λ both. part_line both.0 both.1) (zip (range_with_len from (length ps)) ps) ≡ flat_map (λ both. part_line both.0 both.1) (zip (range_with_len from (length qs)) qs)
same_lines [] [] from e h = refl
same_lines [] (q ∷ qs) from e h = absurd (omega arith)
same_lines (p ∷ ps) [] from e h = absurd (omega arith)
same_lines (p ∷ ps) (q ∷ qs) from e h =
    flat_map-cons (λ (both : ℕ × CutPart). part_line both.0 both.1) (from, p) (zip (range_with_len (from + 1) (length ps)) ps)
    ∙ (ap₂ (λ l ls. l ++ ls) (same_line from p q (h 0 p q refl refl)) (same_lines ps qs (from + 1) (omega arith) (λ i. h (suc i)))
    ∙ sym (flat_map-cons (λ (both : ℕ × CutPart). part_line both.0 both.1) (from, q) (zip (range_with_len (from + 1) (length qs)) qs)))

same_sum : (ps qs : List CutPart) → length ps ≡ length qs → AreAlike ps qs → all_assignments ps ≡ all_assignments qs
same_sum [] [] e h = refl
same_sum [] (q ∷ qs) e h = absurd (omega arith)
same_sum (p ∷ ps) [] e h = absurd (omega arith)
same_sum (p ∷ ps) (q ∷ qs) e h =
    omega (
      arith,
      sum_by-cons (λ (part : CutPart). length part.assignments) p ps,
      sum_by-cons (λ (part : CutPart). length part.assignments) q qs,
      (h 0 p q refl refl).of_assignments,
      same_sum ps qs (omega arith) (λ i. h (suc i)),
    )

module _ (a b : Ordered) (seen other : List ℕ) (workers : ℕ) (start same : Cut) (refined again : Refined) (count : length (sinks a.net seen) ≡ length (sinks b.net other))
    (to : (k x : ℕ) → InConeOf a.net seen k x → InConeOf b.net other k x) (from : (k x : ℕ) → InConeOf b.net other k x → InConeOf a.net seen k x)
    (g : IsCut a seen workers start) (h : IsCut b other workers same) (r : IsRefined a seen start refined) (q : IsRefined b other same again) where
  starts_long : length same.parts ≡ length start.parts
  starts_long = h.count ∙ sym g.count

  placings : g.placings ≡ h.placings
  placings = one_placing (InConeOf a.net seen) (length (sinks a.net seen)) workers g.placings h.placings g.are_placed
      (subst (λ n. ArePlaced (InConeOf a.net seen) n workers h.placings) (sym count)
      (placed_lift (InConeOf b.net other) (InConeOf a.net seen) from to (length (sinks b.net other)) workers h.placings h.are_placed))

  starts_needed : start.needed ≡ same.needed
  starts_needed = counts_one (NeededBy (InConeOf a.net seen) (all_sinks a.net seen)) start.needed same.needed g.all_needed
      (subst (λ n. Counts (NeededBy (InConeOf a.net seen) (range_with_len 0 n)) same.needed) (sym count)
      (counts_lift (InConeOf b.net other) (InConeOf a.net seen) from to (all_sinks b.net other) same.needed h.all_needed))

  starts_sinks : SameSinks start.parts same.parts
  starts_sinks p x y e f = keeps_one (Contains (placed_in p g.placings)) (all_sinks a.net seen) x.sinks y.sinks (g.each p x e).of_sinks
      (subst (λ ps. Keeps (Contains (placed_in p ps)) (all_sinks a.net seen) y.sinks) (sym placings)
      (subst (λ n. Keeps (Contains (placed_in p h.placings)) (range_with_len 0 n) y.sinks) (sym count) (h.each p y f).of_sinks))

  firsts : r.first ≡ q.first
  firsts = owners_one (length (sinks a.net seen)) start.parts same.parts r.first q.first (sym starts_long) starts_sinks r.firsts (subst (λ n. AreOwners n same.parts q.first) (sym count) q.firsts)

  other_refines : Refines (InConeOf a.net seen) (length start.parts) r.first q.owners again.greatest
  other_refines =
      subst (λ o. Refines (InConeOf a.net seen) (length start.parts) o q.owners again.greatest) (sym firsts)
      (subst (λ n. Refines (InConeOf a.net seen) n q.first q.owners again.greatest) starts_long
      (refines_lift (InConeOf b.net other) (InConeOf a.net seen) from to (length same.parts) q.first q.owners again.greatest q.refines))

  ends : (r.owners ≡ q.owners) × (refined.greatest ≡ again.greatest)
  ends = refines_one (InConeOf a.net seen) (length start.parts) r.first r.owners q.owners refined.greatest again.greatest r.refines other_refines

  other_table : IsTable (InConeOf a.net seen) (length start.parts) q.owners again.greatest again.table
  other_table =
      subst (λ n. IsTable (InConeOf a.net seen) n q.owners again.greatest again.table) starts_long
      (table_lift (InConeOf b.net other) (InConeOf a.net seen) from to (length same.parts) q.owners again.greatest again.table q.table)

  tables : refined.table ≡ again.table
  tables = table_one (InConeOf a.net seen) (length start.parts) r.owners refined.greatest refined.table again.table r.table
      (subst (λ n. IsTable (InConeOf a.net seen) (length start.parts) r.owners n again.table) (sym ends.1)
      (subst (λ o. IsTable (InConeOf a.net seen) (length start.parts) o again.greatest again.table) (sym ends.0) other_table))

  parts_long : length refined.cut.parts ≡ length again.cut.parts
  parts_long = r.count ∙ (sym starts_long ∙ sym q.count)

  alike : AreAlike refined.cut.parts again.cut.parts
  alike p x y e f =
      let sinks_same : x.sinks ≡ y.sinks = r.of_owners.each p x e ∙ (ap (λ o. places_of o p) ends.0 ∙ sym (q.of_owners.each p y f)) in
      record {
        of_sinks = ap length sinks_same;
        of_assignments = counts_one (NeededBy (InConeOf a.net seen) x.sinks) (length x.assignments) (length y.assignments)
            (record { numbers = x.assignments; listed = (r.unions p x e).exactly; count = refl })
            (subst (λ s. Counts (NeededBy (InConeOf a.net seen) s) (length y.assignments)) (sym sinks_same)
            (counts_lift (InConeOf b.net other) (InConeOf a.net seen) from to y.sinks (length y.assignments) (record { numbers = y.assignments; listed = (q.unions p y f).exactly; count = refl })));
      }

  cuts_same : listing_of refined.cut ≡ listing_of again.cut
  cuts_same =
      ap₂ (λ (l m : List ℕ). l ++ m) (same_lines refined.cut.parts again.cut.parts 0 parts_long alike)
      (ap₂ (λ n m. total_line n m) (r.needed ∙ (starts_needed ∙ sym q.needed)) (same_sum refined.cut.parts again.cut.parts parts_long alike))

  pub one_refined_listing : refined_listing refined ≡ refined_listing again
  one_refined_listing =
      ap₂ (λ (l m : List ℕ). l ++ m) (ap₂ (λ (l m : List ℕ). l ++ m) cuts_same (ap (λ n. greatest_line n) ends.1))
      (ap (λ (rows : List Move). flat_map move_line rows) tables)
