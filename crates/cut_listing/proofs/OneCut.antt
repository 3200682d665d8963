-- The cut by the rule is one: the placings, and what the listing says of the partitions.
use Rattle.std.proofs.Common.{◌≡◌, ℕ, suc, ◌+◌, ◌<◌, List, [], ◌∷◌, ◌++◌, length, take, slice_get, slice_index, Some, refl, sym, subst, ap, ap₂, ◌∙◌, arith, ⊎_elim, inl, inr, append_assoc}
use Rattle.std.specs.List.{Contains, range_with_len, flat_map, zip}
use Rattle.std.specs.Prelude.{codes, decimal}
use Rattle.std.proofs.lemmas.Bool.{cases_eq, cases_lt}
use Rattle.std.proofs.lemmas.List.{length-map}
use Rattle.std.proofs.lemmas.List.Sums.{sum_by-cons}
use Rattle.std.proofs.lemmas.List.Concat.{flat_map-cons}
use Rattle.ground_net.specs.declared.net.Ordered.{Ordered}
use Rattle.ground_net.specs.declared.net.Cut.{Cut}
use Rattle.ground_net.specs.declared.net.CutPart.{CutPart}
use Rattle.ground_net.specs.Cones.{sinks}
use Rattle.cone_cutter.specs.declared.placing.Placing.{Placing}
use Rattle.cone_cutter.specs.Cuts.{Counts, Keeps, NeededBy, placed, placed_in, GoesFirst, IsLeast, ArePlaced, InConeOf, all_sinks, IsCut}
use Rattle.cone_cutter.proofs.Lists.{stands, Pairs}
use Rattle.cone_cutter.proofs.Assembly.{counts_lift, placed_lift}
use Rattle.cut_listing.specs.Listing.{part_line, total_line, all_assignments, listing_of}
use Rattle.cut_listing.proofs.Sorted.{same_sorted, counts_one, keeps_one}

-- the order of the sinks

not_both : (size : ℕ → ℕ) (x y : ℕ) → GoesFirst size x y → GoesFirst size y x → ⊥
not_both size x y a b = ⊎_elim
    (λ p. ⊎_elim (λ q. omega arith) (λ q. omega (arith, p, q.0)) b)
    (λ p. ⊎_elim (λ q. omega (arith, p.0, q)) (λ q. omega (arith, p.1, q.1)) b) a

first_by : (size other : ℕ → ℕ) (x y : ℕ) → size x ≡ other x → size y ≡ other y → GoesFirst size x y → GoesFirst other x y
first_by size other x y e f a = ⊎_elim (λ p. inl (omega arith)) (λ p. inr (sym e ∙ (p.0 ∙ f), p.1)) a

-- the partition of a sink

one_part : (cone : ℕ → ℕ → Type 0) (workers : ℕ) (earlier : List Placing) (p q : Placing) → p.sink ≡ q.sink → IsLeast cone workers earlier p → IsLeast cone workers earlier q → p.part ≡ q.part
one_part cone workers earlier p q e a b = ⊎_elim (λ same. same)
    (λ n. ⊎_elim
    (λ less. let lower = b.lowest p.part less in let least = a.least q.part b.within in
    absurd (omega (arith, lower, least, costs p.part a.within, costs q.part b.within)))
    (λ past. let lower = a.lowest q.part (omega arith) in let least = b.least p.part a.within in
    absurd (omega (arith, lower, least, costs p.part a.within, costs q.part b.within)))
    (cases_lt p.part q.part))
    (cases_eq p.part q.part)
  where
    costs : (k : ℕ) → k < workers → a.cost k ≡ b.cost k
    costs k lt = counts_one (NeededBy cone (p.sink ∷ placed_in k earlier)) (a.cost k) (b.cost k) (a.counts k lt)
        (subst (λ s. Counts (NeededBy cone (s ∷ placed_in k earlier)) (b.cost k)) (sym e) (b.counts k lt))

same_placing : (p q : Placing) → p.sink ≡ q.sink → p.part ≡ q.part → p ≡ q
same_placing p q e f = ap₂ (λ (s t : ℕ). record { sink = s; part = t }) e f

heads : (x y : ℕ) (xs ys : List ℕ) → x ∷ xs ≡ y ∷ ys → x ≡ y
heads x y xs ys e = cc

tails : (x y : ℕ) (xs ys : List ℕ) → x ∷ xs ≡ y ∷ ys → xs ≡ ys
tails x y xs ys e = cc

-- each is the least choice behind those before it
abbrev AreLeast : (ℕ → ℕ → Type 0) → ℕ → List Placing → List Placing → Type 0
AreLeast cone workers front ps = (i : ℕ) (next : Placing) → slice_get ps i ≡ Some next → IsLeast cone workers (front ++ take i ps) next

least_rest : (cone : ℕ → ℕ → Type 0) (workers : ℕ) (front : List Placing) (p : Placing) (ps : List Placing) → AreLeast cone workers front (p ∷ ps) → AreLeast cone workers (front ++ p ∷ []) ps
least_rest cone workers front p ps h i next e =
    subst (λ earlier. IsLeast cone workers earlier next) (sym (append_assoc front (p ∷ []) (take i ps))) (h (suc i) next e)

same_choices : (cone : ℕ → ℕ → Type 0) (workers : ℕ) (front ps qs : List Placing) → placed ps ≡ placed qs → AreLeast cone workers front ps → AreLeast cone workers front qs → ps ≡ qs
same_choices cone workers front [] [] e a b = refl
same_choices cone workers front [] (q ∷ qs) e a b = absurd (omega (arith, ap length e))
same_choices cone workers front (p ∷ ps) [] e a b = absurd (omega (arith, ap length e))
same_choices cone workers front (p ∷ ps) (q ∷ qs) e a b =
    let same : p ≡ q = same_placing p q (heads p.sink q.sink (placed ps) (placed qs) e)
    (one_part cone workers (front ++ []) p q (heads p.sink q.sink (placed ps) (placed qs) e) (a 0 p refl) (b 0 q refl)) in
    ap₂ (λ x xs. x ∷ xs) same
    (same_choices cone workers (front ++ p ∷ []) ps qs (tails p.sink q.sink (placed ps) (placed qs) e) (least_rest cone workers front p ps a)
    (subst (λ x. AreLeast cone workers (front ++ x ∷ []) qs) (sym same) (least_rest cone workers front q qs b)))

-- Sinks are placed in one way.
pub one_placing : (cone : ℕ → ℕ → Type 0) (count workers : ℕ) (ps qs : List Placing) → ArePlaced cone count workers ps → ArePlaced cone count workers qs → ps ≡ qs
one_placing cone count workers ps qs a b = same_choices cone workers [] ps qs orders a.choices b.choices
  where
    sizes : (k : ℕ) → k < count → b.size k ≡ a.size k
    sizes k lt = counts_one (cone k) (b.size k) (a.size k) (b.sizes k lt) (a.sizes k lt)

    within : (i : ℕ) → i < length (placed qs) → slice_index (placed qs) i < count
    within i lt = b.only (slice_index (placed qs) i) (stands (placed qs) _ i lt refl)

    of_first : Pairs (GoesFirst a.size) (placed ps)
    of_first i j less lt = a.in_order i j less (omega (arith, lt, length-map ps (λ (q : Placing). q.sink)))

    of_second : Pairs (GoesFirst a.size) (placed qs)
    of_second i j less lt = first_by b.size a.size (slice_index (placed qs) i) (slice_index (placed qs) j) (sizes _ (within i (omega arith))) (sizes _ (within j lt))
        (b.in_order i j less (omega (arith, lt, length-map qs (λ (q : Placing). q.sink))))

    orders : placed ps ≡ placed qs
    orders = same_sorted (GoesFirst a.size) (not_both a.size) (placed ps) (placed qs) of_first of_second (λ z c. b.all z (a.only z c)) (λ z c. a.all z (b.only z c))

-- the lines

-- the listing says the same of two partitions
record Alike (p q : CutPart) : Type 0 where
  of_sinks : length p.sinks ≡ length q.sinks
  of_assignments : length p.assignments ≡ length q.assignments

-- the line of a partition with so many sinks and assignments
line_by : ℕ → ℕ → ℕ → List ℕ
line_by n s a = codes "partition " ++ decimal n ++ codes " sinks " ++ decimal s ++ codes " assignments " ++ decimal a ++ codes "\n"

same_line : (n : ℕ) (p q : CutPart) → Alike p q → part_line n p ≡ part_line n q
unfolding line_by
same_line n p q h = ap₂ (line_by n) h.of_sinks h.of_assignments

abbrev AreAlike : List CutPart → List CutPart → Type 0
AreAlike ps qs = (i : ℕ) (p q : CutPart) → slice_get ps i ≡ Some p → slice_get qs i ≡ Some q → Alike p q

same_lines : (ps qs : List CutPart) (from : ℕ) → length ps ≡ length qs → AreAlike ps qs
    → flat_map (λ both. part_line both.0 both.1) (zip (range_with_len from (length ps)) ps) ≡ flat_map (λ both. part_line both.0 both.1) (zip (range_with_len from (length qs)) qs)
same_lines [] [] from e h = refl
same_lines [] (q ∷ qs) from e h = absurd (omega arith)
same_lines (p ∷ ps) [] from e h = absurd (omega arith)
same_lines (p ∷ ps) (q ∷ qs) from e h =
    flat_map-cons (λ (both : ℕ × CutPart). part_line both.0 both.1) (from, p) (zip (range_with_len (from + 1) (length ps)) ps)
    ∙ (ap₂ (λ l ls. l ++ ls) (same_line from p q (h 0 p q refl refl)) (same_lines ps qs (from + 1) (omega arith) (λ i. h (suc i)))
    ∙ sym (flat_map-cons (λ (both : ℕ × CutPart). part_line both.0 both.1) (from, q) (zip (range_with_len (from + 1) (length qs)) qs)))

same_sum : (ps qs : List CutPart) → length ps ≡ length qs → AreAlike ps qs → all_assignments ps ≡ all_assignments qs
same_sum [] [] e h = refl
same_sum [] (q ∷ qs) e h = absurd (omega arith)
same_sum (p ∷ ps) [] e h = absurd (omega arith)
same_sum (p ∷ ps) (q ∷ qs) e h =
    omega (
      arith,
      sum_by-cons (λ (part : CutPart). length part.assignments) p ps,
      sum_by-cons (λ (part : CutPart). length part.assignments) q qs,
      (h 0 p q refl refl).of_assignments,
      same_sum ps qs (omega arith) (λ i. h (suc i)),
    )

-- The listing of cuts with the same cones is one.
pub one_listing : (a b : Ordered) (seen other : List ℕ) (workers : ℕ) (cut same : Cut) → length (sinks a.net seen) ≡ length (sinks b.net other)
    → ((k x : ℕ) → InConeOf a.net seen k x → InConeOf b.net other k x) → ((k x : ℕ) → InConeOf b.net other k x → InConeOf a.net seen k x)
    → IsCut a seen workers cut → IsCut b other workers same → listing_of cut ≡ listing_of same
one_listing a b seen other workers cut same count to from g h =
    ap₂ (λ (l m : List ℕ). l ++ m) (same_lines cut.parts same.parts 0 counts alike)
    (ap₂ (λ n m. total_line n m) needed (same_sum cut.parts same.parts counts alike))
  where
    counts : length cut.parts ≡ length same.parts
    counts = g.count ∙ sym h.count

    placings : g.placings ≡ h.placings
    placings = one_placing (InConeOf a.net seen) (length (sinks a.net seen)) workers g.placings h.placings g.are_placed
        (subst (λ n. ArePlaced (InConeOf a.net seen) n workers h.placings) (sym count)
        (placed_lift (InConeOf b.net other) (InConeOf a.net seen) from to (length (sinks b.net other)) workers h.placings h.are_placed))

    needed : cut.needed ≡ same.needed
    needed = counts_one (NeededBy (InConeOf a.net seen) (all_sinks a.net seen)) cut.needed same.needed g.all_needed
        (subst (λ n. Counts (NeededBy (InConeOf a.net seen) (range_with_len 0 n)) same.needed) (sym count)
        (counts_lift (InConeOf b.net other) (InConeOf a.net seen) from to (all_sinks b.net other) same.needed h.all_needed))

    alike : AreAlike cut.parts same.parts
    alike p x y e f =
        let u = g.each p x e in
        let v = h.each p y f in
        let sinks_same : x.sinks ≡ y.sinks = keeps_one (Contains (placed_in p g.placings)) (all_sinks a.net seen) x.sinks y.sinks u.of_sinks
        (subst (λ ps. Keeps (Contains (placed_in p ps)) (all_sinks a.net seen) y.sinks) (sym placings)
        (subst (λ n. Keeps (Contains (placed_in p h.placings)) (range_with_len 0 n) y.sinks) (sym count) v.of_sinks)) in
        record {
          of_sinks = ap length sinks_same;
          of_assignments = counts_one (NeededBy (InConeOf a.net seen) x.sinks) (length x.assignments) (length y.assignments)
              (record { numbers = x.assignments; listed = u.exactly; count = refl })
              (subst (λ s. Counts (NeededBy (InConeOf a.net seen) s) (length y.assignments)) (sym sinks_same)
              (counts_lift (InConeOf b.net other) (InConeOf a.net seen) from to y.sinks (length y.assignments) (record { numbers = y.assignments; listed = v.exactly; count = refl })));
        }
