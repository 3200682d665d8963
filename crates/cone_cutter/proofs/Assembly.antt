-- The cut, put together.
use Rattle.std.proofs.Common.{◌≡◌, ◌≢◌, ℕ, zero, suc, ◌+◌, ◌<◌, ◌≤◌, ◌==◌, Bool, true, false, cond, List, [], ◌∷◌, ◌++◌, length, take, slice_get, slice_index, Some, None, Option, refl, sym, subst, ap, ◌∙◌, arith, ◌⊎◌, ⊎_elim, inl, inr, get_or}
use Rattle.std.specs.List.{filter, Contains, All, range_with_len}
use Rattle.std.proofs.lemmas.Bool.{cases_lt, eq-eqb, eqb-true}
use Rattle.std.proofs.lemmas.List.{length-map, get_or-map, get_or_past, get_or_default}
use Rattle.std.proofs.lemmas.List.Elements.{Contains-get_or, All-map}
use Rattle.std.proofs.lemmas.List.FromFn.{length-map-range_with_len, get_or-map-range_with_len, map-range_with_len_more}
use Rattle.std.proofs.lemmas.Option.{slice_get_within, slice_get_cases, get_or_from_slice_get}
use Rattle.ground_net.specs.declared.net.Net.{Net}
use Rattle.ground_net.specs.declared.net.Leaf.{Leaf}
use Rattle.ground_net.specs.declared.net.Ordered.{Ordered}
use Rattle.ground_net.specs.declared.net.Cut.{Cut}
use Rattle.ground_net.specs.declared.net.CutPart.{CutPart}
use Rattle.ground_net.specs.declared.net.Role.{Role}
use Rattle.ground_net.specs.declared.net.Role.TheVariants as role
use Rattle.ground_net.specs.Cones.{Sink, sinks, needs, InCone, needed as by_need, behind as by_reads}
use Rattle.ground_net.specs.Reads.{IsAssigned, direct_reads, IsOrder}
use Rattle.cone_cutter.specs.declared.placing.Placing.{Placing}
use Rattle.cone_cutter.specs.declared.loads.Load.{Load}
use Rattle.cone_cutter.specs.declared.holding.Holding.{Holding}
use Rattle.cone_cutter.specs.Cuts.{Counts, NeededBy, placed, placed_in, GoesFirst, IsLeast, ArePlaced, InConeOf, IsPart, IsCut}
use Rattle.cone_cutter.specs.Rows.{is_assigned_role, is_assigned_leaf, is_assignment, assignments_of, read_rows, need_rows, row_at, places_of, AreBelow, Met, root, next, ConeAt}
use Rattle.cone_cutter.specs.Walks.{AreRanked}
use Rattle.cone_cutter.specs.Loads.{holds, IsLoad, part_by, parts_by}
use Rattle.cone_cutter.specs.Marks.{IsRowOrder, AreInOrder, AreSizes, IsHeld}
pub use Rattle.comb_order.proofs.Telling.{assigned_is, is_assigned_test, assigned_within}
use Rattle.cone_cutter.proofs.Lists.{none_in, first_in, later_in, cons_cases, stands, stood, filter_from, filter_to, pairs_filter, counts_same, in_range}
use Rattle.cone_cutter.proofs.KeyPlaces.{place_from, place_to}

-- assignments

pub read_rows_long : (net : Net) → length (read_rows net) ≡ length net.leaves
read_rows_long net = length-map-range_with_len (λ x. assignments_of net (direct_reads net x)) 0 (length net.leaves)

-- cones

met_none : (reads : List (List ℕ)) (x : ℕ) → Met reads [] x → ⊥
met_none reads x (root c) = none_in x c
met_none reads x (next {x = y} m c) = met_none reads y m

pub cone_assigned : (net : Net) (sink : Sink) (x : ℕ) → InCone net sink x → IsAssigned net.leaves x
cone_assigned net sink x (by_need c a) = a
cone_assigned net sink x (by_reads i r a) = a

module _ (net : Net) (watch : List ℕ) (reads rows : List (List ℕ)) (er : reads ≡ read_rows net) (en : rows ≡ need_rows net (sinks net watch)) where
  read_row : (x : ℕ) → x < length net.leaves → row_at reads x ≡ assignments_of net (direct_reads net x)
  read_row x lt = let z : 0 + x ≡ x = omega arith in ap (λ r. row_at r x) er ∙ get_or-map-range_with_len (λ y. assignments_of net (direct_reads net y)) 0 (length net.leaves) x x [] lt z

  no_row : (x : ℕ) → length net.leaves ≤ x → row_at reads x ≡ []
  no_row x past = get_or_past reads x [] (omega (arith, past, ap length er, read_rows_long net))

  need_row : (k : ℕ) (sink : Sink) → slice_get (sinks net watch) k ≡ Some sink → row_at rows k ≡ assignments_of net (needs net sink)
  need_row k sink there =
      ap (λ r. row_at r k) en ∙ (get_or-map (λ s. assignments_of net (needs net s)) (sinks net watch) k sink [] (slice_get_within (sinks net watch) k sink there)
      ∙ ap (λ s. assignments_of net (needs net s)) (get_or_from_slice_get (sinks net watch) k sink sink there))

  to_met : (k : ℕ) (sink : Sink) → slice_get (sinks net watch) k ≡ Some sink → (x : ℕ) → InCone net sink x → Met reads (row_at rows k) x
  to_met k sink there x (by_need c a) = root (subst (λ r. Contains r x) (sym (need_row k sink there)) (filter_to (is_assignment net.leaves) (needs net sink) x c (is_assigned_test net.leaves x a)))
  to_met k sink there x (by_reads {x = y} i r a) =
      let inside = assigned_within net.leaves y (cone_assigned net sink y i) in
      next (to_met k sink there y i) (subst (λ s. Contains s x) (sym (read_row y inside)) (filter_to (is_assignment net.leaves) (direct_reads net y) x r (is_assigned_test net.leaves x a)))

  from_met : (k : ℕ) (sink : Sink) → slice_get (sinks net watch) k ≡ Some sink → (x : ℕ) → Met reads (row_at rows k) x → InCone net sink x
  from_met k sink there x (root c) =
      let f = filter_from (is_assignment net.leaves) (needs net sink) x (subst (λ r. Contains r x) (need_row k sink there) c) in by_need f.0 (assigned_is net.leaves x f.1)
  from_met k sink there x (next {x = y} m c) = ⊎_elim
      (λ lt. let f = filter_from (is_assignment net.leaves) (direct_reads net y) x (subst (λ s. Contains s x) (read_row y lt) c) in by_reads (from_met k sink there y m) f.0 (assigned_is net.leaves x f.1))
      (λ past. absurd (none_in x (subst (λ s. Contains s x) (no_row y past) c))) (cases_lt y (length net.leaves))

  pub cone_to : (k x : ℕ) → InConeOf net watch k x → ConeAt reads rows k x
  cone_to k x i = to_met k i.sink i.there x i.inside

  pub cone_from : (k x : ℕ) → ConeAt reads rows k x → InConeOf net watch k x
  cone_from k x m = ⊎_elim
      (λ here. record { sink = here.0; there = here.2; inside = from_met k here.0 here.2 x m })
      (λ past. absurd (met_none reads x (subst (λ r. Met reads r x) (no_needs past.0) m))) (slice_get_cases (sinks net watch) k).1
    where
      no_needs : length (sinks net watch) ≤ k → row_at rows k ≡ []
      no_needs past = get_or_past rows k [] (omega (arith, past, ap length en, length-map (sinks net watch) (λ s. assignments_of net (needs net s))))

-- the same cones

module _ (C D : ℕ → ℕ → Type 0) (f : (k x : ℕ) → C k x → D k x) (g : (k x : ℕ) → D k x → C k x) where
  pub needed_lift : (s : List ℕ) (x : ℕ) → NeededBy C s x → NeededBy D s x
  needed_lift s x n = record { sink = n.sink; there = n.there; inside = f n.sink x n.inside }

  needed_back : (s : List ℕ) (x : ℕ) → NeededBy D s x → NeededBy C s x
  needed_back s x n = record { sink = n.sink; there = n.there; inside = g n.sink x n.inside }

  pub counts_lift : (s : List ℕ) (n : ℕ) → Counts (NeededBy C s) n → Counts (NeededBy D s) n
  counts_lift s n h = counts_same (NeededBy C s) (NeededBy D s) n (needed_lift s) (needed_back s) h

  least_lift : (workers : ℕ) (earlier : List Placing) (q : Placing) → IsLeast C workers earlier q → IsLeast D workers earlier q
  least_lift workers earlier q h = record {
    cost = h.cost;
    counts = λ p lt. counts_lift (q.sink ∷ placed_in p earlier) (h.cost p) (h.counts p lt);
    within = h.within;
    least = h.least;
    lowest = h.lowest;
  }

  pub placed_lift : (count workers : ℕ) (placings : List Placing) → ArePlaced C count workers placings → ArePlaced D count workers placings
  placed_lift count workers placings h = record {
    size = h.size;
    sizes = λ k lt. counts_same (C k) (D k) (h.size k) (f k) (g k) (h.sizes k lt);
    only = h.only;
    all = h.all;
    in_order = h.in_order;
    choices = λ i q e. least_lift workers (take i placings) q (h.choices i q e);
  }

pub are_placed : (reads rows : List (List ℕ)) (count workers : ℕ) (sizes order : List ℕ) (placings : List Placing) (load : Load) → length sizes ≡ count
    → ((k : ℕ) → k < count → Counts (ConeAt reads rows k) (slice_index sizes k)) → AreRanked sizes 0 order → placed placings ≡ order → IsLoad reads rows workers placings load
    → ArePlaced (ConeAt reads rows) count workers placings
are_placed reads rows count workers sizes order placings load long counted ranked e h = record {
  size = slice_index sizes;
  sizes = counted;
  only = λ k c. omega (arith, long, (ranked.only k (subst (λ s. Contains s k) e c)).0);
  all = λ k lt. subst (λ s. Contains s k) (sym e) (ranked.all k (omega arith) (omega arith));
  in_order = λ i j less lt. subst (λ s. GoesFirst (slice_index sizes) (slice_index s i) (slice_index s j)) (sym e)
      (ranked.in_order i j less (omega (arith, lt, ap length e, length-map placings (λ (q : Placing). q.sink))));
  choices = h.choices;
}

-- what was placed where

pub record StoodIn (p : ℕ) (placings : List Placing) (k : ℕ) : Type 0 where
  pub at : ℕ
  pub it : Placing
  pub there : slice_get placings at ≡ Some it
  pub is_sink : it.sink ≡ k
  pub is_part : it.part ≡ p

stood_later : (p : ℕ) (q : Placing) (qs : List Placing) (k : ℕ) → StoodIn p qs k → StoodIn p (q ∷ qs) k
stood_later p q qs k h = record { at = suc h.at; it = h.it; there = h.there; is_sink = h.is_sink; is_part = h.is_part }

placed_cases : (p : ℕ) (q : Placing) (qs : List Placing) (b : Bool) → (q.part == p) ≡ b → (k : ℕ) → Contains (placed (cond b (q ∷ qs) qs)) k → ((q.sink ≡ k) × (q.part ≡ p)) ⊎ Contains (placed qs) k
placed_cases p q qs true e k c = ⊎_elim (λ same. inl (same, eqb-true q.part p e)) (λ r. inr r) (cons_cases q.sink (placed qs) k c)
placed_cases p q qs false e k c = inr c

pub placed_from : (p : ℕ) (placings : List Placing) (k : ℕ) → Contains (placed_in p placings) k → StoodIn p placings k
placed_from p [] k c = absurd (none_in k c)
placed_from p (q ∷ qs) k c = ⊎_elim
    (λ here. record { at = 0; it = q; there = refl; is_sink = here.0; is_part = here.1 })
    (λ r. stood_later p q qs k (placed_from p qs k r)) (placed_cases p q (filter (λ (z : Placing). z.part == p) qs) (q.part == p) refl k c)

placed_more : (q : Placing) (qs : List Placing) (b : Bool) (k : ℕ) → Contains (placed qs) k → Contains (placed (cond b (q ∷ qs) qs)) k
placed_more q qs true k c = later_in q.sink (placed qs) k c
placed_more q qs false k c = c

pub placed_to : (p : ℕ) (placings : List Placing) (i : ℕ) (it : Placing) → slice_get placings i ≡ Some it → it.part ≡ p → Contains (placed_in p placings) it.sink
placed_to p [] i it e is = absurd (omega (arith, slice_get_within [] i it e))
placed_to p (q ∷ qs) zero it e is =
    let same : q ≡ it = cc in
    let here : (q.part == p) ≡ true = eq-eqb q.part p (ap (λ (z : Placing). z.part) same ∙ is) in
    subst (λ b. Contains (placed (cond b (q ∷ filter (λ (z : Placing). z.part == p) qs) (filter (λ (z : Placing). z.part == p) qs))) it.sink) (sym here)
    (first_in q.sink (placed (filter (λ (z : Placing). z.part == p) qs)) it.sink (ap (λ (z : Placing). z.sink) same))
placed_to p (q ∷ qs) (suc i) it e is = placed_more q (filter (λ (z : Placing). z.part == p) qs) (q.part == p) it.sink (placed_to p qs i it e is)

-- the placing of a sink that was placed
pub placing_of : (placings : List Placing) (k : ℕ) → Contains (placed placings) k → (i : ℕ) × (it : Placing) × (slice_get placings i ≡ Some it) × (it.sink ≡ k)
placing_of [] k c = absurd (none_in k c)
placing_of (q ∷ qs) k c = ⊎_elim (λ e. (0, q, refl, e)) (λ r. let h = placing_of qs k r in (suc h.0, h.1, h.2, h.3)) (cons_cases q.sink (placed qs) k c)

-- partitions

module _ (net : Net) (watch sequence : List ℕ) (reads rows : List (List ℕ)) (workers : ℕ) (it : Holding)
    (er : reads ≡ read_rows net) (en : rows ≡ need_rows net (sinks net watch)) (order : IsOrder net sequence)
    (h : IsHeld reads rows workers it) (long : length it.owners.items ≡ length (sinks net watch)) (p : ℕ) (lt : p < workers) where
  same_count : length rows ≡ length (sinks net watch)
  same_count = sym h.sinks ∙ long

  here_from : (k : ℕ) → k < length (sinks net watch) → slice_index it.owners.items k ≡ p → Contains (placed_in p h.placings) k
  here_from k inside e =
      let q = placing_of h.placings k (h.are_placed.all k (omega (arith, same_count))) in
      subst (Contains (placed_in p h.placings)) q.3 (placed_to p h.placings q.0 q.1 q.2 (sym (h.owners q.0 q.1 q.2) ∙ (ap (slice_index it.owners.items) q.3 ∙ e)))

  here_to : (k : ℕ) → Contains (placed_in p h.placings) k → slice_index it.owners.items k ≡ p
  here_to k c = let s = placed_from p h.placings k c in ap (slice_index it.owners.items) (sym s.is_sink) ∙ (h.owners s.at s.it s.there ∙ s.is_part)

  was_placed : (k : ℕ) → Contains (placed_in p h.placings) k → k < length (sinks net watch)
  was_placed k c =
      let s = placed_from p h.placings k c in
      omega (
        arith,
        same_count,
        h.are_placed.only k (subst (Contains (placed h.placings)) (get_or-map (λ (q : Placing). q.sink) h.placings s.at s.it 0 (slice_get_within h.placings s.at s.it s.there) ∙ (ap (λ (q : Placing). q.sink) (get_or_from_slice_get h.placings s.at s.it s.it s.there) ∙ s.is_sink))
            (Contains-get_or (placed h.placings) s.at 0 (omega (arith, slice_get_within h.placings s.at s.it s.there, length-map h.placings (λ (q : Placing). q.sink))))),
      )

  sinks_to : (k : ℕ) → Contains (placed_in p h.placings) k → Contains (places_of it.owners.items p) k
  sinks_to k c = place_to it.owners.items p k (omega (arith, was_placed k c, long)) (here_to k c)

  sinks_from : (k : ℕ) → Contains (places_of it.owners.items p) k → Contains (placed_in p h.placings) k
  sinks_from k c = let f = place_from it.owners.items p k c in here_from k (omega (arith, f.0, long)) f.1

  in_sequence : (x : ℕ) → Contains sequence x → x < length reads
  in_sequence x c =
      let at = stood sequence x c in
      let a = subst (IsAssigned net.leaves) at.2 (order.only at.0 at.1) in
      omega (arith, assigned_within net.leaves x a, ap length er, read_rows_long net)

  needed_from : (x : ℕ) → Contains sequence x → holds it.masks.items p x ≡ true → NeededBy (InConeOf net watch) (places_of it.owners.items p) x
  needed_from x c e =
      let n = (h.held p x lt (in_sequence x c)).0 e in
      record { sink = n.sink; there = sinks_to n.sink n.there; inside = cone_from net watch reads rows er en n.sink x n.inside }

  needed_to : (x : ℕ) → x < length reads → NeededBy (InConeOf net watch) (places_of it.owners.items p) x → holds it.masks.items p x ≡ true
  needed_to x inside n = (h.held p x lt inside).1 (record { sink = n.sink; there = sinks_from n.sink n.there; inside = cone_to net watch reads rows er en n.sink x n.inside })

  all_there : (x : ℕ) → NeededBy (InConeOf net watch) (places_of it.owners.items p) x → Contains sequence x
  all_there x n = let at = order.all x (cone_assigned net n.inside.sink x n.inside.inside) in stands sequence x at.0 at.1 at.2

  pub is_part : IsPart net watch sequence (placed_in p h.placings) (part_by it.owners.items it.masks.items sequence p)
  is_part = record {
    of_sinks = record {
      test = λ k. slice_index it.owners.items k == p;
      tests = λ k c. (λ e. here_from k (in_range (length (sinks net watch)) k c) (eqb-true (slice_index it.owners.items k) p e), λ there. eq-eqb (slice_index it.owners.items k) p (here_to k there));
      same = ap (λ n. filter (λ k. slice_index it.owners.items k == p) (range_with_len 0 n)) long;
    };
    exactly = record {
      only = λ x c. let f = filter_from (holds it.masks.items p) sequence x c in needed_from x f.0 f.1;
      all = λ x n. filter_to (holds it.masks.items p) sequence x (all_there x n) (needed_to x (in_sequence x (all_there x n)) n);
      once = pairs_filter (λ a b. a ≢ b) (holds it.masks.items p) sequence order.once;
    };
    in_order = record {
      test = holds it.masks.items p;
      tests = λ x c. (needed_from x c, needed_to x (in_sequence x c));
      same = refl;
    };
  }

part_at : (owners masks sequence : List ℕ) (workers p : ℕ) (part : CutPart) → slice_get (parts_by owners masks sequence workers) p ≡ Some part → (p < workers) × (part_by owners masks sequence p ≡ part)
part_at owners masks sequence workers p part e =
    let f = part_by owners masks sequence in
    let long = length-map-range_with_len (part_by owners masks sequence) 0 workers in
    let lt : p < workers = omega (arith, slice_get_within (parts_by owners masks sequence workers) p part e, long) in
    let z : 0 + p ≡ p = omega arith in
    (lt, sym (get_or-map-range_with_len f 0 workers p p part lt z) ∙ get_or_from_slice_get (parts_by owners masks sequence workers) p part part e)

pub is_cut : (ordered : Ordered) (watch : List ℕ) (workers : ℕ) (it : Cut) (reads rows : List (List ℕ)) (holding : Holding)
    → reads ≡ read_rows ordered.net → rows ≡ need_rows ordered.net (sinks ordered.net watch) → IsOrder ordered.net ordered.sequence → IsHeld reads rows workers holding
    → it.parts ≡ parts_by holding.owners.items holding.masks.items ordered.sequence workers → Counts (NeededBy (ConeAt reads rows) (range_with_len 0 (length rows))) it.needed → IsCut ordered watch workers it
is_cut ordered watch workers it reads rows holding er en in_order h parts needed =
    let net = ordered.net in
    let count : length rows ≡ length (sinks ordered.net watch) = ap length en ∙ length-map (sinks ordered.net watch) (λ s. assignments_of ordered.net (needs ordered.net s)) in
    let to = cone_from net watch reads rows er en in
    let from = cone_to net watch reads rows er en in
    record {
      placings = h.placings;
      are_placed = subst (λ n. ArePlaced (InConeOf ordered.net watch) n workers h.placings) count
          (placed_lift (ConeAt reads rows) (InConeOf net watch) to from (length rows) workers h.placings h.are_placed);
      count = ap length parts ∙ length-map-range_with_len (part_by holding.owners.items holding.masks.items ordered.sequence) 0 workers;
      each = λ p part e.
          let at = part_at holding.owners.items holding.masks.items ordered.sequence workers p part (ap (λ s. slice_get s p) (sym parts) ∙ e) in
          subst (IsPart net watch ordered.sequence (placed_in p h.placings)) at.1 (is_part net watch ordered.sequence reads rows workers holding er en in_order h (h.sinks ∙ count) p at.0);
      all_needed = subst (λ n. Counts (NeededBy (InConeOf ordered.net watch) (range_with_len 0 n)) it.needed) count
          (counts_lift (ConeAt reads rows) (InConeOf net watch) to from (range_with_len 0 (length rows)) it.needed needed);
    }

-- rows in an order

module _ (net : Net) (watch sequence : List ℕ) (reads rows : List (List ℕ)) (er : reads ≡ read_rows net) (en : rows ≡ need_rows net (sinks net watch)) (o : IsOrder net sequence) where
  assigned_at : (k : ℕ) → k < length sequence → slice_index sequence k < length net.leaves
  assigned_at k lt = assigned_within net.leaves (slice_index sequence k) (o.only k lt)

  pub rows_in_order : IsRowOrder reads sequence
  rows_in_order = record {
    within = λ x c. let at = stood sequence x c in omega (arith, assigned_at at.0 at.1, at.2, ap length er, read_rows_long net);
    once = o.once;
    after = λ k w lt c.
        let x = slice_index sequence k in
        let f = filter_from (is_assignment net.leaves) (direct_reads net x) w (subst (λ r. Contains r w) (read_row net watch reads rows er en x (assigned_at k lt)) c) in
        o.after k w lt f.0 (assigned_is net.leaves w f.1);
  }

  pub needs_in_order : AreInOrder rows sequence
  needs_in_order k x c =
      let i = cone_from net watch reads rows er en k x (root c) in
      let at = o.all x (cone_assigned net i.sink x i.inside) in
      stands sequence x at.0 at.1 at.2

-- one more partition

pub parts_more : (owners masks sequence : List ℕ) (n : ℕ) (now parts : List CutPart) (s a : List ℕ) → now ≡ parts ++ (record { sinks = s; assignments = a }) ∷ [] → parts ≡ parts_by owners masks sequence n
    → s ≡ places_of owners n → a ≡ filter (holds masks n) sequence → now ≡ parts_by owners masks sequence (n + 1)
parts_more owners masks sequence n now parts s a e h here held =
    let part : List ℕ → List ℕ → CutPart = (λ x y. record { sinks = x; assignments = y }) in
    let is : part s a ≡ part_by owners masks sequence n = ap (λ x. part x a) here ∙ ap (part (places_of owners n)) held in
    let z : 0 + n ≡ n = omega arith in
    e ∙ (ap (λ l. l ++ part s a ∷ []) h ∙ (ap (λ q. parts_by owners masks sequence n ++ q ∷ []) is ∙ sym (map-range_with_len_more (part_by owners masks sequence) 0 n n z)))

pub places_small : (owners : List ℕ) (p most : ℕ) → length owners < most → All (λ place. place < most) (places_of owners p)
places_small owners p most lt k d inside =
    let f = place_from owners p _ (Contains-get_or (places_of owners p) k d inside) in
    omega (arith, f.0, lt)

pub sequence_within : (net : Net) (sequence : List ℕ) (n : ℕ) → IsOrder net sequence → n ≡ length net.leaves → All (λ x. x < n) sequence
sequence_within net sequence n order e k d lt =
    let a = order.only k lt in
    omega (arith, assigned_within net.leaves _ a, e, get_or_default sequence k d 0 lt)

pub placings_within : (placings : List Placing) (order : List ℕ) (n : ℕ) → placed placings ≡ order → ((k : ℕ) → Contains order k → k < n) → All (λ (q : Placing). q.sink < n) placings
placings_within placings order n e f k d lt =
    f _ (subst (λ s. Contains s (get_or placings k d).sink) e
    (stands (placed placings) _ k (omega (arith, lt, length-map placings (λ (q : Placing). q.sink))) (get_or-map (λ (q : Placing). q.sink) placings k d 0 lt)))

pub need_rows_long : (net : Net) (all : List Sink) → length (need_rows net all) ≡ length all
need_rows_long net all = length-map all (λ s. assignments_of net (needs net s))

pub placed_long : (placings : List Placing) → length (placed placings) ≡ length placings
placed_long placings = length-map placings (λ (q : Placing). q.sink)

-- what the placings leave

pub held_by_load : (reads rows : List (List ℕ)) (workers : ℕ) (sizes order : List ℕ) (placings : List Placing) (load : Load) (it : Holding) → length sizes ≡ length rows → AreSizes reads rows sizes → AreRanked sizes 0 order
    → placed placings ≡ order → IsLoad reads rows workers placings load → it.masks.items ≡ load.masks.items → length it.owners.items ≡ length rows
    → ((i : ℕ) (q : Placing) → slice_get placings i ≡ Some q → slice_index it.owners.items q.sink ≡ q.part) → IsHeld reads rows workers it
held_by_load reads rows workers sizes order placings load it long counted ranked same h masks owners_long own = record {
  placings = placings;
  are_placed = are_placed reads rows (length rows) workers sizes order placings load long (λ k lt. counted.sized k (omega (arith, long))) ranked same h;
  sinks = owners_long;
  leaves = ap length masks ∙ h.room.masks;
  owners = own;
  held = λ p x lt inside. (
    λ e. (h.held p x lt inside).0 (ap (λ s. holds s p x) (sym masks) ∙ e),
    λ n. ap (λ s. holds s p x) masks ∙ (h.held p x lt inside).1 n,
  );
}
