-- Cuts of small nets, checked by tests.
use Rattle.std.proofs.Common.{◌≡◌, ◌≢◌, ℕ, ◌+◌, ◌<◌, ◌≤◌, ◌==◌, ◌&&◌, ◌||◌, nat_lt, nat_le, Bool, true, false, not, List, [], ◌∷◌, length, map, take, slice_get, slice_index, Some, refl, sym, subst, ap, ◌∙◌, arith, ◌⊎◌, ⊎_elim, inl, inr}
use Rattle.std.specs.List.{filter, list_all, list_any, Contains, range_with_len}
use Rattle.std.proofs.lemmas.Bool.{eq-eqb, eqb-true}
use Rattle.std.proofs.lemmas.Bool.Decides.{nat_tests}
use Rattle.std.proofs.lemmas.List.{length-map}
use Rattle.std.proofs.lemmas.List.FromFn.{length-map-range_with_len, get_or-map-range_with_len}
use Rattle.std.proofs.lemmas.Option.{slice_get_within, get_or_from_slice_get}
use Rattle.ground_net.specs.declared.net.Net.{Net}
use Rattle.ground_net.specs.declared.net.Ordered.{Ordered}
use Rattle.ground_net.specs.declared.net.Cut.{Cut}
use Rattle.ground_net.specs.declared.net.CutPart.{CutPart}
use Rattle.ground_net.specs.Cones.{sinks}
use Rattle.cone_cutter.specs.declared.placing.Placing.{Placing}
use Rattle.cone_cutter.specs.Cuts.{Lists, NeededBy, placed, placed_in, GoesFirst, IsLeast, InConeOf, all_sinks, IsPart, IsCut}
use Rattle.cone_cutter.specs.Rows.{read_rows, need_rows, row_at, Met, root, next}
use Rattle.cone_cutter.proofs.Lists.{none_in, first_in, later_in, cons_cases, filter_from, filter_to, pairs_none, pairs_cons, to_range}
use Rattle.cone_cutter.proofs.Assembly.{cone_to, cone_from}

-- tests

and_first : (a b : Bool) → (a && b) ≡ true → a ≡ true
and_first true b e = refl
and_first false b e = cc

and_second : (a b : Bool) → (a && b) ≡ true → b ≡ true
and_second true b e = e
and_second false b e = cc

or_cases : (a b : Bool) → (a || b) ≡ true → (a ≡ true) ⊎ (b ≡ true)
or_cases true b e = inl refl
or_cases false b e = inr e

-- whether a number stands in a list
abbrev pub has : List ℕ → ℕ → Bool
has xs x = list_any (λ y. y == x) xs

any_cons : (p : ℕ → Bool) (y : ℕ) (ys : List ℕ) → list_any p (y ∷ ys) ≡ (p y || list_any p ys)
any_cons p y ys = refl

all_cons : (p : ℕ → Bool) (y : ℕ) (ys : List ℕ) → list_all p (y ∷ ys) ≡ (p y && list_all p ys)
all_cons p y ys = refl

pub any_at : (p : ℕ → Bool) (xs : List ℕ) → list_any p xs ≡ true → (x : ℕ) × Contains xs x × (p x ≡ true)
any_at p [] e = absurd (no e)
  where
    no : false ≡ true → ⊥
    no e = cc
any_at p (y ∷ ys) e = ⊎_elim (λ h. (y, first_in y ys y refl, h)) (λ r. let a = any_at p ys r in (a.0, later_in y ys a.0 a.1, a.2)) (or_cases (p y) (list_any p ys) (sym (any_cons p y ys) ∙ e))

pub all_at : (p : ℕ → Bool) (xs : List ℕ) → list_all p xs ≡ true → (x : ℕ) → Contains xs x → p x ≡ true
all_at p [] e x c = absurd (none_in x c)
all_at p (y ∷ ys) e x c =
    let both = sym (all_cons p y ys) ∙ e in
    ⊎_elim (λ q. subst (λ z. p z ≡ true) q (and_first (p y) (list_all p ys) both)) (λ r. all_at p ys (and_second (p y) (list_all p ys) both) x r) (cons_cases y ys x c)

pub has_from : (xs : List ℕ) (x : ℕ) → has xs x ≡ true → Contains xs x
has_from xs x e = let a = any_at (λ y. y == x) xs e in subst (Contains xs) (eqb-true a.0 x a.2) a.1

or_true : (a : Bool) → (a || true) ≡ true
or_true true = refl
or_true false = refl

pub has_to : (xs : List ℕ) (x : ℕ) → Contains xs x → has xs x ≡ true
has_to [] x c = absurd (none_in x c)
has_to (y ∷ ys) x c = any_cons (λ z. z == x) y ys ∙ ⊎_elim (λ q. ap (λ b. b || has ys x) (eq-eqb y x q)) (λ r. ap (λ b. (y == x) || b) (has_to ys x r) ∙ or_true (y == x)) (cons_cases y ys x c)

abbrev pub distinct : List ℕ → Bool
distinct [] = true
distinct (x ∷ xs) = not (has xs x) && distinct xs

not_both : (b : Bool) → not b ≡ true → b ≡ true → ⊥
not_both true n e = cc
not_both false n e = cc

pub distinct_once : (xs : List ℕ) → distinct xs ≡ true → (j k : ℕ) → j < k → k < length xs → slice_index xs j ≢ slice_index xs k
distinct_once [] e = pairs_none (λ a b. a ≢ b)
distinct_once (x ∷ xs) e = pairs_cons (λ a b. a ≢ b) x xs
    (λ y c same. not_both (has xs x) (and_first (not (has xs x)) (distinct xs) e) (has_to xs x (subst (Contains xs) (sym same) c)))
    (distinct_once xs (and_second (not (has xs x)) (distinct xs) e))

-- cones

abbrev pub reached : List (List ℕ) → List ℕ → List ℕ → List ℕ → Bool
reached reads roots [] seen = true
reached reads roots (x ∷ xs) seen = (has roots x || list_any (λ y. has (row_at reads y) x) seen) && reached reads roots xs (x ∷ seen)

abbrev pub cone_test : List (List ℕ) → List ℕ → List ℕ → Bool
cone_test reads roots c = distinct c && (list_all (has c) roots && (list_all (λ x. list_all (has c) (row_at reads x)) c && reached reads roots c []))

module _ (reads : List (List ℕ)) (roots : List ℕ) where
  all_reached : (xs seen : List ℕ) → ((y : ℕ) → Contains seen y → Met reads roots y) → reached reads roots xs seen ≡ true → (x : ℕ) → Contains xs x → Met reads roots x
  all_reached [] seen f e x c = absurd (none_in x c)
  all_reached (y ∷ ys) seen f e x c =
      let here : Met reads roots y = ⊎_elim (λ r. root (has_from roots y r)) (λ s. let a = any_at (λ z. has (row_at reads z) y) seen s in next (f a.0 a.1) (has_from (row_at reads a.0) y a.2))
      (or_cases (has roots y) (list_any (λ z. has (row_at reads z) y) seen) (and_first (has roots y || list_any (λ z. has (row_at reads z) y) seen) (reached reads roots ys (y ∷ seen)) e)) in
      ⊎_elim (λ q. subst (Met reads roots) q here)
      (λ r. all_reached ys (y ∷ seen) (λ z d. ⊎_elim (λ q. subst (Met reads roots) q here) (λ s. f z s) (cons_cases y seen z d))
      (and_second (has roots y || list_any (λ z. has (row_at reads z) y) seen) (reached reads roots ys (y ∷ seen)) e) x r) (cons_cases y ys x c)

  module _ (c : List ℕ) (roots_in : list_all (has c) roots ≡ true) (closed : list_all (λ x. list_all (has c) (row_at reads x)) c ≡ true) where
    all_met : (x : ℕ) → Met reads roots x → Contains c x
    all_met x (root d) = has_from c x (all_at (has c) roots roots_in x d)
    all_met x (next {x = y} m d) = has_from c x (all_at (has c) (row_at reads y) (all_at (λ z. list_all (has c) (row_at reads z)) c closed y (all_met y m)) x d)

  pub cone_listed : (c : List ℕ) → cone_test reads roots c ≡ true → Lists (Met reads roots) c
  cone_listed c e =
      let rest = and_second (distinct c) _ e in
      let roots_in = and_first (list_all (has c) roots) _ rest in
      let more = and_second (list_all (has c) roots) _ rest in
      let closed = and_first (list_all (λ x. list_all (has c) (row_at reads x)) c) _ more in
      record {
        only = all_reached c [] (λ y d. absurd (none_in y d)) (and_second (list_all (λ x. list_all (has c) (row_at reads x)) c) _ more);
        all = all_met c roots_in closed;
        once = distinct_once c (and_first (distinct c) _ e);
      }

-- unions

abbrev pub union_test : List (List ℕ) → List ℕ → List ℕ → Bool
union_test cones s u = distinct u && (list_all (λ k. nat_lt k (length cones) && list_all (has u) (row_at cones k)) s && list_all (λ x. list_any (λ k. has (row_at cones k) x) s) u)

below_from : (a b : ℕ) → nat_lt a b ≡ true → a < b
below_from a b e = grind (arith, nat_tests)

at_most_from : (a b : ℕ) → nat_le a b ≡ true → a ≤ b
at_most_from a b e = grind (arith, nat_tests)

module _ (C : ℕ → ℕ → Type 0) (cones : List (List ℕ)) (h : (k : ℕ) → k < length cones → Lists (C k) (row_at cones k)) where
  pub union_listed : (s u : List ℕ) → union_test cones s u ≡ true → Lists (NeededBy C s) u
  union_listed s u e =
      let rest = and_second (distinct u) _ e in
      let subsets = and_first (list_all (λ k. nat_lt k (length cones) && list_all (has u) (row_at cones k)) s) _ rest in
      let from = and_second (list_all (λ k. nat_lt k (length cones) && list_all (has u) (row_at cones k)) s) _ rest in
      let small = λ (k : ℕ) (c : Contains s k). below_from k (length cones) (and_first (nat_lt k (length cones)) _ (all_at (λ j. nat_lt j (length cones) && list_all (has u) (row_at cones j)) s subsets k c)) in
      record {
        only = λ x c. let a = any_at (λ k. has (row_at cones k) x) s (all_at (λ y. list_any (λ k. has (row_at cones k) y) s) u from x c) in
            record { sink = a.0; there = a.1; inside = (h a.0 (small a.0 a.1)).only x (has_from (row_at cones a.0) x a.2) };
        all = λ x n. has_from u x (all_at (has u) (row_at cones n.sink) (and_second (nat_lt n.sink (length cones)) _ (all_at (λ j. nat_lt j (length cones) && list_all (has u) (row_at cones j)) s subsets n.sink n.there)) x
            ((h n.sink (small n.sink n.there)).all x n.inside));
        once = distinct_once u (and_first (distinct u) _ e);
      }

  -- placings

  abbrev pub least_test : ℕ → List Placing → Placing → List (List ℕ) → Bool
  least_test workers earlier q unions =
      list_all (λ p. union_test cones (q.sink ∷ placed_in p earlier) (row_at unions p)) (range_with_len 0 workers)
      && (nat_lt q.part workers
      && (list_all (λ p. nat_le (length (row_at unions q.part)) (length (row_at unions p))) (range_with_len 0 workers)
      && list_all (λ p. nat_lt (length (row_at unions q.part)) (length (row_at unions p))) (range_with_len 0 q.part)))

  pub is_least : (workers : ℕ) (earlier : List Placing) (q : Placing) (unions : List (List ℕ)) → least_test workers earlier q unions ≡ true → IsLeast C workers earlier q
  is_least workers earlier q unions e =
      let t = λ (p : ℕ). union_test cones (q.sink ∷ placed_in p earlier) (row_at unions p) in
      let first = and_first (list_all (λ p. union_test cones (q.sink ∷ placed_in p earlier) (row_at unions p)) (range_with_len 0 workers)) _ e in
      let rest = and_second (list_all (λ p. union_test cones (q.sink ∷ placed_in p earlier) (row_at unions p)) (range_with_len 0 workers)) _ e in
      let more = and_second (nat_lt q.part workers) _ rest in
      let least_of = and_first (list_all (λ p. nat_le (length (row_at unions q.part)) (length (row_at unions p))) (range_with_len 0 workers)) _ more in
      let lowest_of = and_second (list_all (λ p. nat_le (length (row_at unions q.part)) (length (row_at unions p))) (range_with_len 0 workers)) _ more in
      record {
        cost = λ p. length (row_at unions p);
        counts = λ p lt. record { numbers = row_at unions p; listed = union_listed (q.sink ∷ placed_in p earlier) (row_at unions p) (all_at t (range_with_len 0 workers) first p (to_range workers p lt)); count = refl };
        within = below_from q.part workers (and_first (nat_lt q.part workers) _ rest);
        least = λ p lt. at_most_from _ _ (all_at (λ j. nat_le (length (row_at unions q.part)) (length (row_at unions j))) (range_with_len 0 workers) least_of p (to_range workers p lt));
        lowest = λ p lt. below_from _ _ (all_at (λ j. nat_lt (length (row_at unions q.part)) (length (row_at unions j))) (range_with_len 0 q.part) lowest_of p (to_range q.part p lt));
      }

-- the order of placings

abbrev pub goes_first : List (List ℕ) → ℕ → ℕ → Bool
goes_first cones a b = nat_lt (length (row_at cones b)) (length (row_at cones a)) || ((length (row_at cones a) == length (row_at cones b)) && nat_lt a b)

abbrev pub order_test : List (List ℕ) → List ℕ → Bool
order_test cones [] = true
order_test cones (x ∷ xs) = list_all (goes_first cones x) xs && order_test cones xs

in_order_from : (cones : List (List ℕ)) (s : List ℕ) → order_test cones s ≡ true → (i j : ℕ) → i < j → j < length s → GoesFirst (λ k. length (row_at cones k)) (slice_index s i) (slice_index s j)
in_order_from cones [] e = pairs_none (GoesFirst (λ k. length (row_at cones k)))
in_order_from cones (x ∷ xs) e = pairs_cons (GoesFirst (λ k. length (row_at cones k))) x xs
    (λ y c. ⊎_elim (λ bigger. inl (below_from _ _ bigger))
    (λ both. inr (eqb-true _ _ (and_first (length (row_at cones x) == length (row_at cones y)) (nat_lt x y) both), below_from x y (and_second (length (row_at cones x) == length (row_at cones y)) (nat_lt x y) both)))
    (or_cases (nat_lt (length (row_at cones y)) (length (row_at cones x))) _ (all_at (goes_first cones x) xs (and_first (list_all (goes_first cones x) xs) (order_test cones xs) e) y c)))
    (in_order_from cones xs (and_second (list_all (goes_first cones x) xs) (order_test cones xs) e))

-- the whole cut

-- the partitions of placings, with what each holds
abbrev pub part_of : Ordered → List ℕ → List Placing → List (List ℕ) → ℕ → CutPart
part_of ordered watch placings finals p = record { sinks = filter (has (placed_in p placings)) (all_sinks ordered.net watch); assignments = filter (has (row_at finals p)) ordered.sequence }

module _ (net : Net) (watch : List ℕ) (reads rows : List (List ℕ)) (er : reads ≡ read_rows net) (en : rows ≡ need_rows net (sinks net watch)) (cones : List (List ℕ))
    (t : list_all (λ k. cone_test reads (row_at rows k) (row_at cones k)) (range_with_len 0 (length cones)) ≡ true) where
  pub cones_listed : (k : ℕ) → k < length cones → Lists (InConeOf net watch k) (row_at cones k)
  cones_listed k lt =
      let l = cone_listed reads (row_at rows k) (row_at cones k) (all_at (λ j. cone_test reads (row_at rows j) (row_at cones j)) (range_with_len 0 (length cones)) t k (to_range (length cones) k lt)) in
      record {
        only = λ x c. cone_from net watch reads rows er en k x (l.only x c);
        all = λ x i. l.all x (cone_to net watch reads rows er en k x i);
        once = l.once;
      }

pub checked : (ordered : Ordered) (watch : List ℕ) (workers : ℕ) (it : Cut) (placings : List Placing) (cones finals : List (List ℕ)) (all : List ℕ)
    → ((k : ℕ) → k < length cones → Lists (InConeOf ordered.net watch k) (row_at cones k)) → length cones ≡ length (sinks ordered.net watch)
    → list_all (λ k. nat_lt k (length cones)) (placed placings) ≡ true → list_all (has (placed placings)) (range_with_len 0 (length cones)) ≡ true → order_test cones (placed placings) ≡ true
    → ((i : ℕ) (q : Placing) → slice_get placings i ≡ Some q → IsLeast (InConeOf ordered.net watch) workers (take i placings) q)
    → it.parts ≡ map (part_of ordered watch placings finals) (range_with_len 0 workers)
    → list_all (λ p. union_test cones (part_of ordered watch placings finals p).sinks (part_of ordered watch placings finals p).assignments) (range_with_len 0 workers) ≡ true
    → union_test cones (all_sinks ordered.net watch) all ≡ true → length all ≡ it.needed → IsCut ordered watch workers it
checked ordered watch workers it placings cones finals all listed count only every in_order choices parts unions whole needed =
    let net = ordered.net in
    let C = InConeOf ordered.net watch in
    let f = part_of ordered watch placings finals in
    record {
      placings = placings;
      are_placed = record {
        size = λ k. length (row_at cones k);
        sizes = λ k lt. record { numbers = row_at cones k; listed = listed k (omega (arith, lt, count)); count = refl };
        only = λ k c. let lt = below_from k (length cones) (all_at (λ j. nat_lt j (length cones)) (placed placings) only k c) in omega (arith, lt, count);
        all = λ k lt. has_from (placed placings) k (all_at (has (placed placings)) (range_with_len 0 (length cones)) every k (to_range (length cones) k (omega (arith, lt, count))));
        in_order = λ i j less lt. in_order_from cones (placed placings) in_order i j less (omega (arith, lt, length-map placings (λ (q : Placing). q.sink)));
        choices = choices;
      };
      count = ap length parts ∙ length-map-range_with_len f 0 workers;
      each = λ p part e.
          let there : slice_get (map (part_of ordered watch placings finals) (range_with_len 0 workers)) p ≡ Some part = ap (λ s. slice_get s p) (sym parts) ∙ e in
          let lt : p < workers = omega (arith, slice_get_within (map (part_of ordered watch placings finals) (range_with_len 0 workers)) p part there, length-map-range_with_len f 0 workers) in
          let z : 0 + p ≡ p = omega arith in
          let is : part_of ordered watch placings finals p ≡ part = sym (get_or-map-range_with_len f 0 workers p p part lt z) ∙ get_or_from_slice_get (map f (range_with_len 0 workers)) p part part there in
          subst (IsPart net watch ordered.sequence (placed_in p placings)) is (one_part p (all_at (λ j. union_test cones (part_of ordered watch placings finals j).sinks (part_of ordered watch placings finals j).assignments) (range_with_len 0 workers) unions p (to_range workers p lt)));
      all_needed = record { numbers = all; listed = union_listed C cones listed (all_sinks net watch) all whole; count = needed };
    }
  where
    one_part : (p : ℕ) → union_test cones (part_of ordered watch placings finals p).sinks (part_of ordered watch placings finals p).assignments ≡ true → IsPart ordered.net watch ordered.sequence (placed_in p placings) (part_of ordered watch placings finals p)
    one_part p t =
        let exact = union_listed (InConeOf ordered.net watch) cones listed (part_of ordered watch placings finals p).sinks (part_of ordered watch placings finals p).assignments t in
        record {
          of_sinks = record { test = has (placed_in p placings); tests = λ k c. (has_from (placed_in p placings) k, has_to (placed_in p placings) k); same = refl };
          exactly = exact;
          in_order = record {
            test = has (row_at finals p);
            tests = λ x c. (λ e. exact.only x (filter_to (has (row_at finals p)) ordered.sequence x c e), λ n. (filter_from (has (row_at finals p)) ordered.sequence x (exact.all x n)).1);
            same = refl;
          };
        }
