-- What a move of one sink makes of what the parts need, hold and cost.
use Rattle.std.proofs.Common.{◌≡◌, ◌≢◌, ℕ, ◌+◌, ◌-◌, ◌<◌, ◌==◌, ◌&&◌, Bool, true, not, IsTrue, List, ◌++◌, length, slice_index, slice_set, refl, sym, subst, ap, ◌∙◌, arith, ◌⊎◌, ⊎_elim, inl, inr, count_by}
use Rattle.std.specs.List.{filter, Contains}
use Rattle.std.proofs.lemmas.Bool.{cases_eq, eq-eqb, eqb-true, and_parts, and_from}
use Rattle.std.proofs.lemmas.List.{length-set}
use Rattle.std.proofs.lemmas.List.Sums.{length-filter}
use Rattle.std.proofs.lemmas.List.Elements.{Contains-append_left, Contains-append_right, Contains-append_cases}
use Rattle.std.proofs.Math.ListN.{length-append}
use Rattle.cone_cutter.specs.Cuts.{Lists, NeededBy}
use Rattle.cone_cutter.specs.Rows.{places_of}
use Rattle.cone_cutter.specs.Loads.{holds, shared_by}
use Rattle.cone_cutter.proofs.Lists.{set_here, set_there, filter_from, filter_to, pairs_append, pairs_filter, split, counts_same}
use Rattle.cone_cutter.proofs.KeyPlaces.{place_from, place_to}
use Rattle.cut_refine.specs.Examples.{among}
use Rattle.cut_refine.specs.Refining.{HasCost}
use Rattle.cut_refine.specs.Standing.{AreCounts, Loses, lone}
use Rattle.cut_refine.proofs.Unique.{lists_one}
use Rattle.cut_refine.proofs.Sets.{both_ways, cases_bool, not_true, among_to, among_from, in_list, single, second}

-- the sink of number s goes to the part t
module _ (cone : ℕ → ℕ → Type 0) (owners : List ℕ) (s t : ℕ) (inside : s < length owners) where
  stays : (q k : ℕ) → k ≢ s → Contains (places_of owners q) k → Contains (places_of (slice_set owners s t) q) k
  stays q k n c = let f = place_from owners q k c in place_to (slice_set owners s t) q k (omega (arith, f.0, length-set owners s t)) (set_there owners s t k n ∙ f.1)

  pub stayed : (q k : ℕ) → k ≢ s → Contains (places_of (slice_set owners s t) q) k → Contains (places_of owners q) k
  stayed q k n c = let f = place_from (slice_set owners s t) q k c in place_to owners q k (omega (arith, f.0, length-set owners s t)) (sym (set_there owners s t k n) ∙ f.1)

  arrives : Contains (places_of (slice_set owners s t) t) s
  arrives = place_to (slice_set owners s t) t s (omega (arith, inside, length-set owners s t)) (set_here owners s t s inside refl)

  left : (q : ℕ) → t ≢ q → Contains (places_of (slice_set owners s t) q) s → ⊥
  left q n c = let f = place_from (slice_set owners s t) q s c in n (sym (set_here owners s t s inside refl) ∙ f.1)

  pub not_sink : (q k : ℕ) → slice_index owners s ≢ q → Contains (places_of owners q) k → k ≢ s
  not_sink q k n c e = let f = place_from owners q k c in n (ap (slice_index owners) (sym e) ∙ f.1)

  pub not_moved : (q k : ℕ) → t ≢ q → Contains (places_of (slice_set owners s t) q) k → k ≢ s
  not_moved q k n c e = left q n (subst (Contains (places_of (slice_set owners s t) q)) e c)

  -- a part that it neither leaves nor enters
  pub aside_to : (q : ℕ) → slice_index owners s ≢ q → (x : ℕ) → NeededBy cone (places_of owners q) x → NeededBy cone (places_of (slice_set owners s t) q) x
  aside_to q n x h = record { sink = h.sink; there = stays q h.sink (not_sink q h.sink n h.there) h.there; inside = h.inside }

  pub aside_from : (q : ℕ) → t ≢ q → (x : ℕ) → NeededBy cone (places_of (slice_set owners s t) q) x → NeededBy cone (places_of owners q) x
  aside_from q n x h = record { sink = h.sink; there = stayed q h.sink (not_moved q h.sink n h.there) h.there; inside = h.inside }

  pub aside_cost : (q n : ℕ) → slice_index owners s ≢ q → t ≢ q → HasCost cone owners q n → HasCost cone (slice_set owners s t) q n
  aside_cost q n a b h = counts_same (NeededBy cone (places_of owners q)) (NeededBy cone (places_of (slice_set owners s t) q)) n (aside_to q a) (aside_from q b) h

  -- the part that it enters
  pub into_old : (x : ℕ) → NeededBy cone (places_of owners t) x → NeededBy cone (places_of (slice_set owners s t) t) x
  into_old x h = record {
    sink = h.sink;
    there = ⊎_elim (λ e. subst (Contains (places_of (slice_set owners s t) t)) (sym e) arrives) (λ n. stays t h.sink n h.there) (cases_eq h.sink s);
    inside = h.inside;
  }

  pub into_new : (x : ℕ) → cone s x → NeededBy cone (places_of (slice_set owners s t) t) x
  into_new x i = record { sink = s; there = arrives; inside = i }

  pub into_from : (x : ℕ) → NeededBy cone (places_of (slice_set owners s t) t) x → NeededBy cone (places_of owners t) x ⊎ cone s x
  into_from x h = ⊎_elim
      (λ e. inr (subst (λ k. cone k x) e h.inside))
      (λ n. inl (record { sink = h.sink; there = stayed t h.sink n h.there; inside = h.inside }))
      (cases_eq h.sink s)

  pub into_cost : (masks found : List ℕ) (n leaves : ℕ) → Lists (cone s) found → ((x : ℕ) → Contains found x → x < leaves)
      → ((x : ℕ) → x < leaves → (IsTrue (holds masks t x) → NeededBy cone (places_of owners t) x) × (NeededBy cone (places_of owners t) x → IsTrue (holds masks t x)))
      → HasCost cone owners t n → HasCost cone (slice_set owners s t) t (n + (length found - shared_by masks found t))
  into_cost masks found n leaves listed below held was =
      let test : ℕ → Bool = (λ x. not (holds masks t x)) in
      let rest = filter (λ x. not (holds masks t x)) found in
      let from_rest = λ (x : ℕ) (c : Contains (filter (λ y. not (holds masks t y)) found) x). filter_from test found x c in
      record {
        numbers = was.numbers ++ rest;
        listed = record {
          only = λ x c. ⊎_elim (λ o. into_old x (was.listed.only x o)) (λ r. into_new x (listed.only x (from_rest x r).0)) (Contains-append_cases was.numbers rest x c);
          all = λ x h. ⊎_elim
              (λ o. Contains-append_left was.numbers rest x (was.listed.all x o))
              (λ i. let c = listed.all x i in
              ⊎_elim
              (λ in_it. Contains-append_left was.numbers rest x (was.listed.all x ((held x (below x c)).0 in_it)))
              (λ out. Contains-append_right was.numbers rest x (filter_to test found x c (ap not out)))
              (cases_bool (holds masks t x)))
              (into_from x h);
          once = pairs_append (λ a b. a ≢ b) was.numbers rest was.listed.once (pairs_filter (λ a b. a ≢ b) test found listed.once)
              (λ x y c d e. let f = from_rest y d in
              both_ways (holds masks t y) ((held y (below y f.0)).1 (was.listed.only y (subst (Contains was.numbers) e c))) (not_true (holds masks t y) f.1));
        };
        count = length-append was.numbers rest ∙ omega (arith, was.count, split (holds masks t) found);
      }

  -- the part that it leaves
  module _ (p leaves : ℕ) (own : slice_index owners s ≡ p) (other : t ≢ p) (found counts : List ℕ) (listed : Lists (cone s) found) (below : (x : ℕ) → Contains found x → x < leaves)
      (are : AreCounts cone leaves (places_of owners p) counts) where
    stood_there : Contains (places_of owners p) s
    stood_there = place_to owners p s inside own

    alone : (x : ℕ) → Contains found x → slice_index counts x ≡ 1 → (k : ℕ) → Contains (places_of owners p) k → cone k x → k ≡ s
    alone x c one k there i =
        let h = are.each x (below x c) in
        single h.numbers k s (h.count ∙ one) (h.listed.all k (there, i)) (h.listed.all s (stood_there, listed.only x c))

    another : (x : ℕ) → Contains found x → slice_index counts x ≢ 1 → NeededBy cone (places_of (slice_set owners s t) p) x
    another x c n =
        let h = are.each x (below x c) in
        let o = second h.numbers s h.listed.once (λ e. n (sym h.count ∙ e)) (h.listed.all s (stood_there, listed.only x c)) in
        let needs = h.listed.only o.0 o.1 in
        record { sink = o.0; there = stays p o.0 o.2 needs.0; inside = needs.1 }

    pub out_to : (x : ℕ) → NeededBy cone (places_of owners p) x → (Contains found x → slice_index counts x ≢ 1) → NeededBy cone (places_of (slice_set owners s t) p) x
    out_to x h n = ⊎_elim
        (λ c. another x c (n c))
        (λ out. record { sink = h.sink; there = stays p h.sink (λ e. out (listed.all x (subst (λ k. cone k x) e h.inside))) h.there; inside = h.inside })
        (in_list found x)

    pub out_not : (x : ℕ) → NeededBy cone (places_of (slice_set owners s t) p) x → Contains found x → slice_index counts x ≡ 1 → ⊥
    out_not x h c one =
        let n = not_moved p h.sink other h.there in
        n (alone x c one h.sink (stayed p h.sink n h.there) h.inside)

    abbrev lone_at : ℕ → Bool
    lone_at = λ x. among found x && (slice_index counts x == 1)

    lone_from : (x : ℕ) → lone_at x ≡ true → Contains found x × (slice_index counts x ≡ 1)
    lone_from x e = let f = and_parts (among found x) (slice_index counts x == 1) e in (among_from found x f.0, eqb-true (slice_index counts x) 1 f.1)

    lone_to : (x : ℕ) → Contains found x → slice_index counts x ≡ 1 → lone_at x ≡ true
    lone_to x c e = and_from (among found x) (slice_index counts x == 1) (among_to found x c) (eq-eqb (slice_index counts x) 1 e)

    lone_count : (n : ℕ) (h : HasCost cone owners p n) → count_by lone_at h.numbers ≡ lone found counts
    lone_count n h =
        let one : ℕ → Bool = (λ x. slice_index counts x == 1) in
        sym (length-filter lone_at h.numbers)
        ∙ (lists_one (λ x. Contains found x × (slice_index counts x ≡ 1)) (filter lone_at h.numbers) (filter one found)
        (record {
          only = λ x c. lone_from x (filter_from lone_at h.numbers x c).1;
          all = λ x f. filter_to lone_at h.numbers x (h.listed.all x (record { sink = s; there = stood_there; inside = listed.only x f.0 })) (lone_to x f.0 f.1);
          once = pairs_filter (λ a b. a ≢ b) lone_at h.numbers h.listed.once;
        })
        (record {
          only = λ x c. let f = filter_from one found x c in (f.0, eqb-true (slice_index counts x) 1 f.1);
          all = λ x f. filter_to one found x f.0 (eq-eqb (slice_index counts x) 1 f.1);
          once = pairs_filter (λ a b. a ≢ b) one found listed.once;
        })
        ∙ length-filter one found)

    pub out_cost : (n : ℕ) → HasCost cone owners p n → HasCost cone (slice_set owners s t) p (n - lone found counts)
    out_cost n h =
        let test : ℕ → Bool = (λ x. not (lone_at x)) in
        record {
          numbers = filter test h.numbers;
          listed = record {
            only = λ x c. let f = filter_from test h.numbers x c in out_to x (h.listed.only x f.0) (λ d e. both_ways (lone_at x) (lone_to x d e) (not_true (lone_at x) f.1));
            all = λ x m. filter_to test h.numbers x (h.listed.all x (aside_from p other x m))
                (⊎_elim (λ in_it. let f = lone_from x in_it in absurd (out_not x m f.0 f.1)) (λ out. ap not out) (cases_bool (lone_at x)));
            once = pairs_filter (λ a b. a ≢ b) test h.numbers h.listed.once;
          };
          count = omega (arith, split lone_at h.numbers, lone_count n h, h.count);
        }

    -- what it holds then
    pub out_held : (old new : List ℕ) → Loses p found counts old new → (x : ℕ) → (IsTrue (holds old p x) → NeededBy cone (places_of owners p) x) × (NeededBy cone (places_of owners p) x → IsTrue (holds old p x))
        → (IsTrue (holds new p x) → NeededBy cone (places_of (slice_set owners s t) p) x) × (NeededBy cone (places_of (slice_set owners s t) p) x → IsTrue (holds new p x))
    out_held old new h x held = (to, from)
      where
        stayed_there : (Contains found x → slice_index counts x ≢ 1) → holds new p x ≡ holds old p x
        stayed_there n = h.kept x n

        to : IsTrue (holds new p x) → NeededBy cone (places_of (slice_set owners s t) p) x
        to e =
            let n : Contains found x → slice_index counts x ≢ 1 = (λ c one. both_ways (holds new p x) e (h.lost x c one)) in
            out_to x (held.0 (sym (stayed_there n) ∙ e)) n

        from : NeededBy cone (places_of (slice_set owners s t) p) x → IsTrue (holds new p x)
        from m = stayed_there (out_not x m) ∙ held.1 (aside_from p other x m)
