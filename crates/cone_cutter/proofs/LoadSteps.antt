-- What the partitions hold, step by step.
use Rattle.std.proofs.Common.{◌≡◌, ◌≢◌, ℕ, ◌+◌, ◌-◌, ◌^◌, ◌<◌, ◌≤◌, ◌==◌, Bool, true, false, not, cond, IsTrue, List, [], ◌∷◌, ◌++◌, length, take, drop, Vec, Global, slice_get, slice_index, slice_set, Some, refl, sym, subst, ap, ◌∙◌, arith, ◌⊎◌, ⊎_elim, inl, inr}
use Rattle.std.specs.List.{filter, Contains}
use Rattle.std.specs.Vec.{with_items}
use Rattle.std.proofs.lemmas.Bool.{cases_eq, cases_lt, eq-eqb}
use Rattle.std.proofs.lemmas.List.{length-set, length_push, get_or-map, map-append, append-nil, get_or_append_left, get_or_push, take-append-le, take_at}
use Rattle.std.proofs.lemmas.List.Elements.{Contains-append_left, Contains-append_right, Contains-append_cases, Contains-push, Contains-push_cases, filter-append}
use Rattle.std.proofs.lemmas.Option.{slice_get_within, slice_get-get_or, get_or_from_slice_get}
use Rattle.std.proofs.lemmas.Nat.Bits.{bit_at-zero}
use Rattle.std.proofs.Math.ListN.{length-append}
use Rattle.cone_cutter.specs.declared.placing.Placing.{Placing}
use Rattle.cone_cutter.specs.declared.loads.Load.{Load}
use Rattle.cone_cutter.specs.Cuts.{Lists, Counts, NeededBy, IsLeast, placed, placed_in}
use Rattle.cone_cutter.specs.Rows.{row_at, Met, ConeAt}
use Rattle.cone_cutter.specs.Loads.{has_bit, holds, shared_by, cost_with, IsCheapest, Gets, Takes, HasRoom, IsLoad}
use Rattle.cone_cutter.proofs.Lists.{set_here, set_there, none_in, first_in, later_in, cons_cases, filter_from, filter_to, pairs_append, pairs_filter, split, counts_same, counts_none}
use Rattle.cone_cutter.proofs.KeyPlaces.{eqb_not}

-- one more leaf is given

module _ (part : ℕ) (cone old new : List ℕ) (x mask : ℕ) (h : Gets part cone old new) (lt : x < length new) (same : has_bit mask part ≡ true) (others_stay : (p : ℕ) → p ≢ part → has_bit mask p ≡ has_bit (slice_index new x) p) where
  here : (p y : ℕ) → y ≡ x → holds (slice_set new x mask) p y ≡ has_bit mask p
  here p y e = ap (λ m. has_bit m p) (set_here new x mask y lt e)

  there : (p y : ℕ) → y ≢ x → holds (slice_set new x mask) p y ≡ holds new p y
  there p y n = ap (λ m. has_bit m p) (set_there new x mask y n)

  keeps : (y : ℕ) → holds new part y ≡ true → holds (slice_set new x mask) part y ≡ true
  keeps y e = ⊎_elim (λ q. here part y q ∙ same) (λ n. there part y n ∙ e) (cases_eq y x)

  pub gets_more : Gets part (cone ++ x ∷ []) old (slice_set new x mask)
  gets_more = record {
    long = length-set new x mask ∙ h.long;
    got = λ y c. ⊎_elim (λ o. keeps y (h.got y o)) (λ e. here part y (sym e) ∙ same) (Contains-push_cases cone x y c);
    kept = λ y e. keeps y (h.kept y e);
    only = λ y e. ⊎_elim (λ q. inl (subst (Contains (cone ++ x ∷ [])) (sym q) (Contains-push cone x)))
        (λ n. ⊎_elim (λ c. inl (Contains-append_left cone (x ∷ []) y c)) (λ o. inr o) (h.only y (sym (there part y n) ∙ e))) (cases_eq y x);
    others = λ p y n. ⊎_elim (λ q. here p y q ∙ (others_stay p n ∙ (ap (λ z. holds new p z) (sym q) ∙ h.others p y n))) (λ d. there p y d ∙ h.others p y n) (cases_eq y x);
  }

-- a cone is taken

pub refilled : (v : Vec ℕ Global) (ws : List ℕ) → length ws ≡ length v.items → (with_items v ws).items ≡ ws
refilled v ws e = take_at ws (drop (length ws) v.items) v.len (omega (arith, v.ok.0))

pub takes : (cone : List ℕ) (old new : Load) (masks shared : List ℕ) (part : ℕ) → length new.shared.items ≡ length old.shared.items
    → ((p : ℕ) → p < length old.costs.items → slice_index shared p ≡ shared_by old.masks.items cone p)
    → IsCheapest (λ p. slice_index old.costs.items p + (length cone - slice_index shared p)) (length old.costs.items) part
    → new.masks.items ≡ masks → Gets part cone old.masks.items masks
    → new.costs.items ≡ slice_set old.costs.items part (slice_index old.costs.items part + (length cone - slice_index shared part)) → Takes cone old new part
takes cone old new masks shared part room are cheapest m got e =
    let cost = λ (p : ℕ) (lt : p < length old.costs.items). let same : slice_index old.costs.items p + (length cone - slice_index shared p) ≡ cost_with old.masks.items old.costs.items cone p =
    ap (λ n. slice_index old.costs.items p + (length cone - n)) (are p lt) in same in
    record {
      cheapest = record {
        within = cheapest.within;
        least = λ p lt. omega (arith, cheapest.least p lt, cost p lt, cost part cheapest.within);
        lowest = λ p lt. omega (arith, cheapest.lowest p lt, cost p (omega (arith, cheapest.within)), cost part cheapest.within);
      };
      masks = subst (Gets part cone old.masks.items) (sym m) got;
      costs = e ∙ ap (slice_set old.costs.items part) (cost part cheapest.within);
      room = room;
    }

-- placings

pub placed_push : (placings : List Placing) (q : Placing) → placed (placings ++ q ∷ []) ≡ placed placings ++ q.sink ∷ []
placed_push placings q = map-append (λ p. p.sink) placings (q ∷ [])

here_of : (p : ℕ) (q : Placing) (b : Bool) → placed (cond b (q ∷ []) []) ≡ cond b (q.sink ∷ []) []
here_of p q true = refl
here_of p q false = refl

pub placed_in_push : (p : ℕ) (placings : List Placing) (q : Placing) → placed_in p (placings ++ q ∷ []) ≡ placed_in p placings ++ cond (q.part == p) (q.sink ∷ []) []
placed_in_push p placings q =
    ap placed (filter-append (λ (z : Placing). z.part == p) placings (q ∷ []))
    ∙ (map-append (λ (z : Placing). z.sink) (filter (λ (z : Placing). z.part == p) placings) (cond (q.part == p) (q ∷ []) [])
    ∙ ap (λ l. placed_in p placings ++ l) (here_of p q (q.part == p)))

pub placed_here : (p : ℕ) (placings : List Placing) (q : Placing) → q.part ≡ p → placed_in p (placings ++ q ∷ []) ≡ placed_in p placings ++ q.sink ∷ []
placed_here p placings q e = placed_in_push p placings q ∙ ap (λ b. placed_in p placings ++ cond b (q.sink ∷ []) []) (eq-eqb q.part p e)

pub placed_elsewhere : (p : ℕ) (placings : List Placing) (q : Placing) → q.part ≢ p → placed_in p (placings ++ q ∷ []) ≡ placed_in p placings
placed_elsewhere p placings q n = placed_in_push p placings q ∙ (ap (λ b. placed_in p placings ++ cond b (q.sink ∷ []) []) (eqb_not q.part p n) ∙ append-nil (placed_in p placings))

-- owners

pub owners_more : (placings : List Placing) (table : List ℕ) (n : ℕ) (q : Placing) → slice_get placings n ≡ Some q → q.sink < length table
    → ((i j : ℕ) → i < j → j < length placings → slice_index (placed placings) i ≢ slice_index (placed placings) j)
    → ((i : ℕ) (it : Placing) → i < n → slice_get placings i ≡ Some it → slice_index table it.sink ≡ it.part)
    → (i : ℕ) (it : Placing) → i < n + 1 → slice_get placings i ≡ Some it → slice_index (slice_set table q.sink q.part) it.sink ≡ it.part
owners_more placings table n q there inside once h i it lt e = ⊎_elim
    (λ less. set_there table q.sink q.part it.sink (λ same. once i n less (slice_get_within placings n q there) (sink_at i it e ∙ (same ∙ sym (sink_at n q there)))) ∙ h i it less e)
    (λ past. let last : i ≡ n = omega arith in
    let is : it ≡ q = one_of it q (sym e ∙ (ap (slice_get placings) last ∙ there)) in
    set_here table q.sink q.part it.sink inside (ap (λ (z : Placing). z.sink) is) ∙ ap (λ (z : Placing). z.part) (sym is))
    (cases_lt i n)
  where
    one_of : (a b : Placing) → Some a ≡ Some b → a ≡ b
    one_of a b e = cc

    sink_at : (i : ℕ) (it : Placing) → slice_get placings i ≡ Some it → slice_index (placed placings) i ≡ it.sink
    sink_at i it e = get_or-map (λ (z : Placing). z.sink) placings i it 0 (slice_get_within placings i it e) ∙ ap (λ (z : Placing). z.sink) (get_or_from_slice_get placings i it it e)

-- needs of more sinks

pub needed_more : (cone : ℕ → ℕ → Type 0) (some all : List ℕ) → ((k : ℕ) → Contains some k → Contains all k) → (x : ℕ) → NeededBy cone some x → NeededBy cone all x
needed_more cone some all f x h = record { sink = h.sink; there = f h.sink h.there; inside = h.inside }

pub front_to_end : (xs : List ℕ) (k x : ℕ) → Contains (k ∷ xs) x → Contains (xs ++ k ∷ []) x
front_to_end xs k x c = ⊎_elim (λ e. subst (Contains (xs ++ k ∷ [])) e (Contains-push xs k)) (λ r. Contains-append_left xs (k ∷ []) x r) (cons_cases k xs x c)

pub end_to_front : (xs : List ℕ) (k x : ℕ) → Contains (xs ++ k ∷ []) x → Contains (k ∷ xs) x
end_to_front xs k x c = ⊎_elim (λ o. later_in k xs x o) (λ e. first_in k xs x e) (Contains-push_cases xs k x c)

-- a test or its contrary
cases_bool : (b : Bool) → (b ≡ true) ⊎ (b ≡ false)
cases_bool true = inl refl
cases_bool false = inr refl

not_true : (b : Bool) → b ≡ true → not b ≡ true → ⊥
not_true true e n = cc
not_true false e n = cc

module _ (reads needed : List (List ℕ)) (workers : ℕ) (placings : List Placing) (old new : Load) (sink part : ℕ) (found : List ℕ)
    (h : IsLoad reads needed workers placings old) (listed : Lists (Met reads (row_at needed sink)) found) (inside : (x : ℕ) → Contains found x → x < length reads) (t : Takes found old new part)
    (few : length found ≤ 2 ^ 32) where
  held : (p x : ℕ) → p < workers → x < length reads → holds old.masks.items p x ≡ true → NeededBy (ConeAt reads needed) (placed_in p placings) x
  held p x lt in_reads e = (h.held p x lt in_reads).0 e

  holding : (p x : ℕ) → p < workers → x < length reads → NeededBy (ConeAt reads needed) (placed_in p placings) x → holds old.masks.items p x ≡ true
  holding p x lt in_reads n = (h.held p x lt in_reads).1 n

  -- the number that a partition would have
  pub would_cost : (p : ℕ) → p < workers → Counts (NeededBy (ConeAt reads needed) (sink ∷ placed_in p placings)) (cost_with old.masks.items old.costs.items found p)
  would_cost p lt =
      let was = h.counts p lt in
      let test : ℕ → Bool = (λ x. not (holds old.masks.items p x)) in
      let rest = filter (λ x. not (holds old.masks.items p x)) found in
      let from_rest = λ (x : ℕ) (c : Contains (filter (λ y. not (holds old.masks.items p y)) found) x). filter_from test found x c in
      record {
        numbers = was.numbers ++ rest;
        listed = record {
          only = λ x c. ⊎_elim (λ o. needed_more (ConeAt reads needed) (placed_in p placings) (sink ∷ placed_in p placings) (later_in sink (placed_in p placings)) x (was.listed.only x o))
              (λ n. record { sink = sink; there = first_in sink (placed_in p placings) sink refl; inside = listed.only x (from_rest x n).0 })
              (Contains-append_cases was.numbers rest x c);
          all = λ x n. ⊎_elim
              (λ e. let c = listed.all x (subst (λ k. ConeAt reads needed k x) (sym e) n.inside) in
              ⊎_elim (λ yes. Contains-append_left was.numbers rest x (was.listed.all x (held p x lt (inside x c) yes)))
              (λ no. Contains-append_right was.numbers rest x (filter_to test found x c (ap not no))) (cases_bool (holds old.masks.items p x)))
              (λ o. Contains-append_left was.numbers rest x (was.listed.all x (record { sink = n.sink; there = o; inside = n.inside })))
              (cons_cases sink (placed_in p placings) n.sink n.there);
          once = pairs_append (λ a b. a ≢ b) was.numbers rest was.listed.once (pairs_filter (λ a b. a ≢ b) test found listed.once)
              (λ x y c d e. let f = from_rest y d in
              not_true _ (holding p y lt (inside y f.0) (was.listed.only y (subst (Contains was.numbers) e c))) f.1);
        };
        count = length-append was.numbers rest ∙ omega (arith, was.count, split (holds old.masks.items p) found);
      }

  part_inside : part < workers
  part_inside = omega (arith, t.cheapest.within, h.room.costs)

  here_now : (p : ℕ) → p ≡ part → placed_in p (placings ++ (record { sink = sink; part = part }) ∷ []) ≡ placed_in p placings ++ sink ∷ []
  here_now p e = placed_here p placings (record { sink = sink; part = part }) (sym e)

  elsewhere_now : (p : ℕ) → p ≢ part → placed_in p (placings ++ (record { sink = sink; part = part }) ∷ []) ≡ placed_in p placings
  elsewhere_now p n = placed_elsewhere p placings (record { sink = sink; part = part }) (λ e. n (sym e))

  held_now : (p x : ℕ) → p < workers → x < length reads → holds new.masks.items p x ≡ true → NeededBy (ConeAt reads needed) (placed_in p (placings ++ (record { sink = sink; part = part }) ∷ [])) x
  held_now p x lt in_reads e = ⊎_elim
      (λ q. subst (λ s. NeededBy (ConeAt reads needed) s x) (sym (here_now p q))
      (⊎_elim (λ c. record { sink = sink; there = Contains-push (placed_in p placings) sink; inside = listed.only x c })
      (λ o. needed_more (ConeAt reads needed) (placed_in p placings) (placed_in p placings ++ sink ∷ []) (Contains-append_left (placed_in p placings) (sink ∷ [])) x
      (held p x lt in_reads (ap (λ z. holds old.masks.items z x) q ∙ o)))
      (t.masks.only x (ap (λ z. holds new.masks.items z x) (sym q) ∙ e))))
      (λ n. subst (λ s. NeededBy (ConeAt reads needed) s x) (sym (elsewhere_now p n)) (held p x lt in_reads (sym (t.masks.others p x n) ∙ e)))
      (cases_eq p part)

  holding_now : (p x : ℕ) → p < workers → x < length reads → NeededBy (ConeAt reads needed) (placed_in p (placings ++ (record { sink = sink; part = part }) ∷ [])) x → holds new.masks.items p x ≡ true
  holding_now p x lt in_reads n = ⊎_elim
      (λ q. let m = subst (λ s. NeededBy (ConeAt reads needed) s x) (here_now p q) n in
      ap (λ z. holds new.masks.items z x) q
      ∙ ⊎_elim (λ o. t.masks.kept x (ap (λ z. holds old.masks.items z x) (sym q) ∙ holding p x lt in_reads (record { sink = m.sink; there = o; inside = m.inside })))
      (λ e. t.masks.got x (listed.all x (subst (λ k. ConeAt reads needed k x) (sym e) m.inside)))
      (Contains-push_cases (placed_in p placings) sink m.sink m.there))
      (λ d. t.masks.others p x d ∙ holding p x lt in_reads (subst (λ s. NeededBy (ConeAt reads needed) s x) (elsewhere_now p d) n))
      (cases_eq p part)

  cost_here : (p : ℕ) → p ≡ part → slice_index new.costs.items p ≡ cost_with old.masks.items old.costs.items found p
  cost_here p q = ap (λ s. slice_index s p) t.costs ∙ (set_here old.costs.items part (cost_with old.masks.items old.costs.items found part) p t.cheapest.within q
      ∙ ap (cost_with old.masks.items old.costs.items found) (sym q))

  cost_there : (p : ℕ) → p ≢ part → slice_index new.costs.items p ≡ slice_index old.costs.items p
  cost_there p n = ap (λ s. slice_index s p) t.costs ∙ set_there old.costs.items part (cost_with old.masks.items old.costs.items found part) p n

  counts_now : (p : ℕ) → p < workers → Counts (NeededBy (ConeAt reads needed) (placed_in p (placings ++ (record { sink = sink; part = part }) ∷ []))) (slice_index new.costs.items p)
  counts_now p lt = ⊎_elim
      (λ q. subst (Counts (NeededBy (ConeAt reads needed) (placed_in p (placings ++ (record { sink = sink; part = part }) ∷ [])))) (sym (cost_here p q))
      (subst (λ s. Counts (NeededBy (ConeAt reads needed) s) (cost_with old.masks.items old.costs.items found p)) (sym (here_now p q))
      (counts_same (NeededBy (ConeAt reads needed) (sink ∷ placed_in p placings)) (NeededBy (ConeAt reads needed) (placed_in p placings ++ sink ∷ [])) _
      (needed_more (ConeAt reads needed) (sink ∷ placed_in p placings) (placed_in p placings ++ sink ∷ []) (front_to_end (placed_in p placings) sink))
      (needed_more (ConeAt reads needed) (placed_in p placings ++ sink ∷ []) (sink ∷ placed_in p placings) (end_to_front (placed_in p placings) sink))
      (would_cost p lt))))
      (λ n. subst (Counts (NeededBy (ConeAt reads needed) (placed_in p (placings ++ (record { sink = sink; part = part }) ∷ [])))) (sym (cost_there p n))
      (subst (λ s. Counts (NeededBy (ConeAt reads needed) s) (slice_index old.costs.items p)) (sym (elsewhere_now p n)) (h.counts p lt)))
      (cases_eq p part)

  is_least : IsLeast (ConeAt reads needed) workers placings (record { sink = sink; part = part })
  is_least = record {
    cost = cost_with old.masks.items old.costs.items found;
    counts = would_cost;
    within = part_inside;
    least = λ p lt. t.cheapest.least p (omega (arith, lt, h.room.costs));
    lowest = t.cheapest.lowest;
  }

  one_of : (a b : Placing) → Some a ≡ Some b → a ≡ b
  one_of a b e = cc

  choices_now : (i : ℕ) (next : Placing) → slice_get (placings ++ (record { sink = sink; part = part }) ∷ []) i ≡ Some next
      → IsLeast (ConeAt reads needed) workers (take i (placings ++ (record { sink = sink; part = part }) ∷ [])) next
  choices_now i next e =
      let all = placings ++ (record { sink = sink; part = part }) ∷ [] in
      let lt = slice_get_within all i next e in
      ⊎_elim
      (λ less. subst (λ s. IsLeast (ConeAt reads needed) workers s next) (sym (take-append-le i placings ((record { sink = sink; part = part }) ∷ []) (omega arith)))
      (h.choices i next (slice_get-get_or placings i next less ∙ ap Some (sym (get_or_append_left placings ((record { sink = sink; part = part }) ∷ []) next i less) ∙ get_or_from_slice_get all i next next e))))
      (λ past. let last : length placings ≡ i = omega (arith, length_push placings (record { sink = sink; part = part }), lt) in
      let is : (record { sink = sink; part = part }) ≡ next = sym (get_or_push placings (record { sink = sink; part = part }) next i last) ∙ get_or_from_slice_get all i next next e in
      subst (λ s. IsLeast (ConeAt reads needed) workers s next) (sym (take_at placings ((record { sink = sink; part = part }) ∷ []) i last)) (subst (IsLeast (ConeAt reads needed) workers placings) is is_least))
      (cases_lt i (length placings))

  pub load_more : IsLoad reads needed workers (placings ++ (record { sink = sink; part = part }) ∷ []) new
  load_more = record {
    room = record { masks = t.masks.long ∙ h.room.masks; costs = ap length t.costs ∙ (length-set old.costs.items part _ ∙ h.room.costs); shared = t.room ∙ h.room.shared };
    held = λ p x lt in_reads. (held_now p x lt in_reads, holding_now p x lt in_reads);
    counts = counts_now;
    small = λ p. let more = length_push placings (record { sink = sink; part = part }) in
        ⊎_elim (λ q. omega (arith, cost_here p q, h.small p, few, more)) (λ n. omega (arith, cost_there p n, h.small p, more)) (cases_eq p part);
    choices = choices_now;
  }

pub load_begins : (reads needed : List (List ℕ)) (workers : ℕ) (placings : List Placing) (load : Load) → placings ≡ [] → HasRoom (length reads) workers load → ((x : ℕ) → slice_index load.masks.items x ≡ 0)
    → ((p : ℕ) → slice_index load.costs.items p ≡ 0) → IsLoad reads needed workers placings load
load_begins reads needed workers placings load e room masks costs =
    let empty = λ (p x : ℕ) (n : NeededBy (ConeAt reads needed) (placed_in p placings) x). none_in n.sink (subst (λ s. Contains (placed_in p s) n.sink) e n.there) in
    record {
      room = room;
      held = λ p x lt in_reads. (λ e. absurd (zero_holds p x e), λ n. absurd (empty p x n));
      counts = λ p lt. subst (Counts (NeededBy (ConeAt reads needed) (placed_in p placings))) (sym (costs p)) (counts_none (NeededBy (ConeAt reads needed) (placed_in p placings)) (empty p));
      small = λ p. omega (arith, costs p);
      choices = λ i next is. absurd (omega (arith, slice_get_within placings i next is, ap length e));
    }
  where
    true_false : true ≡ false → ⊥
    true_false e = cc

    zero_holds : (p x : ℕ) → IsTrue (holds load.masks.items p x) → ⊥
    zero_holds p x e = let no : holds load.masks.items p x ≡ false = ap (λ m. has_bit m p) (masks x) ∙ ap (λ b. b == 1) (bit_at-zero p) in true_false (sym e ∙ no)

-- bits

pub smaller_without : (a b p : ℕ) → a ≤ b → has_bit a p ≡ false → has_bit b p ≡ true → a < b
smaller_without a b p le lacks has = ⊎_elim (λ lt. lt) (λ ge. let e : a ≡ b = omega arith in absurd (differ (sym has ∙ (ap (λ m. has_bit m p) (sym e) ∙ lacks)))) (cases_lt a b)
  where
    differ : true ≡ false → ⊥
    differ e = cc

-- What is counted and what is left to count: the bits of the mask.
abbrev pub CountsBits : ℕ → List ℕ → ℕ → List ℕ → ℕ → Type 0
CountsBits weight old mask now rest = (p : ℕ) → p < length now → slice_index now p + cond {A = ℕ} (has_bit rest p) weight 0 ≡ slice_index old p + cond {A = ℕ} (has_bit mask p) weight 0

pub bit_counted : (weight : ℕ) (old : List ℕ) (mask : ℕ) (now : List ℕ) (rest part left : ℕ) → CountsBits weight old mask now rest → part < length now → length now ≤ 64 → has_bit rest part ≡ true → has_bit left part ≡ false
    → ((p : ℕ) → p < 64 → p ≢ part → has_bit left p ≡ has_bit rest p) → CountsBits weight old mask (slice_set now part (slice_index now part + weight)) left
bit_counted weight old mask now rest part left h lt few has lacks others p in_now =
    let long = length-set now part (slice_index now part + weight) in
    let was = h p (omega (arith, in_now, long)) in
    ⊎_elim
    (λ e. let here = set_here now part (slice_index now part + weight) p lt e in
    let one : cond {A = ℕ} (has_bit rest p) weight 0 ≡ weight = ap (λ b. cond {A = ℕ} b weight 0) (ap (has_bit rest) e ∙ has) in
    let none : cond {A = ℕ} (has_bit left p) weight 0 ≡ 0 = ap (λ b. cond {A = ℕ} b weight 0) (ap (has_bit left) e ∙ lacks) in
    omega (arith, here, one, none, was, ap (slice_index now) e))
    (λ n. let there = set_there now part (slice_index now part + weight) p n in
    let same : cond {A = ℕ} (has_bit left p) weight 0 ≡ cond {A = ℕ} (has_bit rest p) weight 0 = ap (λ b. cond {A = ℕ} b weight 0) (others p (omega (arith, in_now, long)) n) in
    omega (arith, there, same, was)) (cases_eq p part)

pub bit_past : (weight : ℕ) (old : List ℕ) (mask : ℕ) (now : List ℕ) (rest part left : ℕ) → CountsBits weight old mask now rest → length now ≤ part → length now ≤ 64
    → ((p : ℕ) → p < 64 → p ≢ part → has_bit left p ≡ has_bit rest p) → CountsBits weight old mask now left
bit_past weight old mask now rest part left h past few others p in_now =
    let same : cond {A = ℕ} (has_bit left p) weight 0 ≡ cond {A = ℕ} (has_bit rest p) weight 0 = ap (λ b. cond {A = ℕ} b weight 0) (others p (omega arith) (λ e. omega arith)) in
    omega (arith, same, h p in_now)
