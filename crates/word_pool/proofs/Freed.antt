-- Slots and the numbers given back.
use Rattle.std.proofs.Common.{◌≡◌, ◌≢◌, ℕ, zero, suc, ◌+◌, ◌<◌, ◌≤◌, Bool, true, false, ◌&&◌, ◌||◌, not, cond, eqb, ltb, leb, List, [], ◌∷◌, length, filter, refl, sym, ap, ap₂, ◌∙◌, subst, arith, ⊎_elim, ◌⊎◌, inl, inr}
use Rattle.std.specs.Prelude.{All, AllPairs, map, Result, Ok, Err, OnOk}
use Rattle.std.specs.Result.{is_err}
use Rattle.std.specs.List.{list_any, range_with_len, AllByRecursion, IsDistinct}
use Rattle.std.specs.List.Sorted.{IsPermutation}
use Rattle.std.specs.Ordering.{nat_cmp, is_lt}
use Rattle.std.specs.declared.alloc.Global.{Global}
use Rattle.std.specs.declared.cmp.Reverse.{Reverse}
use Rattle.std.specs.declared.collections.BinaryHeap.{BinaryHeap}
use Rattle.std.specs.BinaryHeap.{heap_items, heap_len, heap_capacity, IsHeap, IsUpperBound}
use Rattle.std.proofs.lemmas.Bool.{cases_eq, cases_lt}
use Rattle.std.proofs.lemmas.Bool.Decides.{nat_tests}
use Rattle.std.proofs.lemmas.List.{length-map}
use Rattle.std.proofs.lemmas.List.FromFn.{length-range_with_len, get_or-range_with_len}
use Rattle.std.proofs.lemmas.List.Kept.{AllPairs-filter}
use Rattle.std.proofs.lemmas.List.Elements.{All-cons, All-tail}
use Rattle.std.proofs.lemmas.List.Sorted.{sum_by_pushed, sum_by_popped, All-permutation, IsPermutation-refl, length_permutation}
use Rattle.std.proofs.lemmas.Map.Steps.{length-le_from_distinct_below}
use Rattle.word_pool.specs.Pools.{is_live, Takes, IsFull}
use Rattle.word_pool.specs.Holding.{times_freed, live_of, pool_of, IsKept}

-- whether a number is among those of a range that pass
module _ (p : ℕ → Bool) (k : ℕ) where
  passed : ℕ → ℕ → Bool
  passed a n = (leb a k && ltb k (a + n)) && p k

  here : (a n : ℕ) (v : Bool) (xs : List ℕ) → p a ≡ v → k ≡ a → list_any (λ l. eqb k l) xs ≡ (leb (a + 1) k && ltb k (a + 1 + n)) && p k
      → list_any (λ l. eqb k l) (cond v (a ∷ xs) xs) ≡ (leb a k && ltb k (a + suc n)) && p k
  here a n true xs e same rest =
      let its : p k ≡ true = ap p same ∙ e in
      let one : eqb k a ≡ true = grind (arith, nat_tests, same) in
      let low : leb a k ≡ true = grind (arith, nat_tests, same) in
      let high : ltb k (a + suc n) ≡ true = grind (arith, nat_tests, same) in
      ap (λ b. b || list_any (λ l. eqb k l) xs) one ∙ sym (ap₂ (λ b c. (b && c) && p k) low high ∙ its)
  here a n false xs e same rest =
      let its : p k ≡ false = ap p same ∙ e in
      rest ∙ ap (λ b. (leb (a + 1) k && ltb k (a + 1 + n)) && b) its ∙ never (leb (a + 1) k && ltb k (a + 1 + n)) ∙ sym (ap (λ b. (leb a k && ltb k (a + suc n)) && b) its ∙ never (leb a k && ltb k (a + suc n)))
    where
      never : (b : Bool) → b && false ≡ false
      never true = refl
      never false = refl

  elsewhere : (a n : ℕ) (v : Bool) (xs : List ℕ) → k ≢ a → list_any (λ l. eqb k l) xs ≡ (leb (a + 1) k && ltb k (a + 1 + n)) && p k
      → list_any (λ l. eqb k l) (cond v (a ∷ xs) xs) ≡ (leb a k && ltb k (a + suc n)) && p k
  elsewhere a n v xs ne rest =
      let none : eqb k a ≡ false = grind (arith, nat_tests, ne) in
      let low : leb (a + 1) k ≡ leb a k = lows (cases_lt k a) in
      let high : ltb k (a + 1 + n) ≡ ltb k (a + suc n) = ap (ltb k) (omega arith) in
      skip v none ∙ rest ∙ ap₂ (λ b c. (b && c) && p k) low high
    where
      skip : (v : Bool) → eqb k a ≡ false → list_any (λ l. eqb k l) (cond v (a ∷ xs) xs) ≡ list_any (λ l. eqb k l) xs
      skip true e = ap (λ b. b || list_any (λ l. eqb k l) xs) e
      skip false e = refl

      lows : (k < a) ⊎ (a ≤ k) → leb (a + 1) k ≡ leb a k
      lows (inl lt) = let x : leb (a + 1) k ≡ false = grind (arith, nat_tests, lt) in let y : leb a k ≡ false = grind (arith, nat_tests, lt) in x ∙ sym y
      lows (inr ge) = let x : leb (a + 1) k ≡ true = grind (arith, nat_tests, ge, ne) in let y : leb a k ≡ true = grind (arith, nat_tests, ge) in x ∙ sym y

  among : (n a : ℕ) → list_any (λ l. eqb k l) (filter p (range_with_len a n)) ≡ (leb a k && ltb k (a + n)) && p k
  among zero a = sym (outside (cases_lt k a))
    where
      outside : (k < a) ⊎ (a ≤ k) → (leb a k && ltb k (a + 0)) && p k ≡ false
      outside (inl lt) = let none : leb a k ≡ false = grind (arith, nat_tests, lt) in ap (λ b. (b && ltb k (a + 0)) && p k) none
      outside (inr ge) = let low : leb a k ≡ true = grind (arith, nat_tests, ge) in let high : ltb k (a + 0) ≡ false = grind (arith, nat_tests, ge) in ap₂ (λ b c. (b && c) && p k) low high
  among (suc n) a =
      ⊎_elim (λ same. here a n (p a) (filter p (range_with_len (a + 1) n)) refl same (among n (a + 1)))
      (λ ne. elsewhere a n (p a) (filter p (range_with_len (a + 1) n)) ne (among n (a + 1))) (cases_eq k a)

-- a number is live where it is below the next one and wasn't given back
pub live_is : (limit next : ℕ) (freed : BinaryHeap (Reverse ℕ) Global) (k : ℕ) → is_live (pool_of limit next freed) k ≡ ltb k next && eqb (times_freed (heap_items freed) k) 0
live_is limit next freed k =
    let low : leb 0 k ≡ true = grind (arith, nat_tests) in
    let high : ltb k (0 + next) ≡ ltb k next = ap (ltb k) (omega arith) in
    among (λ j. eqb (times_freed (heap_items freed) j) 0) k next 0 ∙ ap₂ (λ b c. (b && c) && eqb (times_freed (heap_items freed) k) 0) low high

filter-le : (p : ℕ → Bool) (xs : List ℕ) → length (filter p xs) ≤ length xs
filter-le p [] = omega arith
filter-le p (x ∷ xs) = by (p x) (filter-le p xs)
  where
    by : (v : Bool) → length (filter p xs) ≤ length xs → length (cond v (x ∷ filter p xs) (filter p xs)) ≤ suc (length xs)
    by true h = omega (arith, h)
    by false h = omega (arith, h)

pub live-le : (next : ℕ) (freed : List (Reverse ℕ)) → length (live_of next freed) ≤ next
live-le next freed = let h = filter-le (λ k. eqb (times_freed freed k) 0) (range_with_len 0 next) in omega (arith, h, length-range_with_len 0 next)

-- with nothing given back all are live
none_left : (xs : List ℕ) → filter (λ k. eqb (times_freed [] k) 0) xs ≡ xs
none_left [] = refl
none_left (x ∷ xs) = ap (λ ys. x ∷ ys) (none_left xs)

pub all_live : (next : ℕ) (freed : List (Reverse ℕ)) → freed ≡ [] → length (live_of next freed) ≡ next
all_live next freed e = ap (λ fs. length (live_of next fs)) e ∙ ap length (none_left (range_with_len 0 next)) ∙ length-range_with_len 0 next

-- how often a number stands in front
once_here : (x k : ℕ) → x ≡ k → ◌≡◌ {A = ℕ} (cond (eqb x k) 1 0) 1
once_here x k e = let one : eqb x k ≡ true = grind (arith, nat_tests, e) in ap (λ (b : Bool). cond {A = ℕ} b 1 0) one

not_here : (x k : ℕ) → x ≢ k → ◌≡◌ {A = ℕ} (cond (eqb x k) 1 0) 0
not_here x k ne = let none : eqb x k ≡ false = grind (arith, nat_tests, ne) in ap (λ (b : Bool). cond {A = ℕ} b 1 0) none

times_cons : (f : Reverse ℕ) (fs : List (Reverse ℕ)) (k : ℕ) → times_freed (f ∷ fs) k ≡ cond (eqb f.0 k) 1 0 + times_freed fs k
times_cons f fs k = sum_by_pushed (λ (g : Reverse ℕ). cond (eqb g.0 k) 1 0) f fs (f ∷ fs) (IsPermutation-refl (f ∷ fs))

-- no number is given back that is less than the least
least_none : (x k : ℕ) (freed : List (Reverse ℕ)) → k < x → IsUpperBound (λ (y z : Reverse ℕ). nat_cmp z.0 y.0) (record { 0 = x }) freed → times_freed freed k ≡ 0
least_none x k [] lt h = refl
least_none x k (f ∷ fs) lt h =
    let ne : f.0 ≢ k = λ e. tests f.0 x (omega (arith, lt, e)) h.0 in
    omega (arith, times_cons f fs k, not_here f.0 k ne, least_none x k fs lt h.1)
  where
    tests : (y x : ℕ) → y < x → is_lt (nat_cmp y x) ≡ false → ⊥
    tests y x lt e = let yes' : ltb y x ≡ true = grind (arith, nat_tests, lt) in let t : is_lt (nat_cmp y x) ≡ true = grind (arith, yes') in cc

and_parts : (a b : Bool) → a && b ≡ true → (a ≡ true) × (b ≡ true)
and_parts true b h = (refl, h)
and_parts false b h = cc

-- what a live number is
pub live_parts : (limit next : ℕ) (freed : BinaryHeap (Reverse ℕ) Global) (k : ℕ) → is_live (pool_of limit next freed) k ≡ true → (k < next) × (times_freed (heap_items freed) k ≡ 0)
live_parts limit next freed k h =
    let t = and_parts (ltb k next) (eqb (times_freed (heap_items freed) k) 0) (sym (live_is limit next freed k) ∙ h) in
    let low = t.0 in let none = t.1 in
    (grind (arith, nat_tests, low), grind (arith, nat_tests, none))

pub live_from : (limit next : ℕ) (freed : BinaryHeap (Reverse ℕ) Global) (k : ℕ) → k < next → times_freed (heap_items freed) k ≡ 0 → is_live (pool_of limit next freed) k ≡ true
live_from limit next freed k lt none =
    let low : ltb k next ≡ true = grind (arith, nat_tests, lt) in
    let zero' : eqb (times_freed (heap_items freed) k) 0 ≡ true = grind (arith, nat_tests, none) in
    live_is limit next freed k ∙ ap₂ (λ b c. b && c) low zero'

not_live : (limit next : ℕ) (freed : BinaryHeap (Reverse ℕ) Global) (k : ℕ) → times_freed (heap_items freed) k ≢ 0 → is_live (pool_of limit next freed) k ≡ false
not_live limit next freed k some =
    let zero' : eqb (times_freed (heap_items freed) k) 0 ≡ false = grind (arith, nat_tests, some) in
    live_is limit next freed k ∙ ap (λ c. ltb k next && c) zero' ∙ never (ltb k next)
  where
    never : (b : Bool) → b && false ≡ false
    never true = refl
    never false = refl

-- a number that was given back is taken again
module _ (limit next slot : ℕ) (old new : BinaryHeap (Reverse ℕ) Global) (kept : IsKept limit next old) (moved : IsPermutation (heap_items old) (record { 0 = slot } ∷ heap_items new)) (least : IsUpperBound (λ (y z : Reverse ℕ). nat_cmp z.0 y.0) (record { 0 = slot }) (heap_items old))
    (heap : IsHeap (λ (y z : Reverse ℕ). nat_cmp z.0 y.0) (heap_items new)) (room : heap_capacity new ≡ heap_capacity old) where
  all_below : All (λ (f : Reverse ℕ). f.0 < next) (record { 0 = slot } ∷ heap_items new)
  all_below = All-permutation (λ (f : Reverse ℕ). f.0 < next) (heap_items old) (record { 0 = slot } ∷ heap_items new) moved kept.below

  slot_below : slot < next
  slot_below = all_below 0 (record { 0 = slot }) (omega arith)

  times : (k : ℕ) → times_freed (heap_items new) k + cond (eqb slot k) 1 0 ≡ times_freed (heap_items old) k
  times k = sum_by_popped (λ (f : Reverse ℕ). cond (eqb f.0 k) 1 0) (record { 0 = slot }) (heap_items old) (heap_items new) moved

  pub kept_again : IsKept limit next new
  kept_again = record {
    within = kept.within;
    below = All-tail (λ (f : Reverse ℕ). f.0 < next) (record { 0 = slot }) (heap_items new) all_below;
    once = λ k. omega (arith, times k, kept.once k);
    heap = heap;
    room = omega (arith, kept.room, room);
  }

  live_now : (k : ℕ) → is_live (pool_of limit next new) k ≡ (eqb k slot || is_live (pool_of limit next old) k)
  live_now k = ⊎_elim same other (cases_eq slot k)
    where
      same : slot ≡ k → is_live (pool_of limit next new) k ≡ (eqb k slot || is_live (pool_of limit next old) k)
      same e =
          let mine : eqb k slot ≡ true = grind (arith, nat_tests, e) in
          live_from limit next new k (omega (arith, e, slot_below)) (omega (arith, times k, kept.once k, once_here slot k e)) ∙ sym (ap (λ b. b || is_live (pool_of limit next old) k) mine)

      other : (slot ≡ k → ⊥) → is_live (pool_of limit next new) k ≡ (eqb k slot || is_live (pool_of limit next old) k)
      other ne =
          let mine : eqb k slot ≡ false = grind (arith, nat_tests, ne) in
          let count : times_freed (heap_items new) k ≡ times_freed (heap_items old) k = omega (arith, times k, not_here slot k ne) in
          live_is limit next new k ∙ ap (λ n. ltb k next && eqb n 0) count ∙ sym (live_is limit next old k) ∙ sym (ap (λ b. b || is_live (pool_of limit next old) k) mine)

  pub takes_again : Takes (pool_of limit next old) (pool_of limit next new) slot
  takes_again = record {
    below = omega (arith, slot_below, kept.within);
    fresh = not_live limit next old slot (let t = times slot in let o = once_here slot slot refl in λ e. omega (arith, t, o, e));
    least = λ k lt. live_from limit next old k (omega (arith, lt, slot_below)) (least_none slot k (heap_items old) lt least);
    live = live_now;
    limit = refl;
    high = let h = live-le next (heap_items new) in omega (arith, h);
    spare = let shorter = length_permutation (heap_items old) (record { 0 = slot } ∷ heap_items new) moved in omega (arith, room, shorter);
  }

-- nothing was given back
module _ (limit next : ℕ) (old : BinaryHeap (Reverse ℕ) Global) (kept : IsKept limit next old) (none : heap_items old ≡ []) where
  no_times : (k : ℕ) → times_freed (heap_items old) k ≡ 0
  no_times k = ap (λ fs. times_freed fs k) none

  all_below_live : (k : ℕ) → k < next → is_live (pool_of limit next old) k ≡ true
  all_below_live k lt = live_from limit next old k lt (no_times k)

  pub full_is : next ≡ limit → IsFull (pool_of limit next old)
  full_is e k lt = all_below_live k (omega (arith, lt, e))

  pub not_full : next ≢ limit → IsFull (pool_of limit next old) → ⊥
  not_full ne full = let t = live_parts limit next old next (full next (omega (arith, ne, kept.within))) in omega (arith, t.0)

  -- the next number is taken
  module _ (new : BinaryHeap (Reverse ℕ) Global) (same : heap_items new ≡ heap_items old) (more : heap_capacity old ≤ heap_capacity new) (room : next + 1 ≤ heap_capacity new) (ne : next ≢ limit) where
    nothing : heap_items new ≡ []
    nothing = same ∙ none

    pub kept_next : IsKept limit (next + 1) new
    kept_next = record {
      within = omega (arith, kept.within, ne);
      below = subst (All (λ (f : Reverse ℕ). f.0 < next + 1)) (sym nothing) (λ k d lt. absurd (omega (arith, lt)));
      once = λ k. let t = ap (λ fs. times_freed fs k) nothing in omega (arith, t);
      heap = subst (IsHeap (λ (y z : Reverse ℕ). nat_cmp z.0 y.0)) (sym same) kept.heap;
      room = room;
    }

    pub takes_next : Takes (pool_of limit next old) (pool_of limit (next + 1) new) next
    takes_next = record {
      below = omega (arith, kept.within, ne);
      fresh = live_is limit next old next ∙ (let high : ltb next next ≡ false = grind (arith, nat_tests) in ap (λ b. b && eqb (times_freed (heap_items old) next) 0) high);
      least = all_below_live;
      live = live_next;
      limit = refl;
      high = let h = all_live (next + 1) (heap_items new) nothing in omega (arith, h);
      spare = let before = ap length none in let after = ap length nothing in omega (arith, more, before, after);
    }
      where
        live_next : (k : ℕ) → is_live (pool_of limit (next + 1) new) k ≡ (eqb k next || is_live (pool_of limit next old) k)
        live_next k = ⊎_elim at (λ apart. ⊎_elim (under apart) (over apart) (cases_lt k next)) (cases_eq k next)
          where
            count : times_freed (heap_items new) k ≡ 0
            count = ap (λ fs. times_freed fs k) nothing

            at : k ≡ next → is_live (pool_of limit (next + 1) new) k ≡ (eqb k next || is_live (pool_of limit next old) k)
            at e = let mine : eqb k next ≡ true = grind (arith, nat_tests, e) in live_from limit (next + 1) new k (omega (arith, e)) count ∙ sym (ap (λ b. b || is_live (pool_of limit next old) k) mine)

            under : (k ≡ next → ⊥) → k < next → is_live (pool_of limit (next + 1) new) k ≡ (eqb k next || is_live (pool_of limit next old) k)
            under apart lt =
                let mine : eqb k next ≡ false = grind (arith, nat_tests, apart) in
                live_from limit (next + 1) new k (omega (arith, lt)) count ∙ sym (ap (λ b. b || is_live (pool_of limit next old) k) mine ∙ all_below_live k lt)

            over : (k ≡ next → ⊥) → next ≤ k → is_live (pool_of limit (next + 1) new) k ≡ (eqb k next || is_live (pool_of limit next old) k)
            over apart ge =
                let mine : eqb k next ≡ false = grind (arith, nat_tests, apart) in
                let past : ltb k next ≡ false = grind (arith, nat_tests, ge) in
                let out : ltb k (next + 1) ≡ false = grind (arith, nat_tests, ge, apart) in
                live_is limit (next + 1) new k ∙ ap (λ b. b && eqb (times_freed (heap_items new) k) 0) out
                ∙ sym (ap (λ b. b || is_live (pool_of limit next old) k) mine ∙ live_is limit next old k ∙ ap (λ b. b && eqb (times_freed (heap_items old) k) 0) past)

-- where a number was given back the pool isn't full
pub freed_not_full : (limit next slot : ℕ) (old new : BinaryHeap (Reverse ℕ) Global) → IsKept limit next old → IsPermutation (heap_items old) (record { 0 = slot } ∷ heap_items new) → IsFull (pool_of limit next old) → ⊥
freed_not_full limit next slot old new kept moved full =
    let below = All-permutation (λ (f : Reverse ℕ). f.0 < next) (heap_items old) (record { 0 = slot } ∷ heap_items new) moved kept.below 0 (record { 0 = slot }) (omega arith) in
    let t = sum_by_popped (λ (f : Reverse ℕ). cond (eqb f.0 slot) 1 0) (record { 0 = slot }) (heap_items old) (heap_items new) moved in
    let live = live_parts limit next old slot (full slot (omega (arith, below, kept.within))) in
    omega (arith, t, live.1, once_here slot slot refl)

-- the numbers given back, with a further one that wasn't, are no more than those that were ever live
apart_from : (x : ℕ) (fs : List (Reverse ℕ)) → times_freed fs x ≡ 0 → AllByRecursion (λ y. eqb x y ≡ false) (map (λ (f : Reverse ℕ). f.0) fs)
apart_from x [] h = tt
apart_from x (f ∷ fs) h = (other (cases_eq f.0 x), apart_from x fs (omega (arith, h, times_cons f fs x)))
  where
    other : (f.0 ≡ x) ⊎ (f.0 ≡ x → ⊥) → eqb x f.0 ≡ false
    other (inl e) = absurd (omega (arith, h, times_cons f fs x, once_here f.0 x e))
    other (inr ne) = grind (arith, nat_tests, ne)

distinct : (fs : List (Reverse ℕ)) → ((k : ℕ) → times_freed fs k ≤ 1) → IsDistinct eqb (map (λ (f : Reverse ℕ). f.0) fs)
unfolding IsDistinct
distinct [] h = tt
distinct (f ∷ fs) h = (apart_from f.0 fs (omega (arith, h f.0, times_cons f fs f.0, once_here f.0 f.0 refl)), distinct fs (λ k. omega (arith, h k, times_cons f fs k)))

among_below : (n q : ℕ) (xs : List ℕ) → AllByRecursion (λ x. x < n) xs → list_any (eqb q) xs ≡ true → q < n
among_below n q [] h e = cc
among_below n q (x ∷ xs) h e = by (among_below n q xs h.1) (eqb q x) refl e
  where
    by : (list_any (eqb q) xs ≡ true → q < n) → (v : Bool) → eqb q x ≡ v → v || list_any (eqb q) xs ≡ true → q < n
    by rest true t e = let same : q ≡ x = grind (arith, nat_tests, t) in omega (arith, same, h.0)
    by rest false t e = rest e

each_below : (n : ℕ) (fs : List (Reverse ℕ)) → All (λ (f : Reverse ℕ). f.0 < n) fs → AllByRecursion (λ x. x < n) (map (λ (f : Reverse ℕ). f.0) fs)
each_below n [] h = tt
each_below n (f ∷ fs) h = (h 0 f (omega arith), each_below n fs (All-tail (λ (f : Reverse ℕ). f.0 < n) f fs h))

pub fewer : (limit next slot : ℕ) (freed : BinaryHeap (Reverse ℕ) Global) → IsKept limit next freed → is_live (pool_of limit next freed) slot ≡ true → length (heap_items freed) < next
unfolding IsDistinct
fewer limit next slot freed kept live =
    let its = live_parts limit next freed slot live in
    let fs = heap_items freed in
    let long = length-le_from_distinct_below (slot ∷ map (λ (f : Reverse ℕ). f.0) fs) next (apart_from slot fs its.1, distinct fs kept.once) (λ q h. among_below next q (slot ∷ map (λ (f : Reverse ℕ). f.0) fs) (its.0, each_below next fs kept.below) h) in
    omega (arith, long, length-map fs (λ (f : Reverse ℕ). f.0))

-- a number is given back
module _ (limit next slot : ℕ) (old new : BinaryHeap (Reverse ℕ) Global) (kept : IsKept limit next old) (live : is_live (pool_of limit next old) slot ≡ true) (moved : IsPermutation (record { 0 = slot } ∷ heap_items old) (heap_items new))
    (heap : IsHeap (λ (y z : Reverse ℕ). nat_cmp z.0 y.0) (heap_items new)) (room : heap_capacity old ≤ heap_capacity new) where
  its : (slot < next) × (times_freed (heap_items old) slot ≡ 0)
  its = live_parts limit next old slot live

  times' : (k : ℕ) → times_freed (heap_items new) k ≡ cond (eqb slot k) 1 0 + times_freed (heap_items old) k
  times' k = sum_by_pushed (λ (f : Reverse ℕ). cond (eqb f.0 k) 1 0) (record { 0 = slot }) (heap_items old) (heap_items new) moved

  pub kept_back : IsKept limit next new
  kept_back = record {
    within = kept.within;
    below = All-permutation (λ (f : Reverse ℕ). f.0 < next) (record { 0 = slot } ∷ heap_items old) (heap_items new) moved (All-cons (λ (f : Reverse ℕ). f.0 < next) (record { 0 = slot }) (heap_items old) its.0 kept.below);
    once = λ k. ⊎_elim (λ e. let none = subst (λ n. times_freed (heap_items old) n ≡ 0) e its.1 in omega (arith, times' k, once_here slot k e, none)) (λ ne. omega (arith, times' k, not_here slot k ne, kept.once k)) (cases_eq slot k);
    heap = heap;
    room = omega (arith, kept.room, room);
  }

  pub live_back : (k : ℕ) → is_live (pool_of limit next new) k ≡ (is_live (pool_of limit next old) k && not (eqb k slot))
  live_back k = ⊎_elim same other (cases_eq slot k)
    where
      never : (b : Bool) → b && false ≡ false
      never true = refl
      never false = refl

      always : (b : Bool) → b && true ≡ b
      always true = refl
      always false = refl

      same : slot ≡ k → is_live (pool_of limit next new) k ≡ (is_live (pool_of limit next old) k && not (eqb k slot))
      same e =
          let mine : eqb k slot ≡ true = grind (arith, nat_tests, e) in
          not_live limit next new k (let t = times' k in let o = once_here slot k e in λ z. omega (arith, t, o, z)) ∙ sym (ap (λ b. is_live (pool_of limit next old) k && not b) mine ∙ never (is_live (pool_of limit next old) k))

      other : (slot ≡ k → ⊥) → is_live (pool_of limit next new) k ≡ (is_live (pool_of limit next old) k && not (eqb k slot))
      other ne =
          let mine : eqb k slot ≡ false = grind (arith, nat_tests, ne) in
          let count : times_freed (heap_items new) k ≡ times_freed (heap_items old) k = omega (arith, times' k, not_here slot k ne) in
          live_is limit next new k ∙ ap (λ n. ltb k next && eqb n 0) count ∙ sym (live_is limit next old k) ∙ sym (ap (λ b. is_live (pool_of limit next old) k && not b) mine ∙ always (is_live (pool_of limit next old) k))

-- an outcome that is no Err
pub on_ok : {T E P : Type 0} (r : Result T E) → is_err r ≡ false → OnOk r P → P
on_ok (Ok x) e h = h
on_ok (Err x) e h = cc

pub empty_heap : (heap : BinaryHeap (Reverse ℕ) Global) → heap_len heap ≡ 0 → heap_items heap ≡ []
empty_heap heap e = by (heap_items heap) (sym heap.data.ok.0 ∙ e)
  where
    by : (xs : List (Reverse ℕ)) → length xs ≡ 0 → xs ≡ []
    by [] h = refl
    by (x ∷ xs) h = absurd (omega (arith, h))

-- the live numbers ascend
pub live_ascends : (next : ℕ) (freed : List (Reverse ℕ)) → AllPairs (λ x y. x < y) (live_of next freed)
live_ascends next freed = AllPairs-filter (λ x y. x < y) (λ k. eqb (times_freed freed k) 0) (range_with_len 0 next) rises
  where
    rises : AllPairs (λ x y. x < y) (range_with_len 0 next)
    rises i j d lt within =
        let n = length-range_with_len 0 next in
        let a = get_or-range_with_len 0 next i d (omega (arith, lt, within, n)) in
        let b = get_or-range_with_len 0 next j d (omega (arith, within, n)) in
        omega (arith, a, b, lt)
