-- Marks of cones, and the sizes that are counted by them.
use Rattle.std.proofs.Common.{◌≡◌, ◌≢◌, ℕ, zero, suc, ◌+◌, ◌-◌, ◌<◌, ◌≤◌, ◌==◌, ◌||◌, ◌↔◌, IsTrue, max, min, Bool, true, false, List, [], ◌∷◌, ◌++◌, length, take, slice_index, slice_set, refl, sym, subst, ap, ◌∙◌, arith, ◌⊎◌, ⊎_elim, inl, inr, get_or}
use Rattle.std.specs.List.{filter, Contains, All, range_with_len}
use Rattle.std.specs.Int.{bit_at}
use Rattle.std.specs.Int.Bits.{bit_or}
use Rattle.std.proofs.lemmas.Bool.{cases_eq, cases_lt}
use Rattle.std.proofs.lemmas.List.{length-set, length-take, get_or_past, get_or-take, get_or_append_left, get_or-append_right}
use Rattle.std.proofs.Math.ListN.{length-append}
use Rattle.std.proofs.lemmas.List.Elements.{Contains-append_left, Contains-append_right, Contains-append_cases, Contains-push, Contains-push_cases, Contains-get_or}
use Rattle.std.proofs.lemmas.List.Sums.{length-filter, count_by-le-length}
use Rattle.std.proofs.lemmas.Nat.Bits.{bit_at_or, bit_at-lt, bit_at-zero}
use Rattle.cone_cutter.specs.Cuts.{Lists, Counts, NeededBy}
use Rattle.cone_cutter.specs.Rows.{AreBelow, row_at, Met, root, next, ConeAt}
use Rattle.cone_cutter.specs.Loads.{has_bit, holds, shared_by}
use Rattle.cone_cutter.specs.Marks.{IsRowOrder, AreInOrder, StandsOn, Spreads, HandsOn, AreRoots, AreSizes}
use Rattle.cone_cutter.proofs.Lists.{set_here, set_there, stands, stood, filter_from, filter_to, pairs_filter, fits_below, in_range, to_range}

-- bits

or_test : (a b : ℕ) → a < 2 → b < 2 → (max a b == 1) ≡ ((a == 1) || (b == 1))
or_test zero zero la lb = refl
or_test zero (suc zero) la lb = refl
or_test zero (suc (suc b)) la lb = absurd (omega arith)
or_test (suc zero) zero la lb = refl
or_test (suc zero) (suc zero) la lb = refl
or_test (suc zero) (suc (suc b)) la lb = absurd (omega arith)
or_test (suc (suc a)) b la lb = absurd (omega arith)

pub or_has : (a b s : ℕ) → has_bit (bit_or a b) s ≡ (has_bit a s || has_bit b s)
or_has a b s = ap (λ n. n == 1) (bit_at_or a b s) ∙ or_test (bit_at a s) (bit_at b s) (bit_at-lt a s) (bit_at-lt b s)

or_cases : (a b : Bool) → (a || b) ≡ true → (a ≡ true) ⊎ (b ≡ true)
or_cases true b e = inl refl
or_cases false b e = inr e

or_first : (a b : Bool) → a ≡ true → (a || b) ≡ true
or_first true b e = refl
or_first false b e = cc

or_second : (a b : Bool) → b ≡ true → (a || b) ≡ true
or_second true b e = refl
or_second false b e = e

differ : true ≡ false → ⊥
differ e = cc

pub zero_lacks : (m s : ℕ) → m ≡ 0 → has_bit m s ≡ true → ⊥
zero_lacks m s z e = differ (sym e ∙ (ap (λ n. has_bit n s) z ∙ ap (λ b. b == 1) (bit_at-zero s)))

pub holds_within : (marks : List ℕ) (s x : ℕ) → holds marks s x ≡ true → x < length marks
holds_within marks s x e = ⊎_elim (λ lt. lt) (λ past. absurd (zero_lacks (slice_index marks x) s (get_or_past marks x 0 past) e)) (cases_lt x (length marks))

-- marks are set on a row

pub spreads_none : (mark : ℕ) (old : List ℕ) → Spreads [] mark old old
spreads_none mark old = record {
  long = refl;
  got = λ s x c e. absurd (omega (arith, c.1));
  kept = λ s x e. e;
  only = λ s x e. inl e;
}

module _ (row : List ℕ) (mark : ℕ) (old new : List ℕ) (x word : ℕ) (h : Spreads row mark old new) (lt : x < length new) (is : (s : ℕ) → has_bit word s ≡ (has_bit (slice_index new x) s || has_bit mark s)) where
  here : (s y : ℕ) → y ≡ x → holds (slice_set new x word) s y ≡ (holds new s x || has_bit mark s)
  here s y e = ap (λ m. has_bit m s) (set_here new x word y lt e) ∙ is s

  there : (s y : ℕ) → y ≢ x → holds (slice_set new x word) s y ≡ holds new s y
  there s y n = ap (λ m. has_bit m s) (set_there new x word y n)

  keeps : (s y : ℕ) → holds new s y ≡ true → holds (slice_set new x word) s y ≡ true
  keeps s y e = ⊎_elim (λ q. here s y q ∙ or_first (holds new s x) (has_bit mark s) (ap (λ z. holds new s z) (sym q) ∙ e)) (λ n. there s y n ∙ e) (cases_eq y x)

  widened : (s y : ℕ) → (holds old s y ≡ true) ⊎ (Contains row y × (has_bit mark s ≡ true)) → (holds old s y ≡ true) ⊎ (Contains (row ++ x ∷ []) y × (has_bit mark s ≡ true))
  widened s y d = ⊎_elim (λ o. inl o) (λ b. inr (Contains-append_left row (x ∷ []) y b.0, b.1)) d

  pub spreads_more : Spreads (row ++ x ∷ []) mark old (slice_set new x word)
  spreads_more = record {
    long = length-set new x word ∙ h.long;
    got = λ s y c e. ⊎_elim (λ o. keeps s y (h.got s y o e)) (λ q. here s y (sym q) ∙ or_second (holds new s x) (has_bit mark s) e) (Contains-push_cases row x y c);
    kept = λ s y e. keeps s y (h.kept s y e);
    only = λ s y e. ⊎_elim
        (λ q. ⊎_elim (λ o. widened s y (h.only s y (ap (λ z. holds new s z) q ∙ o))) (λ m. inr (subst (Contains (row ++ x ∷ [])) (sym q) (Contains-push row x), m))
        (or_cases (holds new s x) (has_bit mark s) (sym (here s y q) ∙ e)))
        (λ n. widened s y (h.only s y (sym (there s y n) ∙ e))) (cases_eq y x);
  }

-- marks are handed on

pub hands_begin : (reads : List (List ℕ)) (sequence : List ℕ) (place : ℕ) (old : List ℕ) → length sequence ≤ place → HandsOn reads sequence place old old
hands_begin reads sequence place old past = record {
  long = refl;
  kept = λ s x e. e;
  only = λ s roots f x e. root (f x e);
  handed = λ s k w le lt c e. absurd (omega arith);
}

module _ (reads : List (List ℕ)) (sequence : List ℕ) (o : IsRowOrder reads sequence) (place x mark : ℕ) (old now new : List ℕ) (h : HandsOn reads sequence (place + 1) old now) (lt : place < length sequence)
    (is : x ≡ slice_index sequence place) (same : mark ≡ slice_index now x) (t : Spreads (row_at reads x) mark now new) where
  not_back : (k : ℕ) → place ≤ k → k < length sequence → Contains (row_at reads x) (slice_index sequence k) → ⊥
  not_back k le inside c =
      let a = o.after place (slice_index sequence k) lt (subst (λ y. Contains (row_at reads y) (slice_index sequence k)) is c) in
      o.once a.0 k (omega (arith, a.1)) inside a.2

  was : (s k : ℕ) → place ≤ k → k < length sequence → holds new s (slice_index sequence k) ≡ true → holds now s (slice_index sequence k) ≡ true
  was s k le inside e = ⊎_elim (λ q. q) (λ b. absurd (not_back k le inside b.0)) (t.only s (slice_index sequence k) e)

  handed_now : (s k w : ℕ) → place ≤ k → k < length sequence → Contains (row_at reads (slice_index sequence k)) w → holds new s (slice_index sequence k) ≡ true → holds new s w ≡ true
  handed_now s k w le inside c e = ⊎_elim
      (λ later. t.kept s w (h.handed s k w (omega arith) inside c (was s k le inside e)))
      (λ last. let q : slice_index sequence k ≡ x = ap (slice_index sequence) (omega arith) ∙ sym is in
      t.got s w (subst (λ y. Contains (row_at reads y) w) q c) (ap (λ m. has_bit m s) same ∙ (ap (λ z. holds now s z) (sym q) ∙ was s k le inside e)))
      (cases_lt place k)

  pub hands_more : HandsOn reads sequence place old new
  hands_more = record {
    long = t.long ∙ h.long;
    kept = λ s y e. t.kept s y (h.kept s y e);
    only = λ s roots f y e. ⊎_elim (λ q. h.only s roots f y q) (λ b. next (h.only s roots f x (ap (λ m. has_bit m s) (sym same) ∙ b.1)) b.0) (t.only s y e);
    handed = handed_now;
  }

-- what is met from what stands in the order stands there
pub met_in_order : (reads : List (List ℕ)) (sequence roots : List ℕ) → IsRowOrder reads sequence → ((x : ℕ) → Contains roots x → Contains sequence x) → (x : ℕ) → Met reads roots x → Contains sequence x
met_in_order reads sequence roots o f x (root c) = f x c
met_in_order reads sequence roots o f x (next {x = y} m c) =
    let at = stood sequence y (met_in_order reads sequence roots o f y m) in
    let a = o.after at.0 x at.1 (subst (λ z. Contains (row_at reads z) x) (sym at.2) c) in
    stands sequence x a.0 (omega (arith, a.1, at.1)) a.2

module _ (reads : List (List ℕ)) (sequence old new : List ℕ) (o : IsRowOrder reads sequence) (long : length old ≡ length reads) (h : HandsOn reads sequence 0 old new)
    (s : ℕ) (roots : List ℕ) (f : (x : ℕ) → Contains roots x → Contains sequence x) (marked : StandsOn old s (Contains roots)) where
  met_marked : (x : ℕ) → Met reads roots x → holds new s x ≡ true
  met_marked x (root c) = h.kept s x ((marked x (omega (arith, long, o.within x (f x c)))).1 c)
  met_marked x (next {x = y} m c) =
      let at = stood sequence y (met_in_order reads sequence roots o f y m) in
      h.handed s at.0 x (omega arith) at.1 (subst (λ z. Contains (row_at reads z) x) (sym at.2) c) (ap (λ z. holds new s z) at.2 ∙ met_marked y m)

  pub hands_end : StandsOn new s (Met reads roots)
  hands_end x lt = (λ e. h.only s roots (λ y q. (marked y (holds_within old s y q)).0 q) x e, met_marked x)

-- the marks of what sinks need themselves

-- Those of the first sinks of a group stand.
abbrev pub StandFor : List (List ℕ) → ℕ → ℕ → List ℕ → Type 0
StandFor needed first count marks = (s : ℕ) → StandsOn marks s (λ x. (s < count) × Contains (row_at needed (first + s)) x)

-- sizes

pub order_few : (reads : List (List ℕ)) (sequence : List ℕ) → IsRowOrder reads sequence → length sequence ≤ length reads
order_few reads sequence o = fits_below (length reads) sequence o.once o.within

pub marks_count : (reads : List (List ℕ)) (sequence roots marks : List ℕ) (s : ℕ) → IsRowOrder reads sequence → ((x : ℕ) → Contains roots x → Contains sequence x)
    → ((x : ℕ) → Contains sequence x → IsTrue (holds marks s x) ↔ Met reads roots x) → Counts (Met reads roots) (shared_by marks sequence s)
marks_count reads sequence roots marks s o f m = record {
  numbers = filter (holds marks s) sequence;
  listed = record {
    only = λ x c. let k = filter_from (holds marks s) sequence x c in (m x k.0).0 k.1;
    all = λ x i. let c = met_in_order reads sequence roots o f x i in filter_to (holds marks s) sequence x c ((m x c).1 i);
    once = pairs_filter (λ a b. a ≢ b) (holds marks s) sequence o.once;
  };
  count = length-filter (holds marks s) sequence;
}

-- the union

module _ (reads needed : List (List ℕ)) (roots : List ℕ) (r : AreRoots needed (length needed) roots) where
  to_one : (x : ℕ) → Met reads roots x → NeededBy (ConeAt reads needed) (range_with_len 0 (length needed)) x
  to_one x (root c) = let k = r.from x c in record { sink = k.0; there = to_range (length needed) k.0 k.1; inside = root k.2 }
  to_one x (next {x = y} m c) = let n = to_one y m in record { sink = n.sink; there = n.there; inside = next n.inside c }

  of_one : (k : ℕ) → k < length needed → (x : ℕ) → ConeAt reads needed k x → Met reads roots x
  of_one k lt x (root c) = root (r.to k x lt c)
  of_one k lt x (next {x = y} m c) = next (of_one k lt y m) c

  pub union_listed : (found : List ℕ) → Lists (Met reads roots) found → Lists (NeededBy (ConeAt reads needed) (range_with_len 0 (length needed))) found
  union_listed found h = record {
    only = λ x c. to_one x (h.only x c);
    all = λ x n. h.all x (of_one n.sink (in_range (length needed) n.sink n.there) x n.inside);
    once = h.once;
  }

pub roots_none : (needed : List (List ℕ)) → AreRoots needed 0 []
roots_none needed = record {
  from = λ x c. absurd (omega (arith, c.1));
  to = λ k x lt c. absurd (omega arith);
}

pub roots_more : (needed : List (List ℕ)) (count : ℕ) (roots row : List ℕ) → AreRoots needed count roots → row ≡ row_at needed count → AreRoots needed (count + 1) (roots ++ row)
roots_more needed count roots row h is = record {
  from = λ x c. ⊎_elim (λ o. let k = h.from x o in (k.0, omega (arith, k.1), k.2))
      (λ n. (count, omega arith, subst (λ r. Contains r x) is n)) (Contains-append_cases roots row x c);
  to = λ k x lt c. ⊎_elim (λ less. Contains-append_left roots row x (h.to k x less c))
      (λ past. let e : k ≡ count = omega arith in Contains-append_right roots row x (subst (λ r. Contains r x) (ap (row_at needed) e ∙ sym is) c)) (cases_lt k count);
}

pub sizes_none : (reads needed : List (List ℕ)) (sizes : List ℕ) → sizes ≡ [] → AreSizes reads needed sizes
sizes_none reads needed sizes e = record {
  sized = λ k lt. absurd (omega (arith, ap length e));
  few = λ k lt. absurd (omega (arith, ap length e));
}

module _ (reads needed : List (List ℕ)) (sequence marks old counts : List ℕ) (most : ℕ) (o : IsRowOrder reads sequence) (f : AreInOrder needed sequence) (h : AreSizes reads needed old)
    (marked : (s : ℕ) → s < 64 → (x : ℕ) → Contains sequence x → IsTrue (holds marks s x) ↔ ConeAt reads needed (length old + s) x)
    (all : length counts ≡ 64) (counted : (s : ℕ) → s < length counts → slice_index counts s ≡ shared_by marks sequence s) where
  added_at : (k : ℕ) → k < length (old ++ take most counts) → length old ≤ k → (k - length old < 64) × (slice_index (old ++ take most counts) k ≡ shared_by marks sequence (k - length old))
  added_at k lt past =
      let n = length-append old (take most counts) in
      let m = length-take most counts in
      let less : k - length old < min most (length counts) = omega arith in
      (omega (arith, less, all), get_or-append_right old (take most counts) (length old) k 0 refl past ∙ (get_or-take most counts (k - length old) 0 (omega arith) ∙ counted (k - length old) (omega arith)))

  pub sizes_more : AreSizes reads needed (old ++ take most counts)
  sizes_more = record {
    sized = λ k lt. ⊎_elim
        (λ less. subst (Counts (ConeAt reads needed k)) (sym (get_or_append_left old (take most counts) 0 k less)) (h.sized k less))
        (λ past. let a = added_at k lt past in
        let q : length old + (k - length old) ≡ k = omega arith in
        subst (Counts (ConeAt reads needed k)) (sym a.1)
        (subst (λ j. Counts (ConeAt reads needed j) (shared_by marks sequence (k - length old))) q
        (marks_count reads sequence (row_at needed (length old + (k - length old))) marks (k - length old) o (f (length old + (k - length old))) (marked (k - length old) a.0))))
        (cases_lt k (length old));
    few = λ k lt. ⊎_elim
        (λ less. omega (arith, get_or_append_left old (take most counts) 0 k less, h.few k less))
        (λ past. let a = added_at k lt past in omega (arith, a.1, count_by-le-length (holds marks (k - length old)) sequence, order_few reads sequence o))
        (cases_lt k (length old));
  }

pub roots_below : (needed : List (List ℕ)) (n : ℕ) (roots : List ℕ) → AreBelow n needed → AreRoots needed (length needed) roots → All (λ x. x < n) roots
roots_below needed n roots b h k d lt =
    let r = h.from (get_or roots k d) (Contains-get_or roots k d lt) in
    subst (λ x. x < n) r.2.2 (b r.0 [] r.1 r.2.0 (get_or roots k d) r.2.1)
