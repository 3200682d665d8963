-- What stands at the places of a stretch.
use Rattle.std.proofs.Common.{◌≡◌, ℕ, zero, suc, ◌<◌, ◌≤◌, ◌+◌, ◌-◌, ◌*◌, ◌/◌, ◌%◌, min, List, [], ◌∷◌, ◌++◌, length, take, drop, drop_of_length-le, ◌^◌, slice_get, get_or, Option, Some, None, refl, sym, ap, ap₂, ◌∙◌, subst, arith, drop-cons, ⊎_elim}
use Rattle.std.specs.List.{flat_map, range_with_len}
use Rattle.std.proofs.lemmas.Bool.{cases_lt}
use Rattle.std.proofs.lemmas.List.Concat.{flat_map-cons}
use Rattle.std.proofs.lemmas.List.{length-append, take_rest}
use Rattle.std.proofs.lemmas.Option.{slice_get_past}
use Rattle.std.proofs.Math.Nat.{div-add-mod', mod-lt, div-eq_of_lt, mod-eq_of_lt}
use Rattle.ground_net.specs.declared.stretch.Span.{Span}
use Rattle.ground_net.specs.Grounds.{element_count}
use Rattle.ground_net.specs.declared.stretch.Stretch.{Stretch}
use Rattle.ground_net.specs.Numbers.{listed, told, span_lengths}

-- Places in lists of equal lists

at_left : (xs ys : List ℕ) (k : ℕ) → k < length xs → slice_get (xs ++ ys) k ≡ slice_get xs k
at_left [] ys k h = absurd (omega arith)
at_left (x ∷ xs) ys zero h = refl
at_left (x ∷ xs) ys (suc k) h = at_left xs ys k (omega arith)

at_right : (xs ys : List ℕ) (k n : ℕ) → length xs ≡ n → slice_get (xs ++ ys) (n + k) ≡ slice_get ys k
at_right [] ys k n e = let z : n + k ≡ k = omega (arith, e) in ap (slice_get ys) z
at_right (x ∷ xs) ys k zero e = absurd (omega (arith, e))
at_right (x ∷ xs) ys k (suc n) e = let m : suc n + k ≡ suc (n + k) = omega arith in ap (slice_get (x ∷ (xs ++ ys))) m ∙ at_right xs ys k n (omega (arith, e))

pub flat_length : (f : ℕ → List ℕ) (c a n : ℕ) → ((k : ℕ) → length (f k) ≡ c) → length (flat_map f (range_with_len a n)) ≡ n * c
flat_length f c a zero h = grind arith
flat_length f c a (suc n) h =
    let rest = flat_length f c (a + 1) n h in
    let here = h a in
    let all = ap length (flat_map-cons f a (range_with_len (a + 1) n)) ∙ length-append (f a) (flat_map f (range_with_len (a + 1) n)) in
    let sum : c + n * c ≡ suc n * c = grind arith in
    all ∙ ap₂ (λ x y. x + y) here rest ∙ sum

pub flat_at : (f : ℕ → List ℕ) (c a n k p : ℕ) → ((j : ℕ) → length (f j) ≡ c) → k < n → p < c → slice_get (flat_map f (range_with_len a n)) (k * c + p) ≡ slice_get (f (a + k)) p
flat_at f c a zero k p h below within = absurd (omega (arith, below))
flat_at f c a (suc n) zero p h below within =
    let z : a ≡ a + 0 = omega arith in
    let q : 0 * c + p ≡ p = omega arith in
    ap₂ (λ xs i. slice_get xs i) (flat_map-cons f a (range_with_len (a + 1) n)) q
    ∙ at_left (f a) (flat_map f (range_with_len (a + 1) n)) p (subst (λ l. p < l) (sym (h a)) within)
    ∙ ap (λ x. slice_get (f x) p) z
flat_at f c a (suc n) (suc k) p h below within =
    let q : suc k * c + p ≡ c + (k * c + p) = grind arith in
    let m : a + 1 + k ≡ a + suc k = omega arith in
    ap₂ (λ xs i. slice_get xs i) (flat_map-cons f a (range_with_len (a + 1) n)) q
    ∙ at_right (f a) (flat_map f (range_with_len (a + 1) n)) (k * c + p) c (h a)
    ∙ flat_at f c (a + 1) n k p h (omega (arith, below)) within
    ∙ ap (λ x. slice_get (f x) p) m

pub listed_count : (ss : List Span) (x : ℕ) → length (listed ss x) ≡ element_count (span_lengths ss)
listed_count [] x = refl
listed_count (s ∷ ss) x = flat_length (λ k. listed ss (x + k * s.stride)) (element_count (span_lengths ss)) 0 s.length (λ k. listed_count ss (x + k * s.stride))

-- Products that are cut off

pub capped : (a b m : ℕ) → min (min a m * b) m ≡ min (a * b) m
capped a zero m = let p : min a m * 0 ≡ 0 = grind arith in let q : a * 0 ≡ 0 = grind arith in ap₂ (λ x y. x) (ap (λ x. min x m) (p ∙ sym q)) p
capped a (suc b) m = ⊎_elim (λ less. over less) (λ most. under most) (cases_lt m a)
  where
    under : a ≤ m → min (min a m * suc b) m ≡ min (a * suc b) m
    under h = let e : min a m ≡ a = omega (arith, h) in ap (λ x. min (x * suc b) m) e

    over : m < a → min (min a m * suc b) m ≡ min (a * suc b) m
    over h =
        let e : min a m ≡ m = omega (arith, h) in
        let p : m * suc b ≡ m + m * b = grind arith in
        let q : a * suc b ≡ a + a * b = grind arith in
        let s : min (m * suc b) m ≡ min (a * suc b) m = omega (arith, p, q, h) in
        ap (λ x. min (x * suc b) m) e ∙ s

pub count_more : (ss : List Span) (i count next total m : ℕ) (d : Span) → i < length ss → next ≡ min (count * (get_or ss i d).length) m
    → min (count * element_count (span_lengths (drop i ss))) m ≡ total → min (next * element_count (span_lengths (drop (i + 1) ss))) m ≡ total
count_more ss i count next total m d below n h =
    let c = element_count (span_lengths (drop (suc i) ss)) in
    let s = get_or ss i d in
    let j : i + 1 ≡ suc i = omega arith in
    let assoc : count * s.length * c ≡ count * (s.length * c) = regroup count s.length c in
    ap (λ k. min (next * element_count (span_lengths (drop k ss))) m) j
    ∙ ap (λ x. min (x * c) m) n ∙ capped (count * s.length) c m ∙ ap (λ x. min x m) assoc
    ∙ ap (λ xs. min (count * element_count (span_lengths xs)) m) (sym (drop-cons ss i d below)) ∙ h
  where
    regroup : (a b c : ℕ) → a * b * c ≡ a * (b * c)
    regroup a b c = grind arith

pub count_all : (ss : List Span) (i count total m : ℕ) → length ss ≤ i → count ≤ m → min (count * element_count (span_lengths (drop i ss))) m ≡ total → count ≡ total
count_all ss i count total m past few h =
    let one : count * 1 ≡ count = grind arith in
    let same : min (count * 1) m ≡ total = ap (λ xs. min (count * element_count (span_lengths xs)) m) (sym (drop_of_length-le ss past)) ∙ h in
    omega (arith, one, same, few)

-- The number at a place

split : (c count left m : ℕ) → count ≡ min c m → left < m → 0 < count → (left / count * c + left % count ≡ left) × (left % count < c)
split c count left m e less some = ⊎_elim (λ large. over large) (λ small. under small) (cases_lt m c)
  where
    under : c ≤ m → (left / count * c + left % count ≡ left) × (left % count < c)
    under h =
        let same : count ≡ c = omega (arith, e, h) in
        let low : left % count < count = mod-lt left some in
        (ap (λ x. left / count * x + left % count) (sym same) ∙ div-add-mod' left count, subst (λ x. left % count < x) same low)

    over : m < c → (left / count * c + left % count ≡ left) × (left % count < c)
    over h =
        let same : count ≡ m = omega (arith, e, h) in
        let below : left < count = omega (arith, same, less) in
        let none : left / count ≡ 0 = div-eq_of_lt below in
        let all : left % count ≡ left = mod-eq_of_lt below in
        let sum : 0 * c + left ≡ left = omega arith in
        (ap₂ (λ x y. x * c + y) none all ∙ sum, omega (arith, all, less, h))

module _ (s : Span) (ss : List Span) (x left count m : ℕ) (e : count ≡ min (element_count (span_lengths ss)) m) (less : left < m) where
  abbrev c : ℕ
  c = element_count (span_lengths ss)

  abbrev inner : ℕ → List ℕ
  inner k = listed ss (x + k * s.stride)

  long : (k : ℕ) → length (inner k) ≡ c
  long k = listed_count ss (x + k * s.stride)

  pub place_rest : 0 < count → left / count < s.length → slice_get (listed (s ∷ ss) x) left ≡ slice_get (listed ss (x + left / count * s.stride)) (left % count)
  place_rest some below =
      let parts = split c count left m e less some in
      let z : 0 + left / count ≡ left / count = omega arith in
      ap (slice_get (listed (s ∷ ss) x)) (sym parts.0) ∙ flat_at inner c 0 s.length (left / count) (left % count) long below parts.1 ∙ ap (λ k. slice_get (inner k) (left % count)) z

  pub place_past : 0 < count → s.length ≤ left / count → slice_get (listed (s ∷ ss) x) left ≡ None
  place_past some past =
      let parts = split c count left m e less some in
      let all : length (listed (s ∷ ss) x) ≡ s.length * c = listed_count (s ∷ ss) x in
      let most : s.length * c ≤ left / count * c = grind (arith, past) in
      let whole = parts.0 in
      slice_get_past (listed (s ∷ ss) x) left (omega (arith, all, most, whole))

  pub place_nowhere : count ≡ 0 → slice_get (listed (s ∷ ss) x) left ≡ None
  place_nowhere none =
      let all : length (listed (s ∷ ss) x) ≡ s.length * c = listed_count (s ∷ ss) x in
      let zeroth : c ≡ 0 = omega (arith, e, none, less) in
      let z : s.length * c ≡ 0 = ap (λ y. s.length * y) zeroth ∙ nothing s.length in
      slice_get_past (listed (s ∷ ss) x) left (omega (arith, all, z))
    where
      nothing : (n : ℕ) → n * 0 ≡ 0
      nothing n = grind arith

module _ (ss : List Span) (at number left count m : ℕ) (d : Span) (below : at < length ss)
    (e : count ≡ min (element_count (span_lengths (take (length ss - (at + 1)) (drop (at + 1) ss)))) m) (less : left < m) where
  abbrev rest : List Span
  rest = drop (suc at) ss

  j : at + 1 ≡ suc at
  j = omega arith

  counted : count ≡ min (element_count (span_lengths rest)) m
  counted = e ∙ ap (λ xs. min (element_count (span_lengths xs)) m) (take_rest ss (at + 1) ∙ ap (λ k. drop k ss) j)

  front : drop at ss ≡ get_or ss at d ∷ rest
  front = drop-cons ss at d below

  pub next_place : 0 < count → left / count < (get_or ss at d).length
      → slice_get (listed (drop at ss) number) left ≡ slice_get (listed (drop (at + 1) ss) (number + left / count * (get_or ss at d).stride)) (left % count)
  next_place some within =
      ap (λ xs. slice_get (listed xs number) left) front ∙ place_rest (get_or ss at d) rest number left count m counted less some within
      ∙ ap (λ k. slice_get (listed (drop k ss) (number + left / count * (get_or ss at d).stride)) (left % count)) (sym j)

  pub place_behind : 0 < count → (get_or ss at d).length ≤ left / count → slice_get (listed (drop at ss) number) left ≡ None
  place_behind some past = ap (λ xs. slice_get (listed xs number) left) front ∙ place_past (get_or ss at d) rest number left count m counted less some past

  pub no_place : count ≡ 0 → slice_get (listed (drop at ss) number) left ≡ None
  no_place none = ap (λ xs. slice_get (listed xs number) left) front ∙ place_nowhere (get_or ss at d) rest number left count m counted less none

-- an index and what is left take no more than what was left
pub still_room : (number left count stride : ℕ) → 0 < count → stride < 2 ^ 32 → number + left / count * stride + left % count * 2 ^ 32 ≤ number + left * 2 ^ 32
still_room number left count stride some small =
    let whole = div-add-mod' left count in
    let step : left / count * stride ≤ left / count * 2 ^ 32 = mono (left / count) stride (2 ^ 32) (omega (arith, small)) in
    let fewer : left / count ≤ left / count * count = times (left / count) count some in
    omega (arith, whole, step, fewer)
  where
    mono : (a b k : ℕ) → b ≤ k → a * b ≤ a * k
    mono a b k h = grind (arith, h)

    times : (a b : ℕ) → 0 < b → a ≤ a * b
    times a zero h = absurd (omega (arith, h))
    times a (suc b) h = let e : a * suc b ≡ a + a * b = grind arith in omega (arith, e)

-- how many numbers there are
pub told_count : (others : List ℕ) (o : Option Stretch) (r : Stretch) (count : ℕ) → o ≡ Some r → length (others ++ told o) < 2 ^ 64 → count ≡ min (element_count (span_lengths r.spans)) (2 ^ 128 - 1)
    → length others + count ≡ length (others ++ told o)
told_count others o r count e few is =
    let whole : length (others ++ told o) ≡ length others + element_count (span_lengths r.spans) =
    ap (λ p. length (others ++ told p)) e ∙ length-append others (listed r.spans r.first) ∙ ap (λ k. length others + k) (listed_count r.spans r.first) in
    omega (arith, whole, few, is)

pub few_listed : (spans : List Span) (first count : ℕ) → count ≡ min (element_count (span_lengths spans)) (2 ^ 128 - 1) → count < 2 ^ 64 → length (listed spans first) < 2 ^ 64
few_listed spans first count is few = let all = listed_count spans first in omega (arith, all, is, few)
