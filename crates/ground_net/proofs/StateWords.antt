-- Words within the widths of a state's leaves are those of the state that they give.
use Rattle.std.proofs.Common.{◌≡◌, ℕ, zero, suc, ◌+◌, ◌-◌, ◌*◌, ◌/◌, ◌%◌, ◌^◌, ◌<◌, ◌≤◌, min, nat_lt, Bool, true, false, List, [], ◌∷◌, ◌++◌, map, take, length, slice_get, slice_index, sum_by, refl, sym, ap, ap₂, ◌∙◌, subst, arith, Option, Some, None, ℤ, pos, if◌then◌else◌}
use Rattle.std.specs.List.{flat_map, range_with_len, AllZip}
use Rattle.std.specs.Prelude.{zip}
use Rattle.std.proofs.Math.Nat.{mod-eq_of_lt, pow-le-pow_right, min-le_left}
use Rattle.std.proofs.lemmas.Nat.{pow-add}
use Rattle.std.proofs.lemmas.List.Sums.{sum_by-cons}
use Rattle.std.proofs.lemmas.Bool.Decides.{nat_tests}
use Rattle.bit_words.specs.declared.value.Value.{Value}
use Rattle.bit_words.specs.Values.{integer_of}
use Rattle.bit_words.proofs.Congruence.{bits_below}
use Rattle.prim_ops.specs.Values.{fitted}
use Rattle.ground_net.specs.declared.net.Net.{Net}
use Rattle.ground_net.specs.declared.net.Leaf.{Leaf}
use Rattle.ground_net.specs.declared.net.NetMemory.{NetMemory}
use Rattle.ground_net.specs.Shapes.{Shape, shape_of_value}
use Rattle.ground_net.specs.Cycles.{NetState, captures}
use Rattle.ground_net.specs.Nets.{shape_or_none, element_shape, register_shapes, element_shapes, captured_shapes, IsIn, IsWithin}
use Rattle.ground_net.specs.Words.{words_of_value, kept, word_count, kept_all, words_of_memory, words_of, count_words, register_word, element_words, memory_words, memory_word, element_word, captured_word, state_words, high_at, value_at, integer_at_word, element_integer, state_of, word_widths, all_word_widths, memory_word_widths, state_word_widths, AreStateWords}
use Rattle.ground_net.proofs.Shaping.{fitted_shape}
use Rattle.ground_net.proofs.Ranges.{refit_shape, in_range, zero_in}
use Rattle.ground_net.proofs.Placing.{append_assoc, append_nil, length_append, index_at, index_next, length_flat_map, sum_range}

-- Lists that go together

abbrev pub Fits : ℕ → ℕ → Type 0
Fits bits word = word < 2 ^ bits

record Parts (first second words : List ℕ) : Type 0 where
  front : List ℕ
  back : List ℕ
  is : words ≡ front ++ back
  fits : AllZip Fits first front
  fit : AllZip Fits second back

parts : (first second words : List ℕ) → AllZip Fits (first ++ second) words → Parts first second words
parts [] second words h = record { front = []; back = words; is = refl; fits = tt; fit = h }
parts (b ∷ first) second [] h = absurd h
parts (b ∷ first) second (w ∷ words) h = let rest = parts first second words h.1 in record {
  front = w ∷ rest.front;
  back = rest.back;
  is = ap (λ l. w ∷ l) rest.is;
  fits = (h.0, rest.fits);
  fit = rest.fit;
}

pub fits_both : (first second front back : List ℕ) → AllZip Fits first front → AllZip Fits second back → AllZip Fits (first ++ second) (front ++ back)
fits_both [] second [] back h k = k
fits_both [] second (w ∷ front) back h k = absurd h
fits_both (b ∷ first) second [] back h k = absurd h
fits_both (b ∷ first) second (w ∷ front) back h k = (h.0, fits_both first second front back h.1 k)

none_left : (words : List ℕ) → AllZip Fits [] words → [] ≡ words
none_left [] h = refl
none_left (w ∷ words) h = absurd h

-- a part of a part of a list
nested : (words front piece back first second : List ℕ) → words ≡ front ++ (piece ++ back) → piece ≡ first ++ second → words ≡ front ++ (first ++ (second ++ back))
nested words front piece back first second e f = e ∙ ap (λ l. front ++ l) (ap (λ l. l ++ back) f ∙ append_assoc first second back)

shifted : (words front first rest : List ℕ) → words ≡ front ++ (first ++ rest) → words ≡ (front ++ first) ++ rest
shifted words front first rest e = e ∙ sym (append_assoc front first rest)

-- One leaf

small_min : (w : ℕ) → w ≤ 128 → min w 128 ≡ w
small_min w h = omega (arith, h)

-- a word within its bits is the word of the value that it gives
low_back : (t : Shape) → t.width ≤ 128 → (n : ℕ) → n < 2 ^ t.width → (fitted t.kind t.width (pos n)).bits ≡ n
low_back t narrow n h = ap (λ w. n % 2 ^ w) (small_min t.width narrow) ∙ mod-eq_of_lt h

refit_kept : (t : Shape) → t.width ≤ 128 → (v : Value) → shape_of_value v ≡ t → kept t (integer_of v) ≡ words_of_value v
refit_kept t narrow v e = ap words_of_value (refit_shape v t e)

below_product : (x y p q : ℕ) → q ≡ p * 2 ^ 64 → x < 2 ^ 64 → y < p → x + y * 2 ^ 64 < q
below_product x y p q e h k = omega (arith, e, h, k)

quotient_below : (b p q : ℕ) → q ≡ p * 2 ^ 64 → b < q → b / 2 ^ 64 < p
quotient_below b p q e h = omega (arith, e, h)

two_below : (w x y : ℕ) → 64 < w → x < 2 ^ 64 → y < 2 ^ (w - 64) → x + y * 2 ^ 64 < 2 ^ w
two_below w x y wide h k =
    let split : w ≡ w - 64 + 64 = omega (arith, wide) in
    let whole : 2 ^ w ≡ 2 ^ (w - 64) * 2 ^ 64 = ap (λ n. 2 ^ n) split ∙ pow-add 2 (w - 64) 64 in
    below_product x y (2 ^ (w - 64)) (2 ^ w) whole h k

low_of : (x y : ℕ) → x < 2 ^ 64 → (x + y * 2 ^ 64) % 2 ^ 64 ≡ x
low_of x y h = omega (arith, h)

high_of : (x y : ℕ) → x < 2 ^ 64 → (x + y * 2 ^ 64) / 2 ^ 64 ≡ y
high_of x y h = omega (arith, h)

one_back : (words : List ℕ) (t : Shape) → t.width ≤ 128 → (front piece back : List ℕ) → words ≡ front ++ (piece ++ back) → AllZip Fits (word_widths t) piece
    → kept t (integer_of (value_at t words (length front))) ≡ piece
one_back words t narrow front piece back e h = by_test (nat_lt 64 t.width) refl piece e h
  where
    is_kept : kept t (integer_of (value_at t words (length front))) ≡ words_of_value (value_at t words (length front))
    is_kept = refit_kept t narrow (value_at t words (length front)) (fitted_shape t.kind t.width (pos (slice_index words (length front) + high_at t words (length front) * 2 ^ 64)) narrow)

    test_min : (b : Bool) → nat_lt 64 t.width ≡ b → nat_lt 64 (value_at t words (length front)).width ≡ b
    test_min b f = ap (nat_lt 64) (small_min t.width narrow) ∙ f

    by_test : (b : Bool) → nat_lt 64 t.width ≡ b → (piece : List ℕ) → words ≡ front ++ (piece ++ back) → AllZip Fits (if b then 64 ∷ (t.width - 64) ∷ [] else t.width ∷ []) piece
        → kept t (integer_of (value_at t words (length front))) ≡ piece
    by_test true f [] e h = absurd h
    by_test true f (x ∷ []) e h = absurd h.1
    by_test true f (x ∷ y ∷ z ∷ piece) e h = absurd h.1.1
    by_test true f (x ∷ y ∷ []) e h =
        let low : slice_index words (length front) ≡ x = ap (λ l. slice_index l (length front)) e ∙ index_at front x (y ∷ back) in
        let high : high_at t words (length front) ≡ y =
        ap (λ c. if c then slice_index words (length front + 1) else 0) f ∙ (ap (λ l. slice_index l (length front + 1)) e ∙ index_next front x y back) in
        let wide : 64 < t.width = grind (arith, nat_tests) in
        let both : slice_index words (length front) + high_at t words (length front) * 2 ^ 64 ≡ x + y * 2 ^ 64 = ap₂ (λ a b. a + b * 2 ^ 64) low high in
        let bits : (value_at t words (length front)).bits ≡ x + y * 2 ^ 64 = ap (λ n. (fitted t.kind t.width (pos n)).bits) both ∙ low_back t narrow (x + y * 2 ^ 64) (two_below t.width x y wide h.0 h.1.0) in
        is_kept ∙ (ap (λ c. if c then (value_at t words (length front)).bits % 2 ^ 64 ∷ (value_at t words (length front)).bits / 2 ^ 64 ∷ [] else (value_at t words (length front)).bits ∷ []) (test_min true f)
        ∙ ap₂ (λ a b. a ∷ b ∷ []) (ap (λ n. n % 2 ^ 64) bits ∙ low_of x y h.0) (ap (λ n. n / 2 ^ 64) bits ∙ high_of x y h.0))
    by_test false f [] e h = absurd h
    by_test false f (x ∷ y ∷ piece) e h = absurd h.1
    by_test false f (x ∷ []) e h =
        let low : slice_index words (length front) ≡ x = ap (λ l. slice_index l (length front)) e ∙ index_at front x back in
        let high : high_at t words (length front) ≡ 0 = ap (λ c. if c then slice_index words (length front + 1) else 0) f in
        let z : x + 0 * 2 ^ 64 ≡ x = omega arith in
        let both : slice_index words (length front) + high_at t words (length front) * 2 ^ 64 ≡ x = ap₂ (λ a b. a + b * 2 ^ 64) low high ∙ z in
        let bits : (value_at t words (length front)).bits ≡ x = ap (λ n. (fitted t.kind t.width (pos n)).bits) both ∙ low_back t narrow x h.0 in
        is_kept ∙ (ap (λ c. if c then (value_at t words (length front)).bits % 2 ^ 64 ∷ (value_at t words (length front)).bits / 2 ^ 64 ∷ [] else (value_at t words (length front)).bits ∷ []) (test_min false f) ∙ ap (λ n. n ∷ []) bits)

low_below : (n : ℕ) → n % 2 ^ 64 < 2 ^ 64
low_below n = omega arith

-- the words of a value fit
pub kept_fits : (t : Shape) (n : ℤ) → AllZip Fits (word_widths t) (kept t n)
kept_fits t n = by_test (nat_lt 64 t.width) (nat_lt 64 (min t.width 128)) refl refl (same_test t.width)
  where
    below : (fitted t.kind t.width n).bits < 2 ^ t.width
    below = let most : 2 ^ min t.width 128 ≤ 2 ^ t.width = pow-le-pow_right (omega arith) (min-le_left t.width 128) in let h : (fitted t.kind t.width n).bits < 2 ^ min t.width 128 = bits_below (min t.width 128) n in omega (arith, most, h)

    same_test : (w : ℕ) → nat_lt 64 (min w 128) ≡ nat_lt 64 w
    same_test w = grind (arith, nat_tests)

    by_test : (b c : Bool) → nat_lt 64 t.width ≡ b → nat_lt 64 (fitted t.kind t.width n).width ≡ c → c ≡ b
        → AllZip Fits (if b then 64 ∷ (t.width - 64) ∷ [] else t.width ∷ []) (if c then (fitted t.kind t.width n).bits % 2 ^ 64 ∷ (fitted t.kind t.width n).bits / 2 ^ 64 ∷ [] else (fitted t.kind t.width n).bits ∷ [])
    by_test true true e f same =
        let wide : 64 < t.width = grind (arith, nat_tests) in
        let split : t.width ≡ t.width - 64 + 64 = omega (arith, wide) in
        let whole : 2 ^ t.width ≡ 2 ^ (t.width - 64) * 2 ^ 64 = ap (λ n. 2 ^ n) split ∙ pow-add 2 (t.width - 64) 64 in
        (low_below (fitted t.kind t.width n).bits, (quotient_below (fitted t.kind t.width n).bits (2 ^ (t.width - 64)) (2 ^ t.width) whole below, tt))
    by_test false false e f same = (below, tt)
    by_test true false e f same = cc
    by_test false true e f same = cc

fits_length : (widths words : List ℕ) → AllZip Fits widths words → length words ≡ length widths
fits_length [] [] h = refl
fits_length [] (w ∷ words) h = absurd h
fits_length (b ∷ widths) [] h = absurd h
fits_length (b ∷ widths) (w ∷ words) h = ap suc (fits_length widths words h.1)

-- Leaves that are kept side by side

abbrev AreNarrow : List Shape → Type 0
AreNarrow shapes = (k : ℕ) (t : Shape) → slice_get shapes k ≡ Some t → t.width ≤ 128

narrow_map : {A : Type 0} (f : A → Shape) → ((x : A) → (f x).width ≤ 128) → (xs : List A) → AreNarrow (map f xs)
narrow_map f h [] k t e = cc
narrow_map f h (x ∷ xs) zero t e = let same : f x ≡ t = cc in subst (λ t. t.width ≤ 128) same (h x)
narrow_map f h (x ∷ xs) (suc k) t e = narrow_map f h xs k t e

narrow_leaf : (o : Option Leaf) → (shape_or_none o).width ≤ 128
narrow_leaf (Some leaf) = leaf.narrow
narrow_leaf None = omega arith

widths_counted : (shapes : List Shape) → length (all_word_widths shapes) ≡ count_words shapes
widths_counted shapes = length_flat_map word_widths word_count one shapes
  where
    by_test : (b : Bool) (w : ℕ) → length (if b then 64 ∷ (w - 64) ∷ [] else w ∷ []) ≡ (if b then 2 else 1)
    by_test true w = refl
    by_test false w = refl

    one : (t : Shape) → length (word_widths t) ≡ word_count t
    one t = by_test (nat_lt 64 t.width) t.width

one_counted : (t : Shape) (piece : List ℕ) → AllZip Fits (word_widths t) piece → length piece ≡ word_count t
one_counted t piece h = fits_length (word_widths t) piece h ∙ by_test (nat_lt 64 t.width)
  where
    by_test : (b : Bool) → length (if b then 64 ∷ (t.width - 64) ∷ [] else t.width ∷ []) ≡ (if b then 2 else 1)
    by_test true = refl
    by_test false = refl

module _ (words : List ℕ) where
  list_back : (a : ℕ) (shapes : List Shape) (integers : ℕ → ℤ) (front piece back : List ℕ) → AreNarrow shapes → words ≡ front ++ (piece ++ back) → AllZip Fits (all_word_widths shapes) piece
      → ((k : ℕ) (t : Shape) → slice_get shapes k ≡ Some t → integers (a + k) ≡ integer_of (value_at t words (length front + count_words (take k shapes))))
      → flat_map (λ both. kept both.1 (integers both.0)) (zip (range_with_len a (length shapes)) shapes) ≡ piece
  list_back a [] integers front piece back narrow e h read = none_left piece h
  list_back a (t ∷ shapes) integers front piece back narrow e h read =
      let cut = parts (word_widths t) (all_word_widths shapes) piece h in
      let there = nested words front piece back cut.front cut.back e cut.is in
      let here = one_back words t (narrow 0 t refl) front cut.front (cut.back ++ back) there cut.fits in
      let z : a + 0 ≡ a = omega arith in
      let y : length front + 0 ≡ length front = omega arith in
      let first : integers a ≡ integer_of (value_at t words (length front)) = sym (ap integers z) ∙ (read 0 t refl ∙ ap (λ n. integer_of (value_at t words n)) y) in
      let rest = list_back (a + 1) shapes integers (front ++ cut.front) cut.back back (λ k u f. narrow (suc k) u f) (shifted words front cut.front (cut.back ++ back) there) cut.fit
      (λ k u f.
      let n : a + suc k ≡ a + 1 + k = omega arith in
      let m : length front + count_words (take (suc k) (t ∷ shapes)) ≡ length (front ++ cut.front) + count_words (take k shapes) = moved front cut.front t shapes k (one_counted t cut.front cut.fits) in
      sym (ap integers n) ∙ (read (suc k) u f ∙ ap (λ n. integer_of (value_at u words n)) m)) in
      ap₂ (λ x y. x ++ y) (ap (kept t) first ∙ here) rest ∙ sym cut.is
    where
      moved : (front first : List ℕ) (t : Shape) (shapes : List Shape) (k : ℕ) → length first ≡ word_count t
          → length front + count_words (take (suc k) (t ∷ shapes)) ≡ length (front ++ first) + count_words (take k shapes)
      moved front first t shapes k e =
          let l = length_append front first in
          let s : count_words (take (suc k) (t ∷ shapes)) ≡ word_count t + count_words (take k shapes) = sum_by-cons word_count t (take k shapes) in
          omega (arith, l, s, e)

  kept_back : (shapes : List Shape) (integers : ℕ → ℤ) (front piece back : List ℕ) (at : ℕ) → AreNarrow shapes → words ≡ front ++ (piece ++ back) → length front ≡ at → AllZip Fits (all_word_widths shapes) piece
      → ((k : ℕ) (t : Shape) → slice_get shapes k ≡ Some t → integers k ≡ integer_of (value_at t words (at + count_words (take k shapes))))
      → kept_all shapes integers ≡ piece
  kept_back shapes integers front piece back at narrow e there h read = list_back 0 shapes integers front piece back narrow e h
      (λ k t f. let z : 0 + k ≡ k = omega arith in ap integers z ∙ (read k t f ∙ ap (λ n. integer_of (value_at t words (n + count_words (take k shapes)))) (sym there)))

-- The whole state

module _ (net : Net) (words : List ℕ) where
  abbrev s : NetState
  s = state_of net words

  module _ (m : ℕ) (memory : NetMemory) (known : slice_get net.memories m ≡ Some memory) where
    element_back : (element : ℕ) → element < memory.depth → (front piece back : List ℕ) → words ≡ front ++ (piece ++ back) → length front ≡ memory_word net m + element * element_words memory
        → AllZip Fits (all_word_widths (element_shapes memory)) piece → kept_all (element_shapes memory) (s.contents m element) ≡ piece
    element_back element below front piece back e at h =
        kept_back words (element_shapes memory) (s.contents m element) front piece back _ (narrow_map element_shape (λ leaf. leaf.narrow) memory.elements) e at h
        (λ k t f.
        let test : nat_lt element memory.depth ≡ true = grind (arith, nat_tests) in
        let z : memory_word net m + (element * element_words memory + count_words (take k (element_shapes memory))) ≡ memory_word net m + element * element_words memory + count_words (take k (element_shapes memory)) = omega arith in
        ap (λ o. element_integer net words m o element k) known
        ∙ (ap (λ b. if b then integer_at_word words (element_word net m memory element k) (slice_get (element_shapes memory) k) else pos 0) test
        ∙ (ap (integer_at_word words (element_word net m memory element k)) f ∙ ap (λ n. integer_of (value_at t words n)) z)))

    elements_back : (a n : ℕ) → a + n ≡ memory.depth → (front piece back : List ℕ) → words ≡ front ++ (piece ++ back) → length front ≡ memory_word net m + a * element_words memory
        → AllZip Fits (flat_map (λ element. all_word_widths (element_shapes memory)) (range_with_len a n)) piece
        → flat_map (λ element. kept_all (element_shapes memory) (s.contents m element)) (range_with_len a n) ≡ piece
    elements_back a zero sum front piece back e at h = none_left piece h
    elements_back a (suc n) sum front piece back e at h =
        let cut = parts (all_word_widths (element_shapes memory)) (flat_map (λ element. all_word_widths (element_shapes memory)) (range_with_len (a + 1) n)) piece h in
        let there = nested words front piece back cut.front cut.back e cut.is in
        let many : length cut.front ≡ element_words memory = fits_length (all_word_widths (element_shapes memory)) cut.front cut.fits ∙ widths_counted (element_shapes memory) in
        ap₂ (λ x y. x ++ y) (element_back a (omega (arith, sum)) front cut.front (cut.back ++ back) there at cut.fits)
        (elements_back (a + 1) n (omega (arith, sum)) (front ++ cut.front) cut.back back (shifted words front cut.front (cut.back ++ back) there) (moved front cut.front (memory_word net m) a (element_words memory) at many) cut.fit)
        ∙ sym cut.is
      where
        moved : (front first : List ℕ) (p a w : ℕ) → length front ≡ p + a * w → length first ≡ w → length (front ++ first) ≡ p + (a + 1) * w
        moved front first p a w e f = let l = length_append front first in let g : (a + 1) * w ≡ a * w + w = grind arith in omega (arith, l, e, f, g)

    memory_back : (front piece back : List ℕ) → words ≡ front ++ (piece ++ back) → length front ≡ memory_word net m → AllZip Fits (memory_word_widths memory) piece → words_of_memory memory (s.contents m) ≡ piece
    memory_back front piece back e at h =
        let z : 0 + memory.depth ≡ memory.depth = omega arith in
        let y : memory_word net m ≡ memory_word net m + 0 * element_words memory = omega arith in
        elements_back 0 memory.depth z front piece back e (at ∙ y) h

  memory_counted : (memory : NetMemory) → length (memory_word_widths memory) ≡ memory_words memory
  memory_counted memory =
      length_flat_map (λ element. all_word_widths (element_shapes memory)) (λ element. element_words memory) (λ element. widths_counted (element_shapes memory)) (range_with_len 0 memory.depth)
      ∙ sum_range (λ element. element_words memory) (element_words memory) (λ element. refl) 0 memory.depth

  sum_more : (h : NetMemory → ℕ) (xs : List NetMemory) (k : ℕ) (x : NetMemory) → slice_get xs k ≡ Some x → sum_by h (take (k + 1) xs) ≡ sum_by h (take k xs) + h x
  sum_more h [] k x e = cc
  sum_more h (y ∷ ys) zero x e =
      let same : y ≡ x = cc in sum_by-cons h y [] ∙ (ap (λ n. n + 0) (ap h same) ∙ flip (h x))
    where
      flip : (n : ℕ) → n + 0 ≡ 0 + n
      flip n = omega arith
  sum_more h (y ∷ ys) (suc k) x e =
      let n : suc k + 1 ≡ suc (k + 1) = omega arith in
      let z : sum_by h (take (suc k + 1) (y ∷ ys)) ≡ sum_by h (y ∷ take (k + 1) ys) = ap (λ n. sum_by h (take n (y ∷ ys))) n in
      let a = sum_by-cons h y (take (k + 1) ys) in
      let b : sum_by h (take (suc k) (y ∷ ys)) ≡ h y + sum_by h (take k ys) = sum_by-cons h y (take k ys) in
      let c = sum_more h ys k x e in
      omega (arith, z, a, b, c)

  memories_back : (a : ℕ) (memories : List NetMemory) → ((k : ℕ) (memory : NetMemory) → slice_get memories k ≡ Some memory → slice_get net.memories (a + k) ≡ Some memory)
      → (front piece back : List ℕ) → words ≡ front ++ (piece ++ back) → length front ≡ memory_word net a → AllZip Fits (flat_map memory_word_widths memories) piece
      → flat_map (λ both. words_of_memory both.1 (s.contents both.0)) (zip (range_with_len a (length memories)) memories) ≡ piece
  memories_back a [] known front piece back e at h = none_left piece h
  memories_back a (memory ∷ memories) known front piece back e at h =
      let cut = parts (memory_word_widths memory) (flat_map memory_word_widths memories) piece h in
      let there = nested words front piece back cut.front cut.back e cut.is in
      let z : a + 0 ≡ a = omega arith in
      let here : slice_get net.memories a ≡ Some memory = sym (ap (slice_get net.memories) z) ∙ known 0 memory refl in
      let many : length cut.front ≡ memory_words memory = fits_length (memory_word_widths memory) cut.front cut.fits ∙ memory_counted memory in
      let l = length_append front cut.front in
      let more = sum_more memory_words net.memories a memory here in
      ap₂ (λ x y. x ++ y) (memory_back a memory here front cut.front (cut.back ++ back) there at cut.fits)
      (memories_back (a + 1) memories
      (λ k x f. let n : a + suc k ≡ a + 1 + k = omega arith in sym (ap (slice_get net.memories) n) ∙ known (suc k) x f)
      (front ++ cut.front) cut.back back (shifted words front cut.front (cut.back ++ back) there) (omega (arith, l, at, many, more)) cut.fit)
      ∙ sym cut.is

  memories_counted : length (flat_map memory_word_widths net.memories) ≡ sum_by memory_words net.memories
  memories_counted = length_flat_map memory_word_widths memory_words memory_counted net.memories

  pub words_back : AreStateWords net words → words_of net s ≡ words
  words_back h =
      let first = parts (all_word_widths (register_shapes net)) (flat_map memory_word_widths net.memories ++ all_word_widths (captured_shapes net)) words h in
      let second = parts (flat_map memory_word_widths net.memories) (all_word_widths (captured_shapes net)) first.back first.fit in
      let many : length first.front ≡ count_words (register_shapes net) = fits_length (all_word_widths (register_shapes net)) first.front first.fits ∙ widths_counted (register_shapes net) in
      let more : length second.front ≡ sum_by memory_words net.memories = fits_length (flat_map memory_word_widths net.memories) second.front second.fits ∙ memories_counted in
      let there : words ≡ first.front ++ (second.front ++ second.back) = first.is ∙ ap (λ l. first.front ++ l) second.is in
      let last : words ≡ (first.front ++ second.front) ++ (second.back ++ []) = shifted words first.front second.front second.back there ∙ ap (λ l. (first.front ++ second.front) ++ l) (sym (append_nil second.back)) in
      let l = length_append first.front second.front in
      ap₂ (λ x y. x ++ y)
      (kept_back words (register_shapes net) s.registers [] first.front first.back 0 (narrow_map (λ register. shape_or_none (slice_get net.leaves register.leaf)) (λ register. narrow_leaf (slice_get net.leaves register.leaf)) net.registers) first.is refl first.fits
      (λ k t f. let z : register_word net k ≡ 0 + register_word net k = omega arith in ap (integer_at_word words (register_word net k)) f ∙ ap (λ n. integer_of (value_at t words n)) z))
      (ap₂ (λ x y. x ++ y)
      (memories_back 0 net.memories (λ k memory f. let z : k ≡ 0 + k = omega arith in sym (ap (slice_get net.memories) z) ∙ f) first.front second.front second.back there (many ∙ start (count_words (register_shapes net))) second.fits)
      (kept_back words (captured_shapes net) s.captured (first.front ++ second.front) second.back [] (count_words (register_shapes net) + sum_by memory_words net.memories)
      (narrow_map (λ c. shape_or_none (slice_get net.leaves c.leaf)) (λ c. narrow_leaf (slice_get net.leaves c.leaf)) (captures net)) last (omega (arith, l, many, more)) second.fit
      (λ n t f. ap (integer_at_word words (captured_word net n)) f ∙ ap (λ p. integer_of (value_at t words p)) (grouped (count_words (register_shapes net)) (sum_by memory_words net.memories) (count_words (take n (captured_shapes net)))))))
      ∙ sym there
    where
      start : (n : ℕ) → n ≡ n + 0
      start n = omega arith

      grouped : (a b c : ℕ) → a + (b + c) ≡ a + b + c
      grouped a b c = omega arith

  pub words_counted : AreStateWords net words → length words ≡ state_words net
  words_counted h =
      fits_length (state_word_widths net) words h
      ∙ (length_append (all_word_widths (register_shapes net)) (flat_map memory_word_widths net.memories ++ all_word_widths (captured_shapes net))
      ∙ ap₂ (λ x y. x + y) (widths_counted (register_shapes net))
      (length_append (flat_map memory_word_widths net.memories) (all_word_widths (captured_shapes net)) ∙ ap₂ (λ x y. x + y) memories_counted (widths_counted (captured_shapes net))))

  -- the integers that words give are in the ranges of their leaves
  at_word_in : (at : ℕ) (o : Option Shape) (t : Shape) → t.width ≤ 128 → o ≡ Some t → IsIn t (integer_at_word words at o)
  at_word_in at (Some u) t narrow e = let same : u ≡ t = cc in subst (λ w. IsIn t (integer_of (value_at w words at))) (sym same) (in_range (value_at t words at) t (fitted_shape t.kind t.width (pos (slice_index words at + high_at t words at * 2 ^ 64)) narrow))
  at_word_in at None t narrow e = cc

  pub words_within : IsWithin net s
  words_within = record {
    registers = λ n t e. at_word_in (register_word net n) (slice_get (register_shapes net) n) t
        (narrow_map (λ register. shape_or_none (slice_get net.leaves register.leaf)) (λ register. narrow_leaf (slice_get net.leaves register.leaf)) net.registers n t e) e;
    contents = λ m element k memory t e f. subst (λ o. IsIn t (element_integer net words m o element k)) (sym e) (by_test m element k memory t f (nat_lt element memory.depth));
    captured = λ n t e. at_word_in (captured_word net n) (slice_get (captured_shapes net) n) t
        (narrow_map (λ c. shape_or_none (slice_get net.leaves c.leaf)) (λ c. narrow_leaf (slice_get net.leaves c.leaf)) (captures net) n t e) e;
  }
    where
      by_test : (m element k : ℕ) (memory : NetMemory) (t : Shape) → slice_get (element_shapes memory) k ≡ Some t → (b : Bool)
          → IsIn t (if b then integer_at_word words (element_word net m memory element k) (slice_get (element_shapes memory) k) else pos 0)
      by_test m element k memory t f true = at_word_in (element_word net m memory element k) (slice_get (element_shapes memory) k) t (narrow_map element_shape (λ leaf. leaf.narrow) memory.elements k t f) f
      by_test m element k memory t f false = zero_in t

-- The words of a state fit

list_fits : (a : ℕ) (shapes : List Shape) (integers : ℕ → ℤ) → AllZip Fits (all_word_widths shapes) (flat_map (λ both. kept both.1 (integers both.0)) (zip (range_with_len a (length shapes)) shapes))
list_fits a [] integers = tt
list_fits a (t ∷ shapes) integers = fits_both (word_widths t) (all_word_widths shapes) (kept t (integers a)) _ (kept_fits t (integers a)) (list_fits (a + 1) shapes integers)

elements_fit : (shapes : List Shape) (contents : ℕ → ℕ → ℤ) (range : List ℕ) → AllZip Fits (flat_map (λ element. all_word_widths shapes) range) (flat_map (λ element. kept_all shapes (contents element)) range)
elements_fit shapes contents [] = tt
elements_fit shapes contents (e ∷ range) = fits_both (all_word_widths shapes) _ (kept_all shapes (contents e)) _ (list_fits 0 shapes (contents e)) (elements_fit shapes contents range)

memories_fit : (a : ℕ) (memories : List NetMemory) (contents : ℕ → ℕ → ℕ → ℤ)
    → AllZip Fits (flat_map memory_word_widths memories) (flat_map (λ both. words_of_memory both.1 (contents both.0)) (zip (range_with_len a (length memories)) memories))
memories_fit a [] contents = tt
memories_fit a (memory ∷ memories) contents =
    fits_both (memory_word_widths memory) (flat_map memory_word_widths memories) (words_of_memory memory (contents a)) _ (elements_fit (element_shapes memory) (contents a) (range_with_len 0 memory.depth)) (memories_fit (a + 1) memories contents)

pub words_fit : (net : Net) (s : NetState) → AreStateWords net (words_of net s)
words_fit net s =
    fits_both (all_word_widths (register_shapes net)) _ (kept_all (register_shapes net) s.registers) _ (list_fits 0 (register_shapes net) s.registers)
    (fits_both (flat_map memory_word_widths net.memories) (all_word_widths (captured_shapes net)) _ (kept_all (captured_shapes net) s.captured) (memories_fit 0 net.memories s.contents) (list_fits 0 (captured_shapes net) s.captured))
