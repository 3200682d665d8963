-- Where the words of a state stand.
use Rattle.std.proofs.Common.{◌≡◌, ℕ, zero, suc, ◌+◌, ◌*◌, ◌/◌, ◌%◌, ◌^◌, ◌<◌, ◌≤◌, min, nat_lt, Bool, true, false, List, [], ◌∷◌, ◌++◌, take, length, slice_get, slice_index, sum_by, refl, sym, ap, ap₂, ◌∙◌, subst, arith, Some, ℤ, pos, if◌then◌else◌}
use Rattle.std.specs.List.{flat_map, range_with_len}
use Rattle.std.specs.Prelude.{zip}
use Rattle.std.proofs.Math.Nat.{mod-eq_of_lt}
use Rattle.std.proofs.lemmas.List.Sums.{sum_by-cons}
use Rattle.std.proofs.lemmas.Bool.Decides.{nat_tests}
use Rattle.bit_words.specs.Values.{integer_of}
use Rattle.bit_words.proofs.Congruence.{bits_below}
use Rattle.prim_ops.specs.Values.{fitted}
use Rattle.prim_ops.proofs.Fittings.{same_value}
use Rattle.ground_net.specs.declared.net.Net.{Net}
use Rattle.ground_net.specs.declared.net.NetMemory.{NetMemory}
use Rattle.ground_net.specs.Cones.{numbered}
use Rattle.ground_net.specs.Shapes.{Shape}
use Rattle.ground_net.specs.Cycles.{NetState}
use Rattle.ground_net.specs.Nets.{register_shapes, element_shapes, captured_shapes}
use Rattle.ground_net.specs.Words.{kept, word_count, kept_all, words_of_memory, words_of, count_words, register_word, element_words, memory_words, memory_word, element_word, captured_word, high_at, value_at, integer_at_word, element_integer, state_of}

-- A piece stands in a list at a place.
pub record At (words piece : List ℕ) (at : ℕ) : Type 0 where
  pub front : List ℕ
  pub back : List ℕ
  pub is : words ≡ front ++ (piece ++ back)
  pub place : length front ≡ at

pub append_assoc : (xs ys zs : List ℕ) → (xs ++ ys) ++ zs ≡ xs ++ (ys ++ zs)
append_assoc [] ys zs = refl
append_assoc (x ∷ xs) ys zs = ap (λ l. x ∷ l) (append_assoc xs ys zs)

pub append_nil : (xs : List ℕ) → xs ++ [] ≡ xs
append_nil [] = refl
append_nil (x ∷ xs) = ap (λ l. x ∷ l) (append_nil xs)

pub length_append : (xs ys : List ℕ) → length (xs ++ ys) ≡ length xs + length ys
length_append [] ys = let e : length ys ≡ 0 + length ys = omega arith in e
length_append (x ∷ xs) ys = let h = length_append xs ys in let e : suc (length (xs ++ ys)) ≡ suc (length xs) + length ys = omega (arith, h) in e

pub at_first : (xs ys : List ℕ) → At (xs ++ ys) xs 0
at_first xs ys = record { front = []; back = ys; is = refl; place = refl }

pub at_last : (xs ys : List ℕ) → At (xs ++ ys) ys (length xs)
at_last xs ys = record { front = xs; back = []; is = ap (λ l. xs ++ l) (sym (append_nil ys)); place = refl }

pub at_inside : (words piece part : List ℕ) (p q : ℕ) → At words piece p → At piece part q → At words part (p + q)
at_inside words piece part p q a b = record {
  front = a.front ++ b.front;
  back = b.back ++ a.back;
  is = a.is ∙ (ap (λ l. a.front ++ (l ++ a.back)) b.is ∙ (ap (λ l. a.front ++ l) (append_assoc b.front (part ++ b.back) a.back ∙ ap (λ l. b.front ++ l) (append_assoc part b.back a.back))
      ∙ sym (append_assoc a.front b.front (part ++ (b.back ++ a.back)))));
  place = let l = length_append a.front b.front in let x = a.place in let y = b.place in omega (arith, l, x, y);
}

pub at_place : (words piece : List ℕ) (p q : ℕ) → p ≡ q → At words piece p → At words piece q
at_place words piece p q e a = subst (At words piece) e a

-- a piece of a list of pieces
pub at_flat_map : {A : Type 0} (f : A → List ℕ) (xs : List A) (k : ℕ) (x : A) → slice_get xs k ≡ Some x → At (flat_map f xs) (f x) (sum_by (λ y. length (f y)) (take k xs))
at_flat_map f [] k x e = cc
at_flat_map f (y ∷ ys) zero x e = let same : y ≡ x = cc in subst (λ z. At (f y ++ flat_map f ys) (f z) 0) same (at_first (f y) (flat_map f ys))
at_flat_map f (y ∷ ys) (suc k) x e =
    at_place (f y ++ flat_map f ys) (f x) _ _ (sym (sum_by-cons (λ z. length (f z)) y (take k ys)))
    (at_inside (f y ++ flat_map f ys) (flat_map f ys) (f x) (length (f y)) (sum_by (λ y. length (f y)) (take k ys)) (at_last (f y) (flat_map f ys)) (at_flat_map f ys k x e))

-- numbered items
pub numbered_at : {A : Type 0} (a : ℕ) (xs : List A) (k : ℕ) (x : A) → slice_get xs k ≡ Some x → slice_get (zip (range_with_len a (length xs)) xs) k ≡ Some (a + k, x)
numbered_at a [] k x e = cc
numbered_at a (y ∷ ys) zero x e = let same : y ≡ x = cc in let z : a ≡ a + 0 = omega arith in ap₂ (λ n w. Some (n, w)) z same
numbered_at a (y ∷ ys) (suc k) x e = let z : a + 1 + k ≡ a + suc k = omega arith in numbered_at (a + 1) ys k x e ∙ ap (λ n. Some (n, x)) z

pub numbered_is : {A : Type 0} (xs : List A) (k : ℕ) (x : A) → slice_get xs k ≡ Some x → slice_get (numbered xs) k ≡ Some (k, x)
numbered_is xs k x e = let z : 0 + k ≡ k = omega arith in numbered_at 0 xs k x e ∙ ap (λ n. Some (n, x)) z

pub sum_numbered : {A : Type 0} (g : ℕ × A → ℕ) (h : A → ℕ) → ((n : ℕ) (x : A) → g (n, x) ≡ h x) → (a : ℕ) (xs : List A) (k : ℕ)
    → sum_by g (take k (zip (range_with_len a (length xs)) xs)) ≡ sum_by h (take k xs)
sum_numbered g h e a [] zero = refl
sum_numbered g h e a [] (suc k) = refl
sum_numbered g h e a (x ∷ xs) zero = refl
sum_numbered g h e a (x ∷ xs) (suc k) =
    sum_by-cons g (a, x) (take k (zip (range_with_len (a + 1) (length xs)) xs)) ∙ (ap₂ (λ m n. m + n) (e a x) (sum_numbered g h e (a + 1) xs k) ∙ sym (sum_by-cons h x (take k xs)))

-- lengths

pub kept_length : (t : Shape) (n : ℤ) → length (kept t n) ≡ word_count t
kept_length t n = by_test (nat_lt 64 t.width) (nat_lt 64 (min t.width 128)) (same_test t.width)
  where
    same_test : (w : ℕ) → nat_lt 64 (min w 128) ≡ nat_lt 64 w
    same_test w = grind (arith, nat_tests)

    by_test : (b c : Bool) → c ≡ b → length (if c then (fitted t.kind t.width n).bits % 2 ^ 64 ∷ (fitted t.kind t.width n).bits / 2 ^ 64 ∷ [] else (fitted t.kind t.width n).bits ∷ []) ≡ (if b then 2 else 1)
    by_test true true e = refl
    by_test false false e = refl
    by_test true false e = cc
    by_test false true e = cc

pub length_flat_map : {A : Type 0} (f : A → List ℕ) (h : A → ℕ) → ((x : A) → length (f x) ≡ h x) → (xs : List A) → length (flat_map f xs) ≡ sum_by h xs
length_flat_map f h e [] = refl
length_flat_map f h e (x ∷ xs) = length_append (f x) (flat_map f xs) ∙ (ap₂ (λ m n. m + n) (e x) (length_flat_map f h e xs) ∙ sym (sum_by-cons h x xs))

pub sum_all_numbered : {A : Type 0} (h : A → ℕ) (a : ℕ) (xs : List A) → sum_by (λ both. h both.1) (zip (range_with_len a (length xs)) xs) ≡ sum_by h xs
sum_all_numbered h a [] = refl
sum_all_numbered h a (x ∷ xs) =
    sum_by-cons (λ both. h both.1) (a, x) (zip (range_with_len (a + 1) (length xs)) xs) ∙ (ap (λ n. h x + n) (sum_all_numbered h (a + 1) xs) ∙ sym (sum_by-cons h x xs))

pub kept_all_length : (shapes : List Shape) (integers : ℕ → ℤ) → length (kept_all shapes integers) ≡ count_words shapes
kept_all_length shapes integers = length_flat_map (λ both. kept both.1 (integers both.0)) (λ both. word_count both.1) (λ both. kept_length both.1 (integers both.0)) (numbered shapes) ∙ sum_all_numbered word_count 0 shapes

pub sum_range : (g : ℕ → ℕ) (c : ℕ) → ((x : ℕ) → g x ≡ c) → (a n : ℕ) → sum_by g (range_with_len a n) ≡ n * c
sum_range g c e a zero = let z : 0 ≡ 0 * c = omega arith in z
sum_range g c e a (suc n) = sum_by-cons g a (range_with_len (a + 1) n) ∙ ap₂ (λ x y. x + y) (e a) (sum_range g c e (a + 1) n) ∙ more n c
  where
    more : (n c : ℕ) → c + n * c ≡ suc n * c
    more n c = grind arith

pub take_range : (a n k : ℕ) → k ≤ n → take k (range_with_len a n) ≡ range_with_len a k
take_range a n zero h = refl
take_range a zero (suc k) h = absurd (omega (arith, h))
take_range a (suc n) (suc k) h = ap (λ l. a ∷ l) (take_range (a + 1) n k (omega (arith, h)))

pub range_at : (a n k : ℕ) → k < n → slice_get (range_with_len a n) k ≡ Some (a + k)
range_at a zero k h = absurd (omega (arith, h))
range_at a (suc n) zero h = let z : a ≡ a + 0 = omega arith in ap Some z
range_at a (suc n) (suc k) h = let z : a + 1 + k ≡ a + suc k = omega arith in range_at (a + 1) n k (omega (arith, h)) ∙ ap Some z

pub memory_length : (memory : NetMemory) (contents : ℕ → ℕ → ℤ) → length (words_of_memory memory contents) ≡ memory_words memory
memory_length memory contents =
    length_flat_map (λ element. kept_all (element_shapes memory) (contents element)) (λ element. element_words memory) (λ element. kept_all_length (element_shapes memory) (contents element)) (range_with_len 0 memory.depth)
    ∙ sum_range (λ element. element_words memory) (element_words memory) (λ element. refl) 0 memory.depth

-- one of the integers that are kept
pub kept_at : (shapes : List Shape) (integers : ℕ → ℤ) (k : ℕ) (t : Shape) → slice_get shapes k ≡ Some t → At (kept_all shapes integers) (kept t (integers k)) (count_words (take k shapes))
kept_at shapes integers k t e =
    at_place (kept_all shapes integers) (kept t (integers k)) _ (count_words (take k shapes))
    (sum_numbered (λ both. length (kept both.1 (integers both.0))) word_count (λ n x. kept_length x (integers n)) 0 shapes k)
    (at_flat_map (λ both. kept both.1 (integers both.0)) (numbered shapes) k (k, t) (numbered_is shapes k t e))

-- an element of a memory
pub element_at : (memory : NetMemory) (contents : ℕ → ℕ → ℤ) (element : ℕ) → element < memory.depth
    → At (words_of_memory memory contents) (kept_all (element_shapes memory) (contents element)) (element * element_words memory)
element_at memory contents element h =
    let most : element ≤ memory.depth = omega (arith, h) in
    let z : 0 + element ≡ element = omega arith in
    at_place (words_of_memory memory contents) (kept_all (element_shapes memory) (contents element)) _ (element * element_words memory)
    (ap (sum_by (λ e. length (kept_all (element_shapes memory) (contents e)))) (take_range 0 memory.depth element most)
    ∙ sum_range (λ e. length (kept_all (element_shapes memory) (contents e))) (element_words memory) (λ e. kept_all_length (element_shapes memory) (contents e)) 0 element)
    (at_flat_map (λ e. kept_all (element_shapes memory) (contents e)) (range_with_len 0 memory.depth) element element (range_at 0 memory.depth element h ∙ ap Some z))

-- a memory
pub memory_at : (memories : List NetMemory) (contents : ℕ → ℕ → ℕ → ℤ) (m : ℕ) (memory : NetMemory) → slice_get memories m ≡ Some memory
    → At (flat_map (λ both. words_of_memory both.1 (contents both.0)) (numbered memories)) (words_of_memory memory (contents m)) (sum_by memory_words (take m memories))
memory_at memories contents m memory e =
    at_place (flat_map (λ both. words_of_memory both.1 (contents both.0)) (numbered memories)) (words_of_memory memory (contents m)) _ (sum_by memory_words (take m memories))
    (sum_numbered (λ both. length (words_of_memory both.1 (contents both.0))) memory_words (λ n x. memory_length x (contents n)) 0 memories m)
    (at_flat_map (λ both. words_of_memory both.1 (contents both.0)) (numbered memories) m (m, memory) (numbered_is memories m memory e))

-- What is read where an integer is kept

pub index_at : (front : List ℕ) (x : ℕ) (back : List ℕ) → slice_index (front ++ x ∷ back) (length front) ≡ x
index_at [] x back = refl
index_at (y ∷ front) x back = index_at front x back

pub index_next : (front : List ℕ) (x y : ℕ) (back : List ℕ) → slice_index (front ++ x ∷ y ∷ back) (length front + 1) ≡ y
index_next [] x y back = refl
index_next (z ∷ front) x y back =
    let e : suc (length front) + 1 ≡ suc (length front + 1) = omega arith in
    ap (slice_index (z ∷ (front ++ x ∷ y ∷ back))) e ∙ index_next front x y back

pub halves : (bits : ℕ) → bits % 2 ^ 64 + (bits / 2 ^ 64) * 2 ^ 64 ≡ bits
halves bits = omega arith

pub refit : (t : Shape) (n : ℤ) (low high : ℕ) → low + high * 2 ^ 64 ≡ (fitted t.kind t.width n).bits → fitted t.kind t.width (pos (low + high * 2 ^ 64)) ≡ fitted t.kind t.width n
refit t n low high e =
    same_value (fitted t.kind t.width (pos (low + high * 2 ^ 64))) (fitted t.kind t.width n) refl refl
    (ap (λ b. b % 2 ^ min t.width 128) e ∙ mod-eq_of_lt (bits_below (min t.width 128) n))

pub read_back : (words : List ℕ) (t : Shape) (n : ℤ) (at : ℕ) → At words (kept t n) at → value_at t words at ≡ fitted t.kind t.width n
read_back words t n at a = by_test (nat_lt 64 t.width) (nat_lt 64 (min t.width 128)) refl refl (same_test t.width)
  where
    same_test : (w : ℕ) → nat_lt 64 (min w 128) ≡ nat_lt 64 w
    same_test w = grind (arith, nat_tests)

    low_is : (x : ℕ) (rest : List ℕ) → kept t n ≡ x ∷ rest → slice_index words at ≡ x
    low_is x rest e =
        subst (λ p. slice_index words p ≡ x) a.place (ap (λ l. slice_index l (length a.front)) (a.is ∙ ap (λ l. a.front ++ (l ++ a.back)) e) ∙ index_at a.front x (rest ++ a.back))

    high_is : (x y : ℕ) → kept t n ≡ x ∷ y ∷ [] → slice_index words (at + 1) ≡ y
    high_is x y e =
        subst (λ p. slice_index words (p + 1) ≡ y) a.place (ap (λ l. slice_index l (length a.front + 1)) (a.is ∙ ap (λ l. a.front ++ (l ++ a.back)) e) ∙ index_next a.front x y a.back)

    by_test : (b c : Bool) → nat_lt 64 t.width ≡ b → nat_lt 64 (min t.width 128) ≡ c → nat_lt 64 (min t.width 128) ≡ nat_lt 64 t.width → value_at t words at ≡ fitted t.kind t.width n
    by_test true true e f same =
        let b : ℕ = (fitted t.kind t.width n).bits in
        let k : kept t n ≡ b % 2 ^ 64 ∷ b / 2 ^ 64 ∷ [] = ap (λ c. if c then b % 2 ^ 64 ∷ b / 2 ^ 64 ∷ [] else b ∷ []) f in
        let low = low_is (b % 2 ^ 64) (b / 2 ^ 64 ∷ []) k in
        let high : high_at t words at ≡ b / 2 ^ 64 = ap (λ c. if c then slice_index words (at + 1) else 0) e ∙ high_is (b % 2 ^ 64) (b / 2 ^ 64) k in
        refit t n (slice_index words at) (high_at t words at) (ap₂ (λ x y. x + y * 2 ^ 64) low high ∙ halves b)
    by_test false false e f same =
        let b : ℕ = (fitted t.kind t.width n).bits in
        let k : kept t n ≡ b ∷ [] = ap (λ c. if c then b % 2 ^ 64 ∷ b / 2 ^ 64 ∷ [] else b ∷ []) f in
        let low = low_is b [] k in
        let high : high_at t words at ≡ 0 = ap (λ c. if c then slice_index words (at + 1) else 0) e in
        let z : b + 0 * 2 ^ 64 ≡ b = omega arith in
        refit t n (slice_index words at) (high_at t words at) (ap₂ (λ x y. x + y * 2 ^ 64) low high ∙ z)
    by_test true false e f same = cc
    by_test false true e f same = cc

-- The state of the words of a state

module _ (net : Net) (s : NetState) where
  abbrev words : List ℕ
  words = words_of net s

  abbrev of_memories : List ℕ
  of_memories = flat_map (λ both. words_of_memory both.1 (s.contents both.0)) (numbered net.memories)

  pub registers_back : (n : ℕ) (t : Shape) → slice_get (register_shapes net) n ≡ Some t → (state_of net words).registers n ≡ integer_of (fitted t.kind t.width (s.registers n))
  registers_back n t e =
      ap (integer_at_word words (register_word net n)) e
      ∙ ap integer_of (read_back words t (s.registers n) (register_word net n)
      (at_place words (kept t (s.registers n)) (0 + register_word net n) (register_word net n) (omega arith)
      (at_inside words (kept_all (register_shapes net) s.registers) (kept t (s.registers n)) 0 (register_word net n) (at_first _ _) (kept_at (register_shapes net) s.registers n t e))))

  memories_there : At words of_memories (count_words (register_shapes net))
  memories_there =
      let z : count_words (register_shapes net) + 0 ≡ count_words (register_shapes net) = omega arith in
      at_place words of_memories _ _ z
      (at_inside words (of_memories ++ kept_all (captured_shapes net) s.captured) of_memories (count_words (register_shapes net)) 0
      (at_place words _ _ _ (kept_all_length (register_shapes net) s.registers) (at_last (kept_all (register_shapes net) s.registers) _)) (at_first _ _))

  element_there : (m element k : ℕ) (memory : NetMemory) (t : Shape) → slice_get net.memories m ≡ Some memory → slice_get (element_shapes memory) k ≡ Some t → element < memory.depth
      → At words (kept t (s.contents m element k)) (element_word net m memory element k)
  element_there m element k memory t e f h =
      at_inside words (words_of_memory memory (s.contents m)) (kept t (s.contents m element k)) (memory_word net m) _
      (at_inside words of_memories (words_of_memory memory (s.contents m)) (count_words (register_shapes net)) (sum_by memory_words (take m net.memories))
      memories_there (memory_at net.memories s.contents m memory e))
      (at_inside (words_of_memory memory (s.contents m)) (kept_all (element_shapes memory) (s.contents m element)) (kept t (s.contents m element k)) (element * element_words memory) (count_words (take k (element_shapes memory)))
      (element_at memory (s.contents m) element h) (kept_at (element_shapes memory) (s.contents m element) k t f))

  pub contents_back : (m element k : ℕ) (memory : NetMemory) (t : Shape) → slice_get net.memories m ≡ Some memory → slice_get (element_shapes memory) k ≡ Some t → element < memory.depth
      → (state_of net words).contents m element k ≡ integer_of (fitted t.kind t.width (s.contents m element k))
  contents_back m element k memory t e f h =
      let test : nat_lt element memory.depth ≡ true = grind (arith, nat_tests) in
      ap (λ o. element_integer net words m o element k) e
      ∙ (ap (λ b. if b then integer_at_word words (element_word net m memory element k) (slice_get (element_shapes memory) k) else pos 0) test
      ∙ (ap (integer_at_word words (element_word net m memory element k)) f
      ∙ ap integer_of (read_back words t (s.contents m element k) (element_word net m memory element k) (element_there m element k memory t e f h))))

  memories_length : length of_memories ≡ sum_by memory_words net.memories
  memories_length =
      length_flat_map (λ both. words_of_memory both.1 (s.contents both.0)) (λ both. memory_words both.1) (λ both. memory_length both.1 (s.contents both.0)) (numbered net.memories)
      ∙ sum_all_numbered memory_words 0 net.memories

  captured_there : (n : ℕ) (t : Shape) → slice_get (captured_shapes net) n ≡ Some t → At words (kept t (s.captured n)) (captured_word net n)
  captured_there n t e =
      at_inside words (of_memories ++ kept_all (captured_shapes net) s.captured) (kept t (s.captured n)) (count_words (register_shapes net)) _
      (at_place words _ _ _ (kept_all_length (register_shapes net) s.registers) (at_last (kept_all (register_shapes net) s.registers) _))
      (at_inside (of_memories ++ kept_all (captured_shapes net) s.captured) (kept_all (captured_shapes net) s.captured) (kept t (s.captured n)) (sum_by memory_words net.memories) (count_words (take n (captured_shapes net)))
      (at_place _ (kept_all (captured_shapes net) s.captured) _ _ memories_length (at_last of_memories (kept_all (captured_shapes net) s.captured)))
      (kept_at (captured_shapes net) s.captured n t e))

  pub captured_back : (n : ℕ) (t : Shape) → slice_get (captured_shapes net) n ≡ Some t → (state_of net words).captured n ≡ integer_of (fitted t.kind t.width (s.captured n))
  captured_back n t e =
      ap (integer_at_word words (captured_word net n)) e ∙ ap integer_of (read_back words t (s.captured n) (captured_word net n) (captured_there n t e))
