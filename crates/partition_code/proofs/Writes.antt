-- What the writes of a memory's ports leave in the words of its elements.
use Rattle.std.proofs.Common.{◌≡◌, ◌≢◌, ⊎_elim, ℕ, zero, suc, ◌+◌, ◌-◌, ◌*◌, ◌<◌, ◌≤◌, ◌&&◌, ◌==◌, Bool, true, false, List, [], ◌∷◌, take, length, slice_get, nat_lt, if◌then◌else◌, Some, refl, sym, subst, ap, ◌∙◌, arith}
use Rattle.std.specs.List.{flat_map}
use Rattle.std.proofs.Math.Nat.{mul-le-mul_right, suc-mul}
use Rattle.std.proofs.lemmas.Bool.{eqb-true, eqb-false, cases_lt, cases_eq}
use Rattle.phase_core.specs.Script.{published}
use Rattle.phase_core.proofs.Values.{length-published}
use Rattle.prim_ops.specs.Values.{fitted}
use Rattle.prim_ops.specs.Ports.{Held, Shown, after_port, after_ports}
use Rattle.ground_net.specs.declared.net.Net.{Net}
use Rattle.ground_net.specs.declared.net.NetMemory.{NetMemory}
use Rattle.ground_net.specs.declared.net.NetPort.{NetPort}
use Rattle.ground_net.specs.Grounds.{Instant}
use Rattle.ground_net.specs.Cones.{numbered}
use Rattle.ground_net.specs.Shapes.{Shape}
use Rattle.ground_net.specs.Cycles.{shown}
use Rattle.ground_net.specs.Nets.{element_shapes}
use Rattle.ground_net.specs.Words.{kept, word_count, count_words, element_words, memory_words, memory_word, element_word, state_words}
use Rattle.ground_net.proofs.Placing.{kept_length, numbered_is}
use Rattle.flat_code.specs.Meaning.{stored}
use Rattle.partition_code.specs.Effects.{leaf_told, port_told}
use Rattle.partition_code.proofs.Parts.{sum_part, element_part, memory_part}
use Rattle.partition_code.proofs.Blocks.{one_block, block_of}
use Rattle.partition_code.proofs.Lists.{from_numbered}
use Rattle.partition_code.proofs.Publishing.{Silent, silent, in_two, only_one}
use Rattle.partition_code.proofs.Placed.{Holds}
use Rattle.partition_code.proofs.Left.{kept_stored, kept_silent, silent_where}

-- rows of so many words

less_row : (a b w x y : ℕ) → a < b → x < w → a * w + x ≡ b * w + y → ⊥
less_row a b w x y lt inside e =
    let rows : suc a * w ≤ b * w = mul-le-mul_right w (omega (arith, lt)) in
    plain (a * w) (b * w) w x y (subst (λ n. n ≤ b * w) (suc-mul a w) rows) inside e
  where
    plain : (aw bw w x y : ℕ) → aw + w ≤ bw → x < w → aw + x ≡ bw + y → ⊥
    plain aw bw w x y h lt e = omega (arith, h, lt, e)

one_row : (a b w x y : ℕ) → x < w → y < w → a * w + x ≡ b * w + y → a ≡ b
one_row a b w x y inside other e = ⊎_elim
    (λ same. same)
    (λ apart. ⊎_elim
    (λ lt. absurd (less_row a b w x y lt inside e))
    (λ ge. absurd (less_row b a w y x (behind a b apart ge) other (sym e)))
    (cases_lt a b))
    (cases_eq a b)
  where
    behind : (a b : ℕ) → (a ≡ b → ⊥) → b ≤ a → b < a
    behind a b n le = ⊎_elim (λ lt. lt) (λ ge. absurd (n (omega (arith, le, ge)))) (cases_lt b a)

-- leaves side by side do not share a word
pub leaves_apart : (shapes : List Shape) (j k : ℕ) (t u : Shape) (x y : ℕ) → slice_get shapes j ≡ Some t → slice_get shapes k ≡ Some u → x < word_count t → y < word_count u
    → count_words (take j shapes) + x ≡ count_words (take k shapes) + y → j ≡ k
leaves_apart shapes j k t u x y e f p q same =
    one_block word_count shapes j k (count_words (take j shapes) + x) t u e f (record { from = omega arith; below = omega (arith, p) })
    (record { from = omega (arith, same); below = omega (arith, same, q) })

module _ (net : Net) (m : ℕ) (memory : NetMemory) (there : slice_get net.memories m ≡ Some memory) where
  -- the words have this in the elements
  abbrev Contain : List ℕ → Held ℕ → Type 0
  Contain words held = (b k : ℕ) (t : Shape) → b < memory.depth → slice_get (element_shapes memory) k ≡ Some t → Holds words (element_word net m memory b k) (kept t (held b k))

  -- the place of a leaf of an element
  place_is : (a b j k : ℕ) (t u : Shape) (x y : ℕ) → slice_get (element_shapes memory) j ≡ Some t → slice_get (element_shapes memory) k ≡ Some u → x < word_count t → y < word_count u
      → element_word net m memory a j + x ≡ element_word net m memory b k + y → (a ≡ b) × (j ≡ k)
  place_is a b j k t u x y e f p q same =
      let w = element_words memory in
      let o = count_words (take j (element_shapes memory)) in
      let r = count_words (take k (element_shapes memory)) in
      let flat : a * w + (o + x) ≡ b * w + (r + y) = without (memory_word net m) (a * w) o x (b * w) r y same in
      let row = one_row a b w (o + x) (r + y) (inside o (word_count t) w x (sum_part word_count (element_shapes memory) j t e) p) (inside r (word_count u) w y (sum_part word_count (element_shapes memory) k u f) q) flat in
      (row, leaves_apart (element_shapes memory) j k t u x y e f p q (rest (a * w) (b * w) (o + x) (r + y) (ap (λ n. n * w) row) flat))
    where
      without : (m a o x b r y : ℕ) → (m + (a + o)) + x ≡ (m + (b + r)) + y → a + (o + x) ≡ b + (r + y)
      without m a o x b r y e = omega (arith, e)

      inside : (o c w x : ℕ) → o + c ≤ w → x < c → o + x < w
      inside o c w x h lt = omega (arith, h, lt)

      rest : (a b x y : ℕ) → a ≡ b → a + x ≡ b + y → x ≡ y
      rest a b x y e f = omega (arith, e, f)

  room : (b k : ℕ) (t : Shape) (words : List ℕ) → length words ≡ state_words net → b < memory.depth → slice_get (element_shapes memory) k ≡ Some t → element_word net m memory b k + word_count t ≤ length words
  room b k t words counted lt e =
      plain (memory_word net m) (b * element_words memory + count_words (take k (element_shapes memory))) (word_count t) (memory_words memory) (state_words net) (length words)
      (element_part memory b k t lt e) (memory_part net m memory there) counted
    where
      plain : (m o c w s l : ℕ) → o + c ≤ w → m + w ≤ s → l ≡ s → (m + o) + c ≤ l
      plain m o c w s l h g e = omega (arith, h, g, e)

  -- another leaf of a port tells nothing of a word
  leaf_silent : (q : Shown ℕ) (b j k : ℕ) (t u : Shape) (y : ℕ) → slice_get (element_shapes memory) j ≡ Some t → slice_get (element_shapes memory) k ≡ Some u → y < word_count u → j ≢ k
      → Silent (element_word net m memory b k + y) (leaf_told net m memory q (j, t))
  leaf_silent q b j k t u y e f lt n =
      silent_where (element_word net m memory b k + y) ((q.writes && nat_lt q.address memory.depth) && q.masked j) (stored (element_word net m memory q.address j) (fitted t.kind t.width (q.written j)))
      (λ yes. kept_silent (element_word net m memory q.address j) t (q.written j) (element_word net m memory b k + y) (λ x inside same. n (place_is q.address b j k t u x y e f inside lt same).1))

  -- a leaf of a port leaves what the port writes, or what was there
  leaf_left : (q : Shown ℕ) (held : Held ℕ) (b k : ℕ) (t : Shape) (words : List ℕ) → length words ≡ state_words net → b < memory.depth → slice_get (element_shapes memory) k ≡ Some t
      → Holds words (element_word net m memory b k) (kept t (held b k))
      → Holds (published (leaf_told net m memory q (k, t)) words) (element_word net m memory b k) (kept t (after_port memory.depth held q b k))
  leaf_left q held b k t words counted lt e old = by_tests (q.writes && nat_lt q.address memory.depth) (q.address == b) (q.masked k) refl
    where
      by_tests : (x y z : Bool) → (q.address == b) ≡ y
          → Holds (published (if x && z then stored (element_word net m memory q.address k) (fitted t.kind t.width (q.written k)) else []) words) (element_word net m memory b k)
          (kept t (if x && (y && z) then q.written k else held b k))
      by_tests false y z f = old
      by_tests true true false f = old
      by_tests true false false f = old
      by_tests true true true f =
          subst (λ a. Holds (published (stored (element_word net m memory a k) (fitted t.kind t.width (q.written k))) words) (element_word net m memory b k) (kept t (q.written k)))
          (sym (eqb-true q.address b f)) (kept_stored (element_word net m memory b k) t (q.written k) words (room b k t words counted lt e))
      by_tests true false true f = λ j inside.
          let fits = subst (λ c. j < c) (kept_length t (held b k)) inside in
          silent (stored (element_word net m memory q.address k) (fitted t.kind t.width (q.written k))) words (element_word net m memory b k + j)
          (kept_silent (element_word net m memory q.address k) t (q.written k) (element_word net m memory b k + j) (λ x within same.
          eqb-false q.address b f (place_is q.address b k k t t x j e e within fits same).0))
          ∙ old j inside

  module _ (instant : Instant) where
    port_left : (port : NetPort) (held : Held ℕ) (words : List ℕ) → length words ≡ state_words net → Contain words held
        → Contain (published (port_told net instant m memory port) words) (after_port memory.depth held (shown instant port))
    port_left port held words counted old b k t lt e j inside =
        let q = shown instant port in
        let fits : j < word_count t = subst (λ c. j < c) (kept_length t (after_port memory.depth held q b k)) inside in
        only_one (leaf_told net m memory q) (element_word net m memory b k + j) (numbered (element_shapes memory)) k (k, t) (numbered_is (element_shapes memory) k t e)
        (λ i both f n.
        let from = from_numbered 0 (element_shapes memory) i both f in
        let z : 0 + i ≡ i = omega arith in
        let at : slice_get (element_shapes memory) both.0 ≡ Some both.1 = ap (slice_get (element_shapes memory)) (from.0 ∙ z) ∙ from.1 in
        leaf_silent q b both.0 k both.1 t j at e fits (λ same. n (sym (from.0 ∙ z) ∙ same)))
        words
        ∙ leaf_left q held b k t words counted lt e (old b k t lt e) j inside

    -- all writes leave what the memory holds next
    pub writes_left : (ports : List NetPort) (held : Held ℕ) (words : List ℕ) → length words ≡ state_words net → Contain words held
        → Contain (published (flat_map (port_told net instant m memory) ports) words) (after_ports memory.depth (shown instant) ports held)
    writes_left [] held words counted old = old
    writes_left (port ∷ ports) held words counted old =
        subst (λ l. Contain l (after_ports memory.depth (shown instant) ports (after_port memory.depth held (shown instant port)))) (sym (in_two (port_told net instant m memory) port ports words))
        (writes_left ports (after_port memory.depth held (shown instant port)) (published (port_told net instant m memory port) words) (length-published (port_told net instant m memory port) words ∙ counted)
        (port_left port held words counted old))

  -- each word of the memory is of a leaf of an element
  pub record OfElement (i : ℕ) : Type 0 where
    pub element : ℕ
    pub below : element < memory.depth
    pub leaf : ℕ
    pub shape : Shape
    pub listed : slice_get (element_shapes memory) leaf ≡ Some shape
    pub part : ℕ
    pub inside : part < word_count shape
    pub is : element_word net m memory element leaf + part ≡ i

  rows_of : (d w i : ℕ) → i < d * w → (b : ℕ) × (b < d) × (x : ℕ) × (x < w) × (b * w + x ≡ i)
  rows_of zero w i lt = let z : 0 * w ≡ 0 = omega arith in absurd (none i (0 * w) lt z)
    where
      none : (i n : ℕ) → i < n → n ≡ 0 → ⊥
      none i n lt e = omega (arith, lt, e)
  rows_of (suc d) w i lt = ⊎_elim
      (λ inside. let h = rows_of d w i inside in (h.0, more h.0 d h.1, h.2, h.3, h.4))
      (λ past. (d, omega arith, i - d * w, left i (d * w) w (suc d * w) past lt (suc-mul d w), back i (d * w) past))
      (cases_lt i (d * w))
    where
      more : (b d : ℕ) → b < d → b < suc d
      more b d lt = omega (arith, lt)

      left : (i p w n : ℕ) → p ≤ i → i < n → n ≡ p + w → i - p < w
      left i p w n le lt e = omega (arith, le, lt, e)

      back : (i p : ℕ) → p ≤ i → p + (i - p) ≡ i
      back i p le = omega (arith, le)

  pub of_element : (i : ℕ) → memory_word net m ≤ i → i < memory_word net m + memory_words memory → OfElement i
  of_element i from below =
      let row = rows_of memory.depth (element_words memory) (i - memory_word net m) (less i (memory_word net m) (memory_words memory) from below) in
      let block = block_of word_count (element_shapes memory) row.2 row.3 in
      record {
        element = row.0;
        below = row.1;
        leaf = block.number;
        shape = block.item;
        listed = block.there;
        part = row.2 - count_words (take block.number (element_shapes memory));
        inside = within row.2 (count_words (take block.number (element_shapes memory))) (word_count block.item) block.is.from block.is.below;
        is = whole (memory_word net m) (row.0 * element_words memory) (count_words (take block.number (element_shapes memory))) row.2 i from block.is.from row.4;
      }
    where
      less : (i m n : ℕ) → m ≤ i → i < m + n → i - m < n
      less i m n le lt = omega (arith, le, lt)

      within : (x o c : ℕ) → o ≤ x → x < o + c → x - o < c
      within x o c le lt = omega (arith, le, lt)

      whole : (m r o x i : ℕ) → m ≤ i → o ≤ x → r + x ≡ i - m → (m + (r + o)) + (x - o) ≡ i
      whole m r o x i le from e = omega (arith, le, from, e)
