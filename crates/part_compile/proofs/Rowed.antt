-- Lists that grow beside the net's lists.
use Rattle.std.proofs.Common.{◌≡◌, ◌⊎◌, inl, inr, ⊎_elim, ℕ, zero, suc, ◌+◌, ◌*◌, ◌^◌, ◌<◌, ◌≤◌, List, [], ◌∷◌, ◌++◌, map, take, length, slice_get, slice_index, get_or, sum_by, Option, Some, None, option_and_then, option_map, pos, refl, sym, subst, ap, ap₂, ◌∙◌, arith}
use Rattle.std.proofs.lemmas.Bool.{cases_lt}
use Rattle.std.proofs.Math.Seq.{get_or-append_seam}
use Rattle.std.proofs.lemmas.List.{length-map, length-append, get_or-map, get_or_append_left, take_all}
use Rattle.std.proofs.lemmas.List.Sums.{sum_by-cons, sum_by_more, sum_by_more_le}
use Rattle.std.proofs.Math.Nat.{le-mul_of_pos_right}
use Rattle.std.proofs.lemmas.Option.{slice_get-map, slice_get_within, slice_get_cases, get_or_from_slice_get}
use Rattle.std.specs.Prelude.{IsSome}
use Rattle.ground_net.specs.declared.net.Net.{Net}
use Rattle.ground_net.specs.declared.net.Leaf.{Leaf}
use Rattle.ground_net.specs.declared.net.NetMemory.{NetMemory}
use Rattle.ground_net.specs.declared.net.NetRegister.{NetRegister}
use Rattle.ground_net.specs.Reads.{IsAssigned}
use Rattle.ground_net.proofs.Layers.{maps}
use Rattle.ground_net.specs.declared.net.ElementLeaf.{ElementLeaf}
use Rattle.ground_net.specs.declared.net.Role.TheVariants as role
use Rattle.bit_words.specs.declared.value.Value.{Value}
use Rattle.ground_net.specs.Shapes.{Shape}
use Rattle.ground_net.specs.Cycles.{Capture, captures, element_leaf, fitted_to}
use Rattle.ground_net.specs.Nets.{IsNet, shape_or_none, element_shape, element_shapes, register_shapes, captured_shapes}
use Rattle.ground_net.specs.Words.{word_count, count_words, register_word, captured_word, memory_word, element_words, memory_words, SaysItsWords}
use Rattle.code_draft.specs.declared.sources.Kept.{Kept}
use Rattle.code_draft.specs.declared.sources.Source.{Source}
use Rattle.code_draft.specs.declared.sources.Source.TheVariants as source
use Rattle.code_draft.specs.declared.sources.Elements.{Elements}
use Rattle.code_draft.specs.declared.sources.Sources.{Sources}
use Rattle.code_emit.specs.Emits.{leaf_source, element_source}
use Rattle.code_emit.proofs.Rowing.{some_of}
use Rattle.code_emit.proofs.Shaped.{some_is}
use Rattle.partition_code.specs.FromNets.{IsFrom, HasSource, HasElements}
use Rattle.partition_code.proofs.Parts.{sum_part, further_is}
use Rattle.part_compile.specs.declared.captured.CapturedRead.{CapturedRead}
use Rattle.part_compile.specs.FirstWords.{told_of, AreFirst, HaveNumbers}
use Rattle.part_compile.specs.Complete.{AreAllOf}
use Rattle.part_compile.specs.KeptRows.{kept_as, shapes_at, IsSourceOf, AreSourcesOf, IsElementOf, AreElementsOf, AreMemoriesOf}

pub some_same : {A : Type 0} {x y : A} → Some x ≡ Some y → x ≡ y
some_same e = cc

none_some : {A : Type 0} {x : A} → None ≡ Some x → ⊥
none_some e = cc

push_cases : {A : Type 0} (xs : List A) (y : A) (k : ℕ) (z : A) → slice_get (xs ++ y ∷ []) k ≡ Some z → (slice_get xs k ≡ Some z) ⊎ ((k ≡ length xs) × (y ≡ z))
push_cases [] y zero z e = inr (refl, some_same e)
push_cases [] y (suc k) z e = absurd (none_some e)
push_cases (x ∷ xs) y zero z e = inl e
push_cases (x ∷ xs) y (suc k) z e = ⊎_elim (λ h. inl h) (λ h. inr (ap suc h.0, h.1)) (push_cases xs y k z e)

-- what is true of each pair is so with one more
pub each_more : {A B : Type 0} (P : ℕ → A → B → Type 0) (xs : List A) (ys : List B) (n : ℕ) (x : A) (y : B) → length ys ≡ n → slice_get xs n ≡ Some x → P n x y
    → ((k : ℕ) (a : A) (b : B) → slice_get xs k ≡ Some a → slice_get ys k ≡ Some b → P k a b) → (k : ℕ) (a : A) (b : B) → slice_get xs k ≡ Some a → slice_get (ys ++ y ∷ []) k ≡ Some b → P k a b
each_more P xs ys n x y counted there p h k a b at e = ⊎_elim
    (λ old. h k a b at old)
    (λ new.
    let n_is : n ≡ k = sym (new.0 ∙ counted) in
    let x_is : x ≡ a = some_same (sym there ∙ (ap (slice_get xs) n_is ∙ at)) in
    subst (λ j. P j a b) n_is (subst (λ z. P n z b) x_is (subst (λ w. P n x w) new.1 p)))
    (push_cases ys y k b e)

one_longer : {A : Type 0} (ys : List A) (y : A) (n : ℕ) → length ys ≡ n → length (ys ++ y ∷ []) ≡ n + 1
one_longer ys y n e = let l = length-append ys (y ∷ []) in omega (arith, l, e)

pub sources_none : (net : Net) → AreSourcesOf net 0 []
sources_none net = record { counted = refl; each = λ x leaf o at e. absurd (none_some e) }

pub sources_more : (net : Net) (n : ℕ) (now : List (Option Source)) (leaf : Leaf) (o : Option Source) → AreSourcesOf net n now → slice_get net.leaves n ≡ Some leaf → IsSourceOf net leaf o
    → AreSourcesOf net (n + 1) (now ++ o ∷ [])
sources_more net n now leaf o h there is = record {
  counted = one_longer now o n h.counted;
  each = each_more (λ k l p. IsSourceOf net l p) net.leaves now n leaf o h.counted there is h.each;
}

pub elements_none : (memory : NetMemory) → AreElementsOf memory 0 []
elements_none memory = record { counted = refl; each = λ k leaf e at g. absurd (none_some g) }

pub elements_more : (memory : NetMemory) (n : ℕ) (now : List Elements) (leaf : ElementLeaf) (e : Elements) → AreElementsOf memory n now → slice_get memory.elements n ≡ Some leaf
    → IsElementOf memory n leaf e → AreElementsOf memory (n + 1) (now ++ e ∷ [])
elements_more memory n now leaf e h there is = record {
  counted = one_longer now e n h.counted;
  each = each_more (IsElementOf memory) memory.elements now n leaf e h.counted there is h.each;
}

pub memories_none : (memories : List NetMemory) → AreMemoriesOf memories 0 []
memories_none memories = record { counted = refl; each = λ m memory es at e. absurd (none_some e) }

pub memories_more : (memories : List NetMemory) (n : ℕ) (now : List (List Elements)) (memory : NetMemory) (es : List Elements) → AreMemoriesOf memories n now → slice_get memories n ≡ Some memory
    → AreElementsOf memory (length memory.elements) es → AreMemoriesOf memories (n + 1) (now ++ es ∷ [])
memories_more memories n now memory es h there is = record {
  counted = one_longer now es n h.counted;
  each = each_more (λ k m l. AreElementsOf m (length m.elements) l) memories now n memory es h.counted there is h.each;
}

-- the words of leaves, one after the other
pub shape_at : (net : Net) (leaves : List ℕ) (i : ℕ) (d : Shape) → i < length leaves → get_or (shapes_at net leaves) i d ≡ shape_or_none (slice_get net.leaves (slice_index leaves i))
shape_at net leaves i d lt = get_or-map (λ x. shape_or_none (slice_get net.leaves x)) leaves i 0 d lt

pub words_more : (net : Net) (leaves : List ℕ) (i : ℕ) → i < length leaves
    → count_words (take (i + 1) (shapes_at net leaves)) ≡ count_words (take i (shapes_at net leaves)) + word_count (shape_or_none (slice_get net.leaves (slice_index leaves i)))
words_more net leaves i lt =
    let d = shape_or_none (slice_get net.leaves 0) in
    let long = length-map leaves (λ x. shape_or_none (slice_get net.leaves x)) in
    sum_by_more word_count (shapes_at net leaves) i d (omega (arith, long, lt)) ∙ ap (λ s. count_words (take i (shapes_at net leaves)) + word_count s) (shape_at net leaves i d lt)

pub words_within : (net : Net) (leaves : List ℕ) (i : ℕ) → i < length leaves
    → count_words (take i (shapes_at net leaves)) + word_count (shape_or_none (slice_get net.leaves (slice_index leaves i))) ≤ count_words (shapes_at net leaves)
words_within net leaves i lt =
    let d = shape_or_none (slice_get net.leaves 0) in
    let long = length-map leaves (λ x. shape_or_none (slice_get net.leaves x)) in
    subst (λ s. count_words (take i (shapes_at net leaves)) + word_count s ≤ count_words (shapes_at net leaves)) (shape_at net leaves i d lt)
    (sum_by_more_le word_count (shapes_at net leaves) i d (omega (arith, long, lt)))

-- the words of an element, leaf by leaf
pub element_more : (memory : NetMemory) (k : ℕ) (leaf : ElementLeaf) → slice_get memory.elements k ≡ Some leaf
    → count_words (take (k + 1) (element_shapes memory)) ≡ count_words (take k (element_shapes memory)) + word_count (element_shape leaf)
element_more memory k leaf e =
    let d = element_shape leaf in
    let lt = slice_get_within memory.elements k leaf e in
    let long = length-map memory.elements element_shape in
    sum_by_more word_count (element_shapes memory) k d (omega (arith, long, lt))
    ∙ ap (λ s. count_words (take k (element_shapes memory)) + word_count s) (get_or-map element_shape memory.elements k leaf d lt ∙ ap element_shape (get_or_from_slice_get memory.elements k leaf leaf e))

pub element_all : (memory : NetMemory) (k : ℕ) → length memory.elements ≤ k → count_words (take k (element_shapes memory)) ≡ element_words memory
element_all memory k le = let long = length-map memory.elements element_shape in ap count_words (take_all k (element_shapes memory) (omega (arith, long, le)))

pub element_within : (memory : NetMemory) (k : ℕ) (leaf : ElementLeaf) → slice_get memory.elements k ≡ Some leaf → count_words (take k (element_shapes memory)) + word_count (element_shape leaf) ≤ element_words memory
element_within memory k leaf e = sum_part word_count (element_shapes memory) k (element_shape leaf) (slice_get-map element_shape memory.elements k ∙ ap (option_map element_shape) e)

pub number_there : (memories : List NetMemory) (m : ℕ) (memory : NetMemory) → HaveNumbers memories → slice_get memories m ≡ Some memory → memory.word + element_words memory < 2 ^ 32
number_there memories m memory have e =
    subst (λ (x : NetMemory). x.word + element_words x < 2 ^ 32) (get_or_from_slice_get memories m memory memory e) (have m memory (slice_get_within memories m memory e))

-- first words so far
pub record AreStarts (net : Net) (leaves : List ℕ) (first i now : ℕ) (words : List ℕ) : Type 0 where
  pub next : now ≡ first + count_words (take i (shapes_at net leaves))
  pub counted : length words ≡ i + 1
  pub each : (k : ℕ) → k ≤ i → slice_index words k ≡ first + count_words (take k (shapes_at net leaves))

pub starts_more : (net : Net) (leaves : List ℕ) (first i next : ℕ) (words : List ℕ) (count : ℕ) (later : List ℕ) → i < length leaves → AreStarts net leaves first i next words
    → count ≡ word_count (shape_or_none (slice_get net.leaves (slice_index leaves i))) → later ≡ words ++ (next + count) ∷ [] → AreStarts net leaves first (i + 1) (next + count) later
starts_more net leaves first i next words count later lt h is e =
    let more = words_more net leaves i lt in
    let is_next = h.next in
    let sum : next + count ≡ first + count_words (take (i + 1) (shapes_at net leaves)) = omega (arith, more, is_next, is) in
    record {
      next = sum;
      counted = ap length e ∙ one_longer words (next + count) (i + 1) h.counted;
      each = λ k le. ⊎_elim
          (λ past. ap (λ l. slice_index l k) e ∙ (get_or_append_left words ((next + count) ∷ []) 0 k (let c = h.counted in omega (arith, past, c)) ∙ h.each k (omega (arith, past))))
          (λ last. let k_is : k ≡ i + 1 = omega (arith, last, le) in
          ap (λ l. slice_index l k) e ∙ (ap (λ j. slice_index (words ++ (next + count) ∷ []) j) (k_is ∙ sym h.counted) ∙ (get_or-append_seam words (next + count) [] 0 ∙ (sum ∙ ap (λ j. first + count_words (take j (shapes_at net leaves))) (sym k_is)))))
          (cases_lt k (i + 1));
    }

-- the source of a leaf, by its role
source_is : (net : Net) (leaf : Leaf) (src : Source) → IsFrom net leaf src → IsSourceOf net leaf (Some src)
source_is net leaf src h = record { from = λ other e. subst (IsFrom net leaf) (some_same e) h; there = λ no. some_is (Some src) src refl }

pub register_source : (net : Net) (leaf : Leaf) (n word : ℕ) (k : Kept) → leaf.role ≡ role.Register n → word ≡ register_word net n → kept_as leaf word k → IsSourceOf net leaf (Some (source.Word k))
register_source net leaf n word k is at h = source_is net leaf (source.Word k) (h.0, n, inl (is, h.1 ∙ at))

pub captured_source : (net : Net) (leaf : Leaf) (n word : ℕ) (k : Kept) → leaf.role ≡ role.Captured n → word ≡ captured_word net n → kept_as leaf word k → IsSourceOf net leaf (Some (source.Word k))
captured_source net leaf n word k is at h = source_is net leaf (source.Word k) (h.0, n, inr (is, h.1 ∙ at))

pub clock_source : (net : Net) (leaf : Leaf) (c : Value) → leaf.role ≡ role.Clock → c ≡ fitted_to leaf (pos 0) → IsSourceOf net leaf (Some (source.Constant c))
clock_source net leaf c is e = source_is net leaf (source.Constant c) (is, e)

-- where the words of the last memory end
pub last_words : (net : Net) (k : ℕ) (memory : NetMemory) → slice_get net.memories k ≡ Some memory → length net.memories ≤ k + 1
    → memory_word net k + memory_words memory ≡ count_words (register_shapes net) + sum_by memory_words net.memories
last_words net k memory there last =
    let lt = slice_get_within net.memories k memory there in
    let more = sum_by_more memory_words net.memories k memory lt ∙ ap (λ m. sum_by memory_words (take k net.memories) + memory_words m) (get_or_from_slice_get net.memories k memory memory there) in
    let whole = ap (sum_by memory_words) (take_all (k + 1) net.memories last) in
    plain (count_words (register_shapes net)) (sum_by memory_words (take k net.memories)) (memory_words memory) (sum_by memory_words (take (k + 1) net.memories)) (sum_by memory_words net.memories) more whole
  where
    plain : (r s w t m : ℕ) → t ≡ s + w → t ≡ m → (r + s) + w ≡ r + m
    plain r s w t m e f = omega (arith, e, f)

-- a memory with leaves is not deep
words_positive : (s : Shape) → 1 ≤ word_count s
words_positive s = let e = further_is s in omega (arith, e)

pub small_depth : (memory : NetMemory) → (memory.elements ≡ [] → ⊥) → memory_words memory < 2 ^ 32 → memory.depth < 2 ^ 32
small_depth memory some few = by_list memory.elements refl
  where
    by_list : (els : List ElementLeaf) → memory.elements ≡ els → memory.depth < 2 ^ 32
    by_list [] e = absurd (some e)
    by_list (x ∷ xs) e =
        let sum : element_words memory ≡ word_count (element_shape x) + count_words (map element_shape xs) = ap (λ l. count_words (map element_shape l)) e ∙ sum_by-cons word_count (element_shape x) (map element_shape xs) in
        let positive = words_positive (element_shape x) in
        let one : 0 < element_words memory = omega (arith, sum, positive) in
        let more = le-mul_of_pos_right memory.depth one in
        omega (arith, more, few)

-- all sources of a net
opened : {A : Type 0} (o : Option (Option A)) (x : A) → option_and_then (λ p. p) o ≡ Some x → o ≡ Some (Some x)
opened (Some p) x e = ap Some e
opened None x e = absurd (none_some e)

second : {A B : Type 0} (o : Option A) (f : A → Option B) (y : B) → option_and_then f o ≡ Some y → (x : A) × (o ≡ Some x) × (f x ≡ Some y)
second (Some x) f y e = (x, refl, e)
second None f y e = absurd (none_some e)

found : {A : Type 0} (xs : List A) (k : ℕ) → k < length xs → (x : A) × (slice_get xs k ≡ Some x)
found xs k lt = ⊎_elim (λ here. (here.0, here.2)) (λ past. absurd (omega (arith, lt, past.0))) (slice_get_cases xs k).1

module _ (net : Net) (w : IsNet net) (said : SaysItsWords net) (S : Sources) (leaves : AreSourcesOf net (length net.leaves) S.leaves) (memories : AreMemoriesOf net.memories (length net.memories) S.memories) where
  source_there : (x : ℕ) (src : Source) → leaf_source S x ≡ Some src → HasSource net x src
  source_there x src e =
      let at = opened (slice_get S.leaves x) src e in
      let lt = slice_get_within S.leaves x (Some src) at in
      let long = leaves.counted in
      let leaf = found net.leaves x (omega (arith, lt, long)) in
      record { leaf = leaf.0; there = leaf.1; is = (leaves.each x leaf.0 (Some src) leaf.1 at).from src refl }

  elements_there : (m k : ℕ) (e : Elements) → element_source S m k ≡ Some e → HasElements net m k e
  elements_there m k e at =
      let es = second (slice_get S.memories m) (λ l. slice_get l k) e at in
      let m_lt = slice_get_within S.memories m es.0 es.1 in
      let m_long = memories.counted in
      let memory = found net.memories m (omega (arith, m_lt, m_long)) in
      let of = memories.each m memory.0 es.0 memory.1 es.1 in
      let k_lt = slice_get_within es.0 k e es.2 in
      let k_long = of.counted in
      let leaf = found memory.0.elements k (omega (arith, k_lt, k_long)) in
      let is = of.each k leaf.0 e leaf.1 es.2 in
      record {
        memory = memory.0;
        there = memory.1;
        leaf = leaf.0;
        at = leaf.1;
        shape = is.shape;
        depth = is.depth;
        base = is.base ∙ plain memory.0.word (memory_word net m) (element_words memory.0) (count_words (take k (element_shapes memory.0))) (said m memory.0 memory.1);
        stride = is.stride;
      }
    where
      plain : (a b w t : ℕ) → a ≡ b → a + t ≡ b + (0 * w + t)
      plain a b w t e = let z : 0 * w ≡ 0 = omega arith in omega (arith, e, z)

  leaf_complete : (x : ℕ) → x < length net.leaves → (IsAssigned net.leaves x → ⊥) → IsSome (leaf_source S x)
  leaf_complete x lt none =
      let leaf = found net.leaves x lt in
      let long = leaves.counted in
      let o = found S.leaves x (omega (arith, lt, long)) in
      subst IsSome (sym (ap (option_and_then (λ p. p)) o.1)) ((leaves.each x leaf.0 o.0 leaf.1 o.1).there (λ r. none (record { leaf = leaf.0; there = leaf.1; is = r })))

  element_complete : (m k : ℕ) → IsSome (element_leaf net m k) → IsSome (element_source S m k)
  element_complete m k some =
      let leaf = some_of (element_leaf net m k) some in
      let memory = second (slice_get net.memories m) (λ (it : NetMemory). slice_get it.elements k) leaf.0 leaf.1 in
      let m_lt = slice_get_within net.memories m memory.0 memory.1 in
      let m_long = memories.counted in
      let es = found S.memories m (omega (arith, m_lt, m_long)) in
      let of = memories.each m memory.0 es.0 memory.1 es.1 in
      let k_lt = slice_get_within memory.0.elements k leaf.0 memory.2 in
      let k_long = of.counted in
      let e = found es.0 k (omega (arith, k_lt, k_long)) in
      some_is (element_source S m k) e.0 (ap (option_and_then (λ l. slice_get l k)) es.1 ∙ e.1)

  pub all_of : AreAllOf net S
  all_of = record { of = record { leaves = source_there; elements = elements_there }; counted = leaves.counted; leaves = leaf_complete; elements = element_complete }

-- the first words of a net
maps_twice : (net : Net) → map (λ (read : CapturedRead). read.leaf) (map told_of (captures net)) ≡ map (λ (c : Capture). c.leaf) (captures net)
maps_twice net = maps (λ (read : CapturedRead). read.leaf) told_of (captures net)

pub register_shapes_are : (net : Net) (xs : List ℕ) → xs ≡ map (λ (r : NetRegister). r.leaf) net.registers → shapes_at net xs ≡ register_shapes net
register_shapes_are net xs e = ap (shapes_at net) e ∙ maps (λ x. shape_or_none (slice_get net.leaves x)) (λ (r : NetRegister). r.leaf) net.registers

pub captured_shapes_are : (net : Net) (xs : List ℕ) → xs ≡ map (λ (read : CapturedRead). read.leaf) (map told_of (captures net)) → shapes_at net xs ≡ captured_shapes net
captured_shapes_are net xs e = ap (shapes_at net) (e ∙ maps_twice net) ∙ maps (λ x. shape_or_none (slice_get net.leaves x)) (λ (c : Capture). c.leaf) (captures net)

pub first_are : (net : Net) (xs ys registers captured : List ℕ) (first behind : ℕ) → xs ≡ map (λ (r : NetRegister). r.leaf) net.registers → ys ≡ map (λ (read : CapturedRead). read.leaf) (map told_of (captures net))
    → first ≡ 0 → behind ≡ count_words (register_shapes net) + sum_by memory_words net.memories
    → length registers ≡ length xs + 1 → ((k : ℕ) → k ≤ length xs → slice_index registers k ≡ first + count_words (take k (shapes_at net xs)))
    → length captured ≡ length ys + 1 → ((k : ℕ) → k ≤ length ys → slice_index captured k ≡ behind + count_words (take k (shapes_at net ys)))
    → AreFirst net (record { registers = registers; captured = captured })
first_are net xs ys registers captured first behind xs_are ys_are zero_first is_behind long each long_captured each_captured =
    let all : length xs ≡ length net.registers = ap length xs_are ∙ length-map net.registers (λ (r : NetRegister). r.leaf) in
    let all_captured : length ys ≡ length (captures net) = ap length (ys_are ∙ maps_twice net) ∙ length-map (captures net) (λ (c : Capture). c.leaf) in
    record {
      all_registers = omega (arith, all, long);
      registers = λ n le. each n (omega (arith, le, all)) ∙ (ap₂ (λ a l. a + count_words (take n l)) zero_first (register_shapes_are net xs xs_are) ∙ nothing (register_word net n));
      all_captured = omega (arith, all_captured, long_captured);
      captured = λ n le. each_captured n (omega (arith, le, all_captured)) ∙ (ap₂ (λ a l. a + count_words (take n l)) is_behind (captured_shapes_are net ys ys_are)
          ∙ grouped (count_words (register_shapes net)) (sum_by memory_words net.memories) (count_words (take n (captured_shapes net))));
    }
  where
    nothing : (n : ℕ) → 0 + n ≡ n
    nothing n = omega arith

    grouped : (a b c : ℕ) → (a + b) + c ≡ a + (b + c)
    grouped a b c = omega arith
