-- Leaves, drivers and memories, one after the other.
use Rattle.std.proofs.Common.{◌≡◌, ℕ, zero, suc, ◌+◌, ◌*◌, ◌≤◌, List, [], ◌∷◌, ◌++◌, map, take, length, refl, sym, ap, ap₂, ◌∙◌, subst, arith, Option, Some, None, option_map, slice_get, sum_by, ⊎_elim}
use Rattle.std.specs.Prelude.{zip}
use Rattle.std.proofs.lemmas.Option.{slice_get-map, slice_get_within}
use Rattle.std.proofs.lemmas.List.{map-append}
use Rattle.std.proofs.lemmas.List.FromFn.{length-map-range_with_len}
use Rattle.std.proofs.lemmas.List.Sums.{sum_by_push}
use Rattle.ground_net.specs.declared.ground.Ground.{Ground}
use Rattle.ground_net.specs.declared.circuit.GroundLeaf.{GroundLeaf}
use Rattle.ground_net.specs.declared.circuit.GroundMemory.{GroundMemory}
use Rattle.ground_net.specs.declared.circuit.FlatCircuit.{FlatCircuit}
use Rattle.ground_net.specs.declared.net.Leaf.{Leaf}
use Rattle.ground_net.specs.declared.net.NetMemory.{NetMemory}
use Rattle.ground_net.specs.declared.net.NetRegister.{NetRegister}
use Rattle.ground_net.specs.Reads.{lone_driver}
use Rattle.ground_net.specs.Nets.{element_shape, shape_or_none}
use Rattle.ground_net.specs.Words.{count_words, memory_words}
use Rattle.memory_ports.specs.declared.reads.ReadData.{ReadData}
use Rattle.memory_ports.specs.declared.leaves.Counts.{Counts}
use Rattle.memory_ports.specs.Placing.{Part, part_of, parts_of, role_behind, IsLeafOf, driver_for, own_driver, without_word, reads_of, last_data, data_in, IsPlaced}
use Rattle.memory_ports.specs.Keeping.{CountsOf, AreLeaves}
use Rattle.memory_ports.proofs.Lists.{place_more, next_taken, zip_get, one_more, some_same}

pub part_there : (leaves : List GroundLeaf) (shown : List (Option ReadData)) (x : ℕ) (leaf : GroundLeaf) (held : Option ReadData) → slice_get leaves x ≡ Some leaf → slice_get shown x ≡ Some held
    → slice_get (parts_of leaves shown) x ≡ Some (part_of leaf.role held)
part_there leaves shown x leaf held e h =
    slice_get-map (λ both. part_of both.0.role both.1) (zip leaves shown) x ∙ ap (option_map (λ both. part_of both.0.role both.1)) (zip_get leaves shown x leaf held e h)

pub counts_next : (parts : List Part) (n : ℕ) (part : Part) (counts : Counts) → slice_get parts n ≡ Some part → CountsOf (take n parts ++ part ∷ []) counts → CountsOf (take (n + 1) parts) counts
counts_next parts n part counts e c = subst (λ before. CountsOf before counts) (sym (next_taken parts n part e)) c

pub leaves_next : (leaves : List GroundLeaf) (shown : List (Option ReadData)) (placed new : List Leaf) (n : ℕ) (leaf : GroundLeaf) (part : Part) (one : Leaf) → length placed ≡ n → slice_get leaves n ≡ Some leaf
    → slice_get (parts_of leaves shown) n ≡ Some part → IsLeafOf leaf one → one.role ≡ role_behind (take n (parts_of leaves shown)) part → new ≡ placed ++ one ∷ [] → AreLeaves leaves shown placed → AreLeaves leaves shown new
leaves_next leaves shown placed new n leaf part one counted there has is role grown are =
    let parts = parts_of leaves shown in
    subst (AreLeaves leaves shown) (sym grown) (record {
      each = place_more (λ j a b. IsLeafOf a b) leaves placed leaf one (ap (slice_get leaves) counted ∙ there) is are.each;
      roles = place_more (λ j p b. b.role ≡ role_behind (take j (parts_of leaves shown)) p) (parts_of leaves shown) placed part one (ap (slice_get (parts_of leaves shown)) counted ∙ has)
          (role ∙ ap (λ k. role_behind (take k (parts_of leaves shown)) part) (sym counted)) are.roles;
    })

-- a memory more
pub words_next : (placed new : List NetMemory) (one : NetMemory) (first word : ℕ) → new ≡ placed ++ one ∷ [] → one.word ≡ word → word ≡ first + sum_by memory_words placed
    → ((m : ℕ) (memory : NetMemory) → slice_get placed m ≡ Some memory → memory.word ≡ first + sum_by memory_words (take m placed))
    → (m : ℕ) (memory : NetMemory) → slice_get new m ≡ Some memory → memory.word ≡ first + sum_by memory_words (take m new)
words_next placed new one first word grown says is each m memory there = ⊎_elim
    (λ h. let within = slice_get_within placed m memory h in
    each m memory h ∙ ap (λ l. first + sum_by memory_words l) (sym (ap (take m) grown ∙ take_front placed (one ∷ []) m (omega (arith, within)))))
    (λ h. let e : take m new ≡ placed = ap (take m) grown ∙ (take_front placed (one ∷ []) m (let z = h.0 in omega (arith, z)) ∙ (ap (λ k. take k placed) h.0 ∙ take_all placed)) in
    ap (λ (one : NetMemory). one.word) (sym h.1) ∙ (says ∙ (is ∙ ap (λ l. first + sum_by memory_words l) (sym e))))
    (one_more placed one memory m (ap (λ l. slice_get l m) (sym grown) ∙ there))
  where
    take_front : (xs ys : List NetMemory) (k : ℕ) → k ≤ length xs → take k (xs ++ ys) ≡ take k xs
    take_front xs ys zero h = refl
    take_front [] ys (suc k) h = absurd (omega arith)
    take_front (x ∷ xs) ys (suc k) h = let less : k ≤ length xs = omega arith in ap (λ l. x ∷ l) (take_front xs ys k less)

    take_all : (xs : List NetMemory) → take (length xs) xs ≡ xs
    take_all [] = refl
    take_all (x ∷ xs) = ap (λ l. x ∷ l) (take_all xs)

pub word_next : (placed new : List NetMemory) (one : NetMemory) (memory : GroundMemory) (first word behind : ℕ) → new ≡ placed ++ one ∷ [] → without_word one ≡ memory → word ≡ first + sum_by memory_words placed
    → behind ≡ word + memory.depth * count_words (map element_shape memory.elements) → behind ≡ first + sum_by memory_words new
word_next placed new one memory first word behind grown same is step =
    let size : memory_words one ≡ memory.depth * count_words (map element_shape memory.elements) = ap (λ (m : GroundMemory). m.depth * count_words (map element_shape m.elements)) same in
    let more : sum_by memory_words new ≡ sum_by memory_words placed + memory_words one = ap (sum_by memory_words) grown ∙ sum_by_push memory_words placed one in
    omega (arith, size, more, is, step)

pub placed_next : (memories : List GroundMemory) (placed new : List NetMemory) (n : ℕ) (memory : GroundMemory) (one : NetMemory) → slice_get memories n ≡ Some memory → without_word one ≡ memory → new ≡ placed ++ one ∷ []
    → map without_word placed ≡ take n memories → map without_word new ≡ take (n + 1) memories
placed_next memories placed new n memory one there same grown before =
    ap (map without_word) grown ∙ (map-append without_word placed (one ∷ []) ∙ (ap₂ (λ l m. l ++ m ∷ []) before same ∙ sym (next_taken memories n memory there)))

-- a driver more
pub drivers_next : (flat : FlatCircuit) (marks : List (Option ReadData)) (drivers new : List (Option Ground)) (n : ℕ) (leaf : GroundLeaf) (shown : Option ReadData) (driver : Option Ground) → length drivers ≡ n
    → slice_get flat.leaves n ≡ Some leaf → slice_get marks n ≡ Some shown → driver ≡ driver_for leaf.role shown (own_driver flat n) → new ≡ drivers ++ driver ∷ []
    → ((x : ℕ) (leaf : GroundLeaf) (driver : Option Ground) → slice_get flat.leaves x ≡ Some leaf → slice_get drivers x ≡ Some driver → (shown : Option ReadData) → slice_get marks x ≡ Some shown → driver ≡ driver_for leaf.role shown (own_driver flat x))
    → (x : ℕ) (leaf : GroundLeaf) (driver : Option Ground) → slice_get flat.leaves x ≡ Some leaf → slice_get new x ≡ Some driver → (shown : Option ReadData) → slice_get marks x ≡ Some shown → driver ≡ driver_for leaf.role shown (own_driver flat x)
drivers_next flat marks drivers new n leaf shown driver counted there shows is grown each x a d at_a at_d =
    place_more (λ j a d. (shown : Option ReadData) → slice_get marks j ≡ Some shown → d ≡ driver_for a.role shown (own_driver flat j)) flat.leaves drivers leaf driver (ap (slice_get flat.leaves) counted ∙ there)
    (λ s h.
    let same : shown ≡ s = some_same (sym shows ∙ (ap (slice_get marks) (sym counted) ∙ h)) in
    is ∙ ap₂ (λ s k. driver_for leaf.role s (own_driver flat k)) same (sym counted))
    each x a d at_a (ap (λ l. slice_get l x) (sym grown) ∙ at_d)

pub data_counted : (flat : FlatCircuit) → length (data_in flat) ≡ length flat.leaves
data_counted flat = length-map-range_with_len (λ x. last_data (reads_of flat.memories) x None) 0 (length flat.leaves)

-- all parts of a net together
pub placed_is : (flat : FlatCircuit) (leaves : List Leaf) (drivers : List (Option Ground)) (registers : List NetRegister) (memories : List NetMemory) (word : ℕ)
    → length leaves ≡ length flat.leaves → AreLeaves flat.leaves (data_in flat) leaves → length drivers ≡ length flat.leaves
    → ((x : ℕ) (leaf : GroundLeaf) (shown : Option ReadData) → slice_get flat.leaves x ≡ Some leaf → slice_get (data_in flat) x ≡ Some shown → slice_get drivers x ≡ Some (driver_for leaf.role shown (own_driver flat x)))
    → registers ≡ flat.registers → word ≡ count_words (map (λ register. shape_or_none (slice_get leaves register.leaf)) registers) → map without_word memories ≡ flat.memories
    → ((m : ℕ) (memory : NetMemory) → slice_get memories m ≡ Some memory → memory.word ≡ word + sum_by memory_words (take m memories))
    → IsPlaced flat (record { ports = flat.ports; leaves = leaves; drivers = drivers; registers = registers; memories = memories })
placed_is flat leaves drivers registers memories word counted are drivers_counted each same word_is without words = record {
  ports = refl;
  counted = counted;
  leaves = are.each;
  roles = λ x old shown new at_old at_shown at_new. are.roles x (part_of old.role shown) new (part_there flat.leaves (data_in flat) x old shown at_old at_shown) at_new;
  drivers_counted = drivers_counted;
  drivers = λ x leaf shown at_leaf at_shown. ap lone_driver (each x leaf shown at_leaf at_shown);
  registers = same;
  memories = without;
  words = λ m memory there. words m memory there ∙ ap (λ w. w + sum_by memory_words (take m memories)) word_is;
}
