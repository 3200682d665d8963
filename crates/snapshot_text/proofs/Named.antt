-- The lines of a net whose names are single words.
use Rattle.std.proofs.Common.{◌≡◌, ℕ, zero, suc, ◌+◌, ◌/◌, ◌%◌, ◌<◌, ◌==◌, nat_lt, Bool, true, false, cond, List, [], ◌∷◌, ◌++◌, map, codes, slice_get, refl, ap, ◌∙◌, arith, Option, Some, None, if◌then◌else◌}
use Rattle.std.specs.Prelude.{decimal, filter_map, option_map, All}
use Rattle.std.specs.List.{cons_option, flat_map, range_with_len}
use Rattle.std.specs.Fmt.{digits, digits_onto, digit_glyph}
use Rattle.std.proofs.lemmas.Bool.Decides.{nat_tests}
use Rattle.std.proofs.lemmas.List.Elements.{All-nil, All-cons, All-head, All-tail, All-append}
use Rattle.ground_net.specs.declared.net.Leaf.{Leaf}
use Rattle.ground_net.specs.declared.net.Net.{Net}
use Rattle.ground_net.specs.declared.net.NetRegister.{NetRegister}
use Rattle.ground_net.specs.declared.net.NetMemory.{NetMemory}
use Rattle.ground_net.specs.declared.net.ElementLeaf.{ElementLeaf}
use Rattle.ground_net.specs.declared.net.PortLeaf.{PortLeaf}
use Rattle.snapshot_text.specs.Cells.{input_cell, leaf_cell, register_cell, element_cell, memory_cells, is_captured, captured_cell, state_cells, cells_of}
use Rattle.snapshot_text.specs.Snapshots.{no_break, IsUnbroken, HasWords, IsNamed}
use Rattle.snapshot_text.proofs.Lining.{cons_nil}

joined : (xs ys : List ℕ) → IsUnbroken xs → IsUnbroken ys → IsUnbroken (xs ++ ys)
joined xs ys h k = All-append (λ b. no_break b ≡ true) xs ys h k

one_more : (b : ℕ) (xs : List ℕ) → no_break b ≡ true → IsUnbroken xs → IsUnbroken (b ∷ xs)
one_more b xs e h = All-cons (λ b. no_break b ≡ true) b xs e h

nothing : IsUnbroken []
nothing = All-nil (λ b. no_break b ≡ true)

-- digits
digit_unbroken : (d : ℕ) → d < 10 → no_break (digit_glyph false d) ≡ true
digit_unbroken d h =
    let small : nat_lt d 10 ≡ true = grind (arith, nat_tests) in
    let is : digit_glyph false d ≡ 48 + d = ap (λ b. if b then 48 + d else 87 + d) small in
    ap no_break is ∙ far d
  where
    far : (d : ℕ) → no_break (48 + d) ≡ true
    far d = grind (arith, nat_tests)

digits_unbroken : (k n : ℕ) (rest : List ℕ) → IsUnbroken rest → IsUnbroken (digits_onto k 10 false n rest)
digits_unbroken zero n rest h = h
digits_unbroken (suc k) n rest h = by (n / 10 == 0) (digits_unbroken k (n / 10) (digit_glyph false (n % 10) ∷ rest) more)
  where
    more : IsUnbroken (digit_glyph false (n % 10) ∷ rest)
    more = one_more (digit_glyph false (n % 10)) rest (digit_unbroken (n % 10) (omega arith)) h

    by : (b : Bool) → IsUnbroken (digits_onto k 10 false (n / 10) (digit_glyph false (n % 10) ∷ rest))
        → IsUnbroken (if b then digit_glyph false (n % 10) ∷ rest else digits_onto k 10 false (n / 10) (digit_glyph false (n % 10) ∷ rest))
    by true later = more
    by false later = later

decimal_unbroken : (n : ℕ) → IsUnbroken (decimal n)
unfolding digits
decimal_unbroken n = digits_unbroken 64 n [] nothing

-- the words of lines
input_word : IsUnbroken (codes "input")
input_word = one_more 105 (codes "nput") refl (one_more 110 (codes "put") refl (one_more 112 (codes "ut") refl (one_more 117 (codes "t") refl (one_more 116 [] refl nothing))))

reg_word : IsUnbroken (codes "reg")
reg_word = one_more 114 (codes "eg") refl (one_more 101 (codes "g") refl (one_more 103 [] refl nothing))

mem_word : IsUnbroken (codes "mem")
mem_word = one_more 109 (codes "em") refl (one_more 101 (codes "m") refl (one_more 109 [] refl nothing))

read_word : IsUnbroken (codes "read")
read_word = one_more 114 (codes "ead") refl (one_more 101 (codes "ad") refl (one_more 97 (codes "d") refl (one_more 100 [] refl nothing)))

inputs_named : (leaves : List PortLeaf) → All (λ leaf. IsUnbroken leaf.name) leaves → All IsNamed (map input_cell leaves)
inputs_named [] h = All-nil IsNamed
inputs_named (leaf ∷ leaves) h =
    All-cons IsNamed (input_cell leaf) (map input_cell leaves) (record { some = cons_nil 105 (codes "nput"); word = input_word; name = All-head (λ (l : PortLeaf). IsUnbroken l.name) leaf leaves h })
    (inputs_named leaves (All-tail (λ (l : PortLeaf). IsUnbroken l.name) leaf leaves h))

module _ (net : Net) (inputs : List PortLeaf) (names : HasWords net inputs) where
  registers_named : (rs : List NetRegister) → All IsNamed (filter_map (register_cell net) rs)
  registers_named [] = All-nil IsNamed
  registers_named (r ∷ rs) = by (slice_get net.leaves r.leaf) refl (registers_named rs)
    where
      by : (o : Option Leaf) → slice_get net.leaves r.leaf ≡ o → All IsNamed (filter_map (register_cell net) rs) → All IsNamed (cons_option (option_map (leaf_cell (codes "reg")) o) (filter_map (register_cell net) rs))
      by None e h = h
      by (Some leaf) e h = All-cons IsNamed (leaf_cell (codes "reg") leaf) (filter_map (register_cell net) rs) (record { some = cons_nil 114 (codes "eg"); word = reg_word; name = names.of_leaves r.leaf leaf e }) h

  reads_named : (leaves : List Leaf) (a : ℕ) → ((k : ℕ) → slice_get net.leaves (a + k) ≡ slice_get leaves k) → All IsNamed (filter_map captured_cell leaves)
  reads_named [] a at = All-nil IsNamed
  reads_named (leaf ∷ leaves) a at = by (is_captured leaf.role) (reads_named leaves (a + 1) (λ k. let q : a + 1 + k ≡ a + suc k = omega arith in ap (slice_get net.leaves) q ∙ at (suc k)))
    where
      by : (b : Bool) → All IsNamed (filter_map captured_cell leaves) → All IsNamed (cons_option (cond b (Some (leaf_cell (codes "read") leaf)) None) (filter_map captured_cell leaves))
      by true h = All-cons IsNamed (leaf_cell (codes "read") leaf) (filter_map captured_cell leaves) (record { some = cons_nil 114 (codes "ead"); word = read_word; name = names.of_leaves (a + 0) leaf (at 0) }) h
      by false h = h

  elements_named : (m : ℕ) (memory : NetMemory) → slice_get net.memories m ≡ Some memory → (element : ℕ) (leaves : List ElementLeaf) (a : ℕ) → ((k : ℕ) → slice_get memory.elements (a + k) ≡ slice_get leaves k)
      → All IsNamed (map (element_cell memory element) leaves)
  elements_named m memory e element [] a at = All-nil IsNamed
  elements_named m memory e element (leaf ∷ leaves) a at =
      All-cons IsNamed (element_cell memory element leaf) (map (element_cell memory element) leaves)
      (record {
        some = cons_nil 109 (codes "em");
        word = mem_word;
        name = joined memory.name (91 ∷ (decimal element ++ (93 ∷ leaf.path))) (names.of_memories m memory e)
            (one_more 91 (decimal element ++ (93 ∷ leaf.path)) refl (joined (decimal element) (93 ∷ leaf.path) (decimal_unbroken element) (one_more 93 leaf.path refl (names.of_ways m (a + 0) memory leaf e (at 0)))));
      })
      (elements_named m memory e element leaves (a + 1) (λ k. let q : a + 1 + k ≡ a + suc k = omega arith in ap (slice_get memory.elements) q ∙ at (suc k)))

  memory_named : (m : ℕ) (memory : NetMemory) → slice_get net.memories m ≡ Some memory → (range : List ℕ) → All IsNamed (flat_map (λ element. map (element_cell memory element) memory.elements) range)
  memory_named m memory e [] = All-nil IsNamed
  memory_named m memory e (x ∷ range) =
      All-append IsNamed (map (element_cell memory x) memory.elements) (flat_map (λ element. map (element_cell memory element) memory.elements) range)
      (elements_named m memory e x memory.elements 0 (λ k. let q : 0 + k ≡ k = omega arith in ap (slice_get memory.elements) q)) (memory_named m memory e range)

  memories_named : (memories : List NetMemory) (a : ℕ) → ((k : ℕ) → slice_get net.memories (a + k) ≡ slice_get memories k) → All IsNamed (flat_map memory_cells memories)
  memories_named [] a at = All-nil IsNamed
  memories_named (memory ∷ memories) a at =
      All-append IsNamed (memory_cells memory) (flat_map memory_cells memories) (memory_named (a + 0) memory (at 0) (range_with_len 0 memory.depth))
      (memories_named memories (a + 1) (λ k. let q : a + 1 + k ≡ a + suc k = omega arith in ap (slice_get net.memories) q ∙ at (suc k)))

  pub cells_named : All IsNamed (cells_of net inputs)
  cells_named =
      All-append IsNamed (map input_cell inputs) (state_cells net) (inputs_named inputs names.of_inputs)
      (All-append IsNamed (filter_map (register_cell net) net.registers) (flat_map memory_cells net.memories ++ filter_map captured_cell net.leaves) (registers_named net.registers)
      (All-append IsNamed (flat_map memory_cells net.memories) (filter_map captured_cell net.leaves)
      (memories_named net.memories 0 (λ k. let q : 0 + k ≡ k = omega arith in ap (slice_get net.memories) q)) (reads_named net.leaves 0 (λ k. let q : 0 + k ≡ k = omega arith in ap (slice_get net.leaves) q))))
