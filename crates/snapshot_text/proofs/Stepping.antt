-- From line to line of a net's states.
use Rattle.std.proofs.Common.{◌≡◌, ◌≢◌, ℕ, zero, suc, ◌+◌, ◌-◌, ◌<◌, ◌≤◌, true, false, cond, List, [], ◌∷◌, ◌++◌, map, length, drop, get_or, slice_get, refl, sym, ap, ap₂, ◌∙◌, arith, ◌⊎◌, inl, inr, Some, None}
use Rattle.std.specs.Prelude.{filter_map, option_map, codes}
use Rattle.std.specs.List.{flat_map, range_with_len, cons_option}
use Rattle.std.proofs.lemmas.Bool.{cases_lt}
use Rattle.std.proofs.lemmas.List.{length-map, drop_all, drop_more}
use Rattle.ground_net.specs.declared.net.Leaf.{Leaf}
use Rattle.ground_net.specs.declared.net.Net.{Net}
use Rattle.ground_net.specs.declared.net.NetRegister.{NetRegister}
use Rattle.ground_net.specs.declared.net.NetMemory.{NetMemory}
use Rattle.ground_net.specs.declared.net.ElementLeaf.{ElementLeaf}
use Rattle.snapshot_text.specs.Cells.{Cell, leaf_cell, is_captured, register_cell, element_cell, memory_cells, captured_cell}
use Rattle.std.proofs.lemmas.Option.{slice_get-get_or, slice_get_within}
use Rattle.ground_net.specs.Nets.{IsNet}
use Rattle.snapshot_text.specs.declared.cells.CellLine.{CellLine}
use Rattle.snapshot_text.specs.declared.cells.Cursor.{Cursor}
use Rattle.snapshot_text.specs.Steps.{cell_of, cells_from, memories_ahead, cells_ahead, IsSettled, IsNext, IsSame}

-- registers

pub register_ahead : (net : Net) (at : ℕ) (register : NetRegister) (leaf : Leaf) → at < length net.registers → register ≡ get_or net.registers at register → slice_get net.leaves register.leaf ≡ Some leaf
    → filter_map (register_cell net) (drop at net.registers) ≡ leaf_cell (codes "reg") leaf ∷ filter_map (register_cell net) (drop (at + 1) net.registers)
register_ahead net at register leaf lt e there' =
    ap (filter_map (register_cell net)) (drop_more net.registers at register lt)
    ∙ (ap (λ r. filter_map (register_cell net) (r ∷ drop (at + 1) net.registers)) (sym e)
    ∙ ap (λ o. cons_option (option_map (leaf_cell (codes "reg")) o) (filter_map (register_cell net) (drop (at + 1) net.registers))) there')

-- captured reads

pub read_ahead : (leaves : List Leaf) (at : ℕ) (leaf : Leaf) → at < length leaves → leaf ≡ get_or leaves at leaf → is_captured leaf.role ≡ true
    → filter_map captured_cell (drop at leaves) ≡ leaf_cell (codes "read") leaf ∷ filter_map captured_cell (drop (at + 1) leaves)
read_ahead leaves at leaf lt e t =
    ap (filter_map captured_cell) (drop_more leaves at leaf lt)
    ∙ (ap (λ l. filter_map captured_cell (l ∷ drop (at + 1) leaves)) (sym e)
    ∙ ap (λ b. cons_option (cond b (Some (leaf_cell (codes "read") leaf)) None) (filter_map captured_cell (drop (at + 1) leaves))) t)

pub read_passed : (leaves : List Leaf) (at : ℕ) (leaf : Leaf) → at < length leaves → leaf ≡ get_or leaves at leaf → is_captured leaf.role ≡ false
    → filter_map captured_cell (drop at leaves) ≡ filter_map captured_cell (drop (at + 1) leaves)
read_passed leaves at leaf lt e t =
    ap (filter_map captured_cell) (drop_more leaves at leaf lt)
    ∙ (ap (λ l. filter_map captured_cell (l ∷ drop (at + 1) leaves)) (sym e)
    ∙ ap (λ b. cons_option (cond b (Some (leaf_cell (codes "read") leaf)) None) (filter_map captured_cell (drop (at + 1) leaves))) t)

-- elements

flat_nil : {A B : Type 0} (f : A → List B) (xs : List A) → ((x : A) → f x ≡ []) → flat_map f xs ≡ []
flat_nil f [] h = refl
flat_nil f (x ∷ xs) h = ap₂ (λ l m. l ++ m) (h x) (flat_nil f xs h)

length_nil : {A : Type 0} (xs : List A) → length xs ≤ 0 → xs ≡ []
length_nil [] h = refl
length_nil (x ∷ xs) h = absurd (omega (arith, h))

drop_nil : {A : Type 0} (n : ℕ) → ◌≡◌ {A = List A} (drop n []) []
drop_nil zero = refl
drop_nil (suc n) = refl

-- a memory that is passed has no line left
pub memory_passed : (memories : List NetMemory) (at element leaf : ℕ) (memory : NetMemory) → at < length memories → memory ≡ get_or memories at memory → (leaf ≡ 0) ⊎ (leaf < length memory.elements)
    → (element < memory.depth → leaf < length memory.elements → ⊥) → memories_ahead (drop at memories) element leaf ≡ memories_ahead (drop (at + 1) memories) 0 0
memory_passed memories at element leaf memory lt e settled none =
    ap (λ l. memories_ahead l element leaf) (drop_more memories at memory lt)
    ∙ (ap (λ m. memories_ahead (m ∷ drop (at + 1) memories) element leaf) (sym e)
    ∙ (ap (λ l. l ++ flat_map memory_cells (drop (at + 1) memories)) (empty (all_gone settled)) ∙ begins (drop (at + 1) memories)))
  where
    begins : (later : List NetMemory) → flat_map memory_cells later ≡ memories_ahead later 0 0
    begins [] = refl
    begins (m ∷ later) = let q : m.depth ≡ m.depth - 0 = omega arith in ap (λ n. flat_map (λ e. map (element_cell m e) m.elements) (range_with_len 0 n) ++ flat_map memory_cells later) q

    all_gone : (leaf ≡ 0) ⊎ (leaf < length memory.elements) → cells_from memory element ≡ []
    all_gone (inl zero') = at_depth (cases element memory.depth)
      where
        cases : (a b : ℕ) → (a < b) ⊎ (b ≤ a)
        cases a b = cases_lt a b

        at_depth : (element < memory.depth) ⊎ (memory.depth ≤ element) → cells_from memory element ≡ []
        at_depth (inl below) =
            let few : length memory.elements ≤ 0 = at_elements (cases leaf (length memory.elements)) in
            flat_nil (λ e. map (element_cell memory e) memory.elements) (range_with_len element (memory.depth - element)) (λ e. ap (map (element_cell memory e)) (length_nil memory.elements few))
          where
            at_elements : (leaf < length memory.elements) ⊎ (length memory.elements ≤ leaf) → length memory.elements ≤ 0
            at_elements (inl l) = absurd (none below l)
            at_elements (inr l) = omega (arith, l, zero')
        at_depth (inr past) = let q : memory.depth - element ≡ 0 = omega (arith, past) in ap (λ n. flat_map (λ e. map (element_cell memory e) memory.elements) (range_with_len element n)) q
    all_gone (inr l) = at_depth (cases_lt element memory.depth)
      where
        at_depth : (element < memory.depth) ⊎ (memory.depth ≤ element) → cells_from memory element ≡ []
        at_depth (inl below) = absurd (none below l)
        at_depth (inr past) = let q : memory.depth - element ≡ 0 = omega (arith, past) in ap (λ n. flat_map (λ e. map (element_cell memory e) memory.elements) (range_with_len element n)) q

    empty : cells_from memory element ≡ [] → drop leaf (cells_from memory element) ≡ []
    empty e = ap (drop leaf) e ∙ drop_nil leaf

-- the next leaf of an element
drop_append : {A : Type 0} (n : ℕ) (xs ys : List A) → n ≤ length xs → drop n (xs ++ ys) ≡ drop n xs ++ ys
drop_append zero xs ys h = refl
drop_append (suc n) [] ys h = absurd (omega (arith, h))
drop_append (suc n) (x ∷ xs) ys h = drop_append n xs ys (omega (arith, h))

drop_map : (f : ElementLeaf → Cell) (n : ℕ) (xs : List ElementLeaf) → drop n (map f xs) ≡ map f (drop n xs)
drop_map f zero xs = refl
drop_map f (suc n) [] = refl
drop_map f (suc n) (x ∷ xs) = drop_map f n xs

module _ (memory : NetMemory) (element leaf : ℕ) (below : element < memory.depth) where
  one_element : cells_from memory element ≡ map (element_cell memory element) memory.elements ++ cells_from memory (element + 1)
  one_element =
      let q : memory.depth - element ≡ suc (memory.depth - (element + 1)) = omega (arith, below) in
      ap (λ n. flat_map (λ e. map (element_cell memory e) memory.elements) (range_with_len element n)) q

  ahead_is : leaf ≤ length memory.elements → drop leaf (cells_from memory element) ≡ map (element_cell memory element) (drop leaf memory.elements) ++ cells_from memory (element + 1)
  ahead_is le =
      let l = length-map memory.elements (element_cell memory element) in
      ap (drop leaf) one_element
      ∙ (drop_append leaf (map (element_cell memory element) memory.elements) (cells_from memory (element + 1)) (omega (arith, le, l)) ∙ ap (λ c. c ++ cells_from memory (element + 1)) (drop_map (element_cell memory element) leaf memory.elements))

  pub next_leaf : (part : ElementLeaf) → leaf < length memory.elements → part ≡ get_or memory.elements leaf part
      → drop leaf (cells_from memory element) ≡ element_cell memory element part ∷ drop (leaf + 1) (cells_from memory element)
  next_leaf part lt e =
      ahead_is (omega (arith, lt))
      ∙ (ap (λ l. map (element_cell memory element) l ++ cells_from memory (element + 1)) (drop_more memory.elements leaf part lt)
      ∙ (ap (λ p. element_cell memory element p ∷ (map (element_cell memory element) (drop (leaf + 1) memory.elements) ++ cells_from memory (element + 1))) (sym e)
      ∙ ap (λ c. element_cell memory element part ∷ c) (sym more)))
    where
      more : drop (leaf + 1) (cells_from memory element) ≡ map (element_cell memory element) (drop (leaf + 1) memory.elements) ++ cells_from memory (element + 1)
      more =
          let l = length-map memory.elements (element_cell memory element) in
          ap (drop (leaf + 1)) one_element
          ∙ (drop_append (leaf + 1) (map (element_cell memory element) memory.elements) (cells_from memory (element + 1)) (omega (arith, lt, l)) ∙ ap (λ c. c ++ cells_from memory (element + 1)) (drop_map (element_cell memory element) (leaf + 1) memory.elements))

  -- behind the last leaf comes the next element
  pub element_over : leaf + 1 ≡ length memory.elements → drop (leaf + 1) (cells_from memory element) ≡ drop 0 (cells_from memory (element + 1))
  element_over e =
      let l = length-map memory.elements (element_cell memory element) in
      ap (drop (leaf + 1)) one_element
      ∙ (drop_append (leaf + 1) (map (element_cell memory element) memory.elements) (cells_from memory (element + 1)) (omega (arith, e, l))
      ∙ (ap (λ c. c ++ cells_from memory (element + 1)) (drop_map (element_cell memory element) (leaf + 1) memory.elements)
      ∙ ap (λ c. map (element_cell memory element) c ++ cells_from memory (element + 1)) (drop_all (leaf + 1) memory.elements (omega (arith, e)))))

pub memories_at : (memories : List NetMemory) (at element leaf : ℕ) (memory : NetMemory) → at < length memories → memory ≡ get_or memories at memory
    → memories_ahead (drop at memories) element leaf ≡ drop leaf (cells_from memory element) ++ flat_map memory_cells (drop (at + 1) memories)
memories_at memories at element leaf memory lt e =
    ap (λ l. memories_ahead l element leaf) (drop_more memories at memory lt) ∙ ap (λ m. memories_ahead (m ∷ drop (at + 1) memories) element leaf) (sym e)

-- Cursors

-- the leaf of a register
pub its_leaf : (net : Net) → IsNet net → (at : ℕ) (register : NetRegister) → at < length net.registers → register ≡ get_or net.registers at register → (leaf : Leaf) × (slice_get net.leaves register.leaf ≡ Some leaf)
its_leaf net well at register lt e = let r = well.register_leaves at register (slice_get-get_or net.registers at register lt ∙ ap Some (sym e)) in (r.leaf, r.there)

pub leaf_within : (net : Net) → IsNet net → (at : ℕ) (register : NetRegister) → at < length net.registers → register ≡ get_or net.registers at register → register.leaf < length net.leaves
leaf_within net well at register lt e = let r = its_leaf net well at register lt e in slice_get_within net.leaves register.leaf r.0 r.1

abbrev behind_register : Cursor → Cursor
behind_register c = record { net = c.net; register = c.register + 1; memory = c.memory; element = c.element; leaf = c.leaf; read = c.read }

pub register_next : (c : Cursor) (line : CellLine) (register : NetRegister) (leaf : Leaf) → IsSettled c → c.register < length c.net.now.registers → register ≡ get_or c.net.now.registers c.register register
    → register.leaf < length c.net.now.leaves → leaf ≡ get_or c.net.now.leaves register.leaf leaf → cell_of line ≡ leaf_cell (codes "reg") leaf → IsNext c line (behind_register c)
register_next c line register leaf settled lt e below f is = record {
  ahead =
      ap (λ l. l ++ (memories_ahead (drop c.memory c.net.now.memories) c.element c.leaf ++ filter_map captured_cell (drop c.read c.net.now.leaves)))
      (register_ahead c.net.now c.register register leaf lt e (slice_get-get_or c.net.now.leaves register.leaf leaf below ∙ ap Some (sym f)))
      ∙ ap (λ x. x ∷ cells_ahead (behind_register c)) (sym is);
  settled = record { leaf = settled.leaf };
  net = refl;
}

no_registers : (c : Cursor) → length c.net.now.registers ≤ c.register → cells_ahead c ≡ memories_ahead (drop c.memory c.net.now.memories) c.element c.leaf ++ filter_map captured_cell (drop c.read c.net.now.leaves)
no_registers c past =
    ap (λ l. filter_map (register_cell c.net.now) l ++ (memories_ahead (drop c.memory c.net.now.memories) c.element c.leaf ++ filter_map captured_cell (drop c.read c.net.now.leaves)))
    (drop_all c.register c.net.now.registers past)

only_reads : (c : Cursor) → length c.net.now.registers ≤ c.register → length c.net.now.memories ≤ c.memory → cells_ahead c ≡ filter_map captured_cell (drop c.read c.net.now.leaves)
only_reads c past behind =
    no_registers c past ∙ ap (λ l. memories_ahead l c.element c.leaf ++ filter_map captured_cell (drop c.read c.net.now.leaves)) (drop_all c.memory c.net.now.memories behind)

pub nothing_ahead : (c : Cursor) → length c.net.now.registers ≤ c.register → length c.net.now.memories ≤ c.memory → length c.net.now.leaves ≤ c.read → cells_ahead c ≡ []
nothing_ahead c past behind over = only_reads c past behind ∙ ap (filter_map captured_cell) (drop_all c.read c.net.now.leaves over)

abbrev behind_read : Cursor → Cursor
behind_read c = record { net = c.net; register = c.register; memory = c.memory; element = c.element; leaf = c.leaf; read = c.read + 1 }

pub read_next : (c : Cursor) (line : CellLine) (leaf : Leaf) → IsSettled c → length c.net.now.registers ≤ c.register → length c.net.now.memories ≤ c.memory → c.read < length c.net.now.leaves
    → leaf ≡ get_or c.net.now.leaves c.read leaf → is_captured leaf.role ≡ true → cell_of line ≡ leaf_cell (codes "read") leaf → IsNext c line (behind_read c)
read_next c line leaf settled past behind lt e t is = record {
  ahead = only_reads c past behind ∙ (read_ahead c.net.now.leaves c.read leaf lt e t ∙ ap₂ (λ x xs. x ∷ xs) (sym is) (sym (only_reads (behind_read c) past behind)));
  settled = record { leaf = settled.leaf };
  net = refl;
}

-- a leaf that isn't one of these is passed
pub read_skipped : (c : Cursor) (leaf : Leaf) → IsSettled c → c.read < length c.net.now.leaves → leaf ≡ get_or c.net.now.leaves c.read leaf → is_captured leaf.role ≡ false → IsSame c (behind_read c)
read_skipped c leaf settled lt e t = record {
  ahead = ap (λ l. filter_map (register_cell c.net.now) (drop c.register c.net.now.registers) ++ (memories_ahead (drop c.memory c.net.now.memories) c.element c.leaf ++ l)) (sym (read_passed c.net.now.leaves c.read leaf lt e t));
  settled = record { leaf = settled.leaf };
  net = refl;
}

abbrev behind_memory : Cursor → Cursor
behind_memory c = record { net = c.net; register = c.register; memory = c.memory + 1; element = 0; leaf = 0; read = c.read }

pub memory_skipped : (c : Cursor) (memory : NetMemory) → IsSettled c → c.memory < length c.net.now.memories → memory ≡ get_or c.net.now.memories c.memory memory
    → (c.element < memory.depth → c.leaf < length memory.elements → ⊥) → IsSame c (behind_memory c)
memory_skipped c memory settled lt e none = record {
  ahead =
      ap (λ l. filter_map (register_cell c.net.now) (drop c.register c.net.now.registers) ++ (l ++ filter_map captured_cell (drop c.read c.net.now.leaves)))
      (sym (memory_passed c.net.now.memories c.memory c.element c.leaf memory lt e (settled.leaf memory (slice_get-get_or c.net.now.memories c.memory memory lt ∙ ap Some (sym e))) none));
  settled = record { leaf = λ memory e. inl refl };
  net = refl;
}

-- the memory that stands at a place
pub same_memory : (memories : List NetMemory) (at : ℕ) (memory other : NetMemory) → at < length memories → memory ≡ get_or memories at memory → slice_get memories at ≡ Some other → memory ≡ other
same_memory memories at memory other lt e f = let both : Some memory ≡ Some other = sym (slice_get-get_or memories at memory lt ∙ ap Some (sym e)) ∙ f in cc

abbrev behind_element : Cursor → ℕ → ℕ → Cursor
behind_element c element leaf = record { net = c.net; register = c.register; memory = c.memory; element = element; leaf = leaf; read = c.read }

-- where the next leaf of a memory stands
abbrev GoesOn : NetMemory → ℕ → ℕ → ℕ → ℕ → Type 0
GoesOn memory element leaf next part = ((leaf + 1 ≡ length memory.elements) × (next ≡ element + 1) × (part ≡ 0)) ⊎ ((leaf + 1 ≢ length memory.elements) × (next ≡ element) × (part ≡ leaf + 1))

pub element_next : (c : Cursor) (line : CellLine) (memory : NetMemory) (leaf : ElementLeaf) (next part : ℕ) → length c.net.now.registers ≤ c.register → c.memory < length c.net.now.memories
    → memory ≡ get_or c.net.now.memories c.memory memory → c.element < memory.depth → c.leaf < length memory.elements → leaf ≡ get_or memory.elements c.leaf leaf → cell_of line ≡ element_cell memory c.element leaf
    → GoesOn memory c.element c.leaf next part → IsNext c line (behind_element c next part)
element_next c line memory leaf next part past lt e below inside f is on =
    let later : List Cell = flat_map memory_cells (drop (c.memory + 1) c.net.now.memories) in
    let reads : List Cell = filter_map captured_cell (drop c.read c.net.now.leaves) in
    record {
      ahead =
          no_registers c past
          ∙ (ap (λ l. l ++ reads) (memories_at c.net.now.memories c.memory c.element c.leaf memory lt e)
          ∙ (ap (λ l. (l ++ later) ++ reads) (next_leaf memory c.element c.leaf below leaf inside f)
          ∙ (ap (λ l. element_cell memory c.element leaf ∷ ((l ++ later) ++ reads)) (moved on)
          ∙ (ap (λ l. element_cell memory c.element leaf ∷ (l ++ reads)) (sym (memories_at c.net.now.memories c.memory next part memory lt e))
          ∙ ap₂ (λ x xs. x ∷ xs) (sym is) (sym (no_registers (behind_element c next part) past))))));
      settled = record { leaf = λ other g. settled on other g };
      net = refl;
    }
  where
    moved : GoesOn memory c.element c.leaf next part → drop (c.leaf + 1) (cells_from memory c.element) ≡ drop part (cells_from memory next)
    moved (inl g) = element_over memory c.element c.leaf below g.0 ∙ ap₂ (λ n m. drop m (cells_from memory n)) (sym g.1) (sym g.2)
    moved (inr g) = ap₂ (λ n m. drop m (cells_from memory n)) (sym g.1) (sym g.2)

    less : (n : ℕ) → c.leaf + 1 ≢ length memory.elements → part ≡ c.leaf + 1 → length memory.elements ≡ n → part < n
    less n ne is same = omega (arith, inside, ne, is, same)

    settled : GoesOn memory c.element c.leaf next part → (other : NetMemory) → slice_get c.net.now.memories c.memory ≡ Some other → (part ≡ 0) ⊎ (part < length other.elements)
    settled (inl g) other h = inl g.2
    settled (inr g) other h = inr (less (length other.elements) g.0 g.2 (ap (λ (m : NetMemory). length m.elements) (same_memory c.net.now.memories c.memory memory other lt e h)))

-- what comes next behind lines that are the same
pub same_next : (c other behind : Cursor) (line : CellLine) → IsSame c other → IsNext other line behind → IsNext c line behind
same_next c other behind line s n = record { ahead = sym s.ahead ∙ n.ahead; settled = n.settled; net = n.net ∙ s.net }

pub same_same : (c other third : Cursor) → IsSame c other → IsSame other third → IsSame c third
same_same c other third s t = record { ahead = t.ahead ∙ s.ahead; settled = t.settled; net = t.net ∙ s.net }

pub same_none : (c other : Cursor) → IsSame c other → cells_ahead other ≡ [] → cells_ahead c ≡ []
same_none c other s e = sym s.ahead ∙ e
