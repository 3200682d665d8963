-- The words of a state, line by line.
use Rattle.std.proofs.Common.{◌≡◌, ℕ, zero, suc, ◌+◌, ◌≤◌, List, [], ◌∷◌, ◌++◌, map, length, slice_get, refl, sym, ap, ap₂, ◌∙◌, subst, arith, ℤ, Option, Some, None}
use Rattle.std.specs.Prelude.{zip, filter_map, option_map, ⊤, codes}
use Rattle.std.specs.List.{flat_map, range_with_len, AllZip, cons_option}
use Rattle.std.proofs.lemmas.List.{append_assoc, length-append, map-append}
use Rattle.bit_words.specs.Values.{integer_of}
use Rattle.prim_ops.proofs.Fittings.{fitted_same}
use Rattle.ground_net.specs.declared.net.Leaf.{Leaf}
use Rattle.ground_net.specs.declared.net.Net.{Net}
use Rattle.ground_net.specs.declared.net.NetRegister.{NetRegister}
use Rattle.ground_net.specs.declared.net.NetMemory.{NetMemory}
use Rattle.ground_net.specs.declared.net.ElementLeaf.{ElementLeaf}
use Rattle.ground_net.specs.Shapes.{Shape}
use Rattle.ground_net.specs.Cycles.{NetState, captures}
use Rattle.ground_net.specs.Nets.{IsNet, IsIn, IsWithin, leaf_shape, shape_or_none, element_shape, register_shapes, element_shapes, captured_shapes}
use Rattle.ground_net.specs.Words.{kept, kept_all, words_of_memory, words_of, word_count, value_at, state_of, word_widths, all_word_widths, memory_word_widths, state_word_widths, AreStateWords}
use Rattle.ground_net.proofs.Placing.{kept_length, read_back}
use Rattle.ground_net.proofs.StateWords.{Fits, fits_both, kept_fits, words_back, words_within}
use Rattle.snapshot_text.specs.Cells.{Cell, leaf_cell, register_cell, element_cell, memory_cells, captured_cell, state_cells}
use Rattle.snapshot_text.specs.Texts.{Holds}
use Rattle.snapshot_text.specs.Snapshots.{integers_all, integers_of_memory, integers_of_state}
use Rattle.snapshot_text.specs.Steps.{shape_of_cell, count_cells, integers_at, words_of_cells}
use Rattle.snapshot_text.proofs.Captured.{captured_shapes_are}

-- Words that hold integers of these shapes side by side

pub data Keeps : List Shape → List ℤ → List ℕ → Type 0 where
  none : Keeps [] [] []
  more : {ss : List Shape} {vs : List ℤ} {ws : List ℕ} (s : Shape) (v : ℤ) → Keeps ss vs ws → Keeps (s ∷ ss) (v ∷ vs) (kept s v ++ ws)

keeps_words : {ss : List Shape} {vs : List ℤ} {ws us : List ℕ} → ws ≡ us → Keeps ss vs ws → Keeps ss vs us
keeps_words {ss} {vs} e k = subst (Keeps ss vs) e k

pub both_keep : (ss ts : List Shape) (vs us : List ℤ) (ws xs : List ℕ) → Keeps ss vs ws → Keeps ts us xs → Keeps (ss ++ ts) (vs ++ us) (ws ++ xs)
both_keep _ ts _ us _ xs none k = k
both_keep _ ts _ us _ xs (more {ss} {vs} {ws} s v h) k = keeps_words (sym (append_assoc (kept s v) ws xs)) (more s v (both_keep ss ts vs us ws xs h k))

-- the integers of a list, and of the elements of a memory, and of memories

list_keeps : (a : ℕ) (shapes : List Shape) (integers : ℕ → ℤ)
    → Keeps shapes (map (λ both. integers both.0) (zip (range_with_len a (length shapes)) shapes)) (flat_map (λ both. kept both.1 (integers both.0)) (zip (range_with_len a (length shapes)) shapes))
list_keeps a [] integers = none
list_keeps a (s ∷ shapes) integers = more s (integers a) (list_keeps (a + 1) shapes integers)

elements_keep : (shapes : List Shape) (contents : ℕ → ℕ → ℤ) (range : List ℕ)
    → Keeps (flat_map (λ element. shapes) range) (flat_map (λ element. integers_all shapes (contents element)) range) (flat_map (λ element. kept_all shapes (contents element)) range)
elements_keep shapes contents [] = none
elements_keep shapes contents (e ∷ range) = both_keep shapes _ _ _ _ _ (list_keeps 0 shapes (contents e)) (elements_keep shapes contents range)

abbrev pub memory_shapes : NetMemory → List Shape
memory_shapes memory = flat_map (λ element. element_shapes memory) (range_with_len 0 memory.depth)

memories_keep : (a : ℕ) (memories : List NetMemory) (contents : ℕ → ℕ → ℕ → ℤ)
    → Keeps (flat_map memory_shapes memories) (flat_map (λ both. integers_of_memory both.1 (contents both.0)) (zip (range_with_len a (length memories)) memories))
    (flat_map (λ both. words_of_memory both.1 (contents both.0)) (zip (range_with_len a (length memories)) memories))
memories_keep a [] contents = none
memories_keep a (memory ∷ memories) contents = both_keep (memory_shapes memory) _ _ _ _ _ (elements_keep (element_shapes memory) (contents a) (range_with_len 0 memory.depth)) (memories_keep (a + 1) memories contents)

abbrev pub state_shapes : Net → List Shape
state_shapes net = register_shapes net ++ (flat_map memory_shapes net.memories ++ captured_shapes net)

pub state_keeps : (net : Net) (t : NetState) → Keeps (state_shapes net) (integers_of_state net t) (words_of net t)
state_keeps net t =
    both_keep (register_shapes net) _ _ _ _ _ (list_keeps 0 (register_shapes net) t.registers)
    (both_keep (flat_map memory_shapes net.memories) _ _ _ _ _ (memories_keep 0 net.memories t.contents) (list_keeps 0 (captured_shapes net) t.captured))

-- The shapes of the lines

abbrev AreThere : Net → List NetRegister → Type 0
AreThere net [] = ⊤
AreThere net (r ∷ rs) = ((leaf : Leaf) × (slice_get net.leaves r.leaf ≡ Some leaf)) × AreThere net rs

all_there : (net : Net) (all : List NetRegister) → ((n : ℕ) (register : NetRegister) → slice_get all n ≡ Some register → (leaf : Leaf) × (slice_get net.leaves register.leaf ≡ Some leaf)) → AreThere net all
all_there net [] h = tt
all_there net (r ∷ rs) h = (h 0 r refl, all_there net rs (λ n register e. h (suc n) register e))

pub registers_there : (net : Net) → IsNet net → (n : ℕ) (register : NetRegister) → slice_get net.registers n ≡ Some register → (leaf : Leaf) × (slice_get net.leaves register.leaf ≡ Some leaf)
registers_there net well n register e = let r = well.register_leaves n register e in (r.leaf, r.there)

register_shapes_are : (net : Net) (rs : List NetRegister) → AreThere net rs → map shape_of_cell (filter_map (register_cell net) rs) ≡ map (λ register. shape_or_none (slice_get net.leaves register.leaf)) rs
register_shapes_are net [] h = refl
register_shapes_are net (r ∷ rs) h =
    ap (λ o. map shape_of_cell (cons_option (option_map (leaf_cell (codes "reg")) o) (filter_map (register_cell net) rs))) h.0.1
    ∙ (ap (λ l. leaf_shape h.0.0 ∷ l) (register_shapes_are net rs h.1)
    ∙ ap (λ o. shape_or_none o ∷ map (λ (register : NetRegister). shape_or_none (slice_get net.leaves register.leaf)) rs) (sym h.0.1))

element_shapes_are : (memory : NetMemory) (element : ℕ) (leaves : List ElementLeaf) → map shape_of_cell (map (element_cell memory element) leaves) ≡ map element_shape leaves
element_shapes_are memory element [] = refl
element_shapes_are memory element (leaf ∷ leaves) = ap (λ l. element_shape leaf ∷ l) (element_shapes_are memory element leaves)

memory_shapes_from : (memory : NetMemory) (range : List ℕ) → map shape_of_cell (flat_map (λ element. map (element_cell memory element) memory.elements) range) ≡ flat_map (λ element. element_shapes memory) range
memory_shapes_from memory [] = refl
memory_shapes_from memory (e ∷ range) =
    map-append shape_of_cell (map (element_cell memory e) memory.elements) (flat_map (λ element. map (element_cell memory element) memory.elements) range)
    ∙ ap₂ (λ l m. l ++ m) (element_shapes_are memory e memory.elements) (memory_shapes_from memory range)

memories_shapes_are : (memories : List NetMemory) → map shape_of_cell (flat_map memory_cells memories) ≡ flat_map memory_shapes memories
memories_shapes_are [] = refl
memories_shapes_are (memory ∷ memories) =
    map-append shape_of_cell (memory_cells memory) (flat_map memory_cells memories) ∙ ap₂ (λ l m. l ++ m) (memory_shapes_from memory (range_with_len 0 memory.depth)) (memories_shapes_are memories)

pub cell_shapes_are : (net : Net) → IsNet net → map shape_of_cell (state_cells net) ≡ state_shapes net
cell_shapes_are net well =
    map-append shape_of_cell (filter_map (register_cell net) net.registers) (flat_map memory_cells net.memories ++ filter_map captured_cell net.leaves)
    ∙ ap₂ (λ l m. l ++ m) (register_shapes_are net net.registers (all_there net net.registers (registers_there net well)))
    (map-append shape_of_cell (flat_map memory_cells net.memories) (filter_map captured_cell net.leaves)
    ∙ ap₂ (λ l m. l ++ m) (memories_shapes_are net.memories) (captured_shapes_are net well))

-- Lines and their words

-- the words of lines keep their integers
pub cells_keep : (cells : List Cell) (vs : List ℤ) → length vs ≡ length cells → Keeps (map shape_of_cell cells) vs (words_of_cells cells vs)
cells_keep [] [] e = none
cells_keep [] (v ∷ vs) e = absurd (omega (arith, e))
cells_keep (cell ∷ cells) [] e = absurd (omega (arith, e))
cells_keep (cell ∷ cells) (v ∷ vs) e = more (shape_of_cell cell) v (cells_keep cells vs (omega (arith, e)))

pub holds_long : (cells : List Cell) (vs : List ℤ) → AllZip Holds cells vs → length vs ≡ length cells
holds_long [] [] h = refl
holds_long [] (v ∷ vs) h = absurd h
holds_long (cell ∷ cells) [] h = absurd h
holds_long (cell ∷ cells) (v ∷ vs) h = ap suc (holds_long cells vs h.1)

-- the words of the first one, and the others
abbrev Uncons : List Shape → List ℤ → List ℕ → Type 0
Uncons [] [] ws = ws ≡ []
Uncons [] (v ∷ vs) ws = ⊥
Uncons (s ∷ ss) [] ws = ⊥
Uncons (s ∷ ss) (v ∷ vs) ws = (rest : List ℕ) × (ws ≡ kept s v ++ rest) × Keeps ss vs rest

uncons : (ss : List Shape) (vs : List ℤ) (ws : List ℕ) → Keeps ss vs ws → Uncons ss vs ws
uncons _ _ _ none = refl
uncons _ _ _ (more {ss} {vs} {ws} s v k) = (ws, refl, k)

-- an integer in range is read back from its words
fresh : (words front : List ℕ) (cell : Cell) (v : ℤ) (rest : List ℕ) (at : ℕ) → Holds cell v → words ≡ front ++ (kept (shape_of_cell cell) v ++ rest) → length front ≡ at
    → integer_of (value_at (shape_of_cell cell) words at) ≡ v
fresh words front cell v rest at h e f =
    ap integer_of (read_back words (shape_of_cell cell) v at (record { front = front; back = rest; is = e; place = f })) ∙ fitted_same cell.kind cell.width v h.narrow h.fits

further : (front : List ℕ) (s : Shape) (v : ℤ) (at : ℕ) → length front ≡ at → length (front ++ kept s v) ≡ at + word_count s
further front s v at e = let l = length-append front (kept s v) in let k = kept_length s v in omega (arith, e, l, k)

pub integers_back : (cells : List Cell) (vs : List ℤ) (ws words front : List ℕ) (at : ℕ) → Keeps (map shape_of_cell cells) vs ws → AllZip Holds cells vs → words ≡ front ++ ws → length front ≡ at → integers_at cells words at ≡ vs
integers_back [] [] ws words front at k h e f = refl
integers_back [] (v ∷ vs) ws words front at k h e f = absurd h
integers_back (cell ∷ cells) [] ws words front at k h e f = absurd h
integers_back (cell ∷ cells) (v ∷ vs) ws words front at k h e f =
    let c = uncons (shape_of_cell cell ∷ map shape_of_cell cells) (v ∷ vs) ws k in
    let there' : words ≡ front ++ (kept (shape_of_cell cell) v ++ c.0) = e ∙ ap (λ l. front ++ l) c.1 in
    ap₂ (λ x xs. x ∷ xs) (fresh words front cell v c.0 at h.0 there' f)
    (integers_back cells vs c.0 words (front ++ kept (shape_of_cell cell) v) (at + word_count (shape_of_cell cell)) c.2 h.1 (there' ∙ sym (append_assoc front (kept (shape_of_cell cell) v) c.0)) (further front (shape_of_cell cell) v at f))

-- as many words as the lines have
pub words_counted : (cells : List Cell) (vs : List ℤ) (ws : List ℕ) → Keeps (map shape_of_cell cells) vs ws → length ws ≡ count_cells cells
words_counted [] [] ws k = ap length (uncons [] [] ws k)
words_counted [] (v ∷ vs) ws k = absurd (uncons [] (v ∷ vs) ws k)
words_counted (cell ∷ cells) [] ws k = absurd (uncons (shape_of_cell cell ∷ map shape_of_cell cells) [] ws k)
words_counted (cell ∷ cells) (v ∷ vs) ws k =
    let u = uncons (shape_of_cell cell ∷ map shape_of_cell cells) (v ∷ vs) ws k in
    let a = ap length u.1 ∙ length-append (kept (shape_of_cell cell) v) u.0 in
    let b = kept_length (shape_of_cell cell) v in
    let c = words_counted cells vs u.0 u.2 in
    omega (arith, a, b, c)

-- Words that are kept are a state's

fits_all : {ss : List Shape} {vs : List ℤ} {ws : List ℕ} → Keeps ss vs ws → AllZip Fits (all_word_widths ss) ws
fits_all none = tt
fits_all (more {ss} {vs} {ws} s v k) = fits_both (word_widths s) (all_word_widths ss) (kept s v) ws (kept_fits s v) (fits_all k)

widths_append : (ss ts : List Shape) → all_word_widths (ss ++ ts) ≡ all_word_widths ss ++ all_word_widths ts
widths_append [] ts = refl
widths_append (s ∷ ss) ts = ap (λ l. word_widths s ++ l) (widths_append ss ts) ∙ sym (append_assoc (word_widths s) (all_word_widths ss) (all_word_widths ts))

element_widths : (shapes : List Shape) (range : List ℕ) → all_word_widths (flat_map (λ element. shapes) range) ≡ flat_map (λ element. all_word_widths shapes) range
element_widths shapes [] = refl
element_widths shapes (e ∷ range) = widths_append shapes (flat_map (λ element. shapes) range) ∙ ap (λ l. all_word_widths shapes ++ l) (element_widths shapes range)

memory_widths : (memories : List NetMemory) → all_word_widths (flat_map memory_shapes memories) ≡ flat_map memory_word_widths memories
memory_widths [] = refl
memory_widths (memory ∷ memories) =
    widths_append (memory_shapes memory) (flat_map memory_shapes memories) ∙ ap₂ (λ l m. l ++ m) (element_widths (element_shapes memory) (range_with_len 0 memory.depth)) (memory_widths memories)

widths_are : (net : Net) → all_word_widths (state_shapes net) ≡ state_word_widths net
widths_are net =
    widths_append (register_shapes net) (flat_map memory_shapes net.memories ++ captured_shapes net)
    ∙ ap (λ l. all_word_widths (register_shapes net) ++ l) (widths_append (flat_map memory_shapes net.memories) (captured_shapes net) ∙ ap (λ l. l ++ all_word_widths (captured_shapes net)) (memory_widths net.memories))

kept_words : (net : Net) → IsNet net → (vs : List ℤ) (ws : List ℕ) → Keeps (map shape_of_cell (state_cells net)) vs ws → AreStateWords net ws
kept_words net well vs ws k = subst (λ widths. AllZip Fits widths ws) (ap all_word_widths (cell_shapes_are net well) ∙ widths_are net) (fits_all k)

-- A state's integers are in the ranges of its lines

abbrev InAll : List Shape → List ℤ → Type 0
InAll ss vs = AllZip (λ s v. (s.width ≤ 128) × IsIn s v) ss vs

both_in : (ss ts : List Shape) (vs us : List ℤ) → InAll ss vs → InAll ts us → InAll (ss ++ ts) (vs ++ us)
both_in [] ts [] us h k = k
both_in [] ts (v ∷ vs) us h k = absurd h
both_in (s ∷ ss) ts [] us h k = absurd h
both_in (s ∷ ss) ts (v ∷ vs) us h k = (h.0, both_in ss ts vs us h.1 k)

abbrev AreIn : List Shape → (ℕ → ℤ) → Type 0
AreIn shapes integers = (k : ℕ) (s : Shape) → slice_get shapes k ≡ Some s → (s.width ≤ 128) × IsIn s (integers k)

list_in : (a : ℕ) (shapes : List Shape) (integers : ℕ → ℤ) → ((k : ℕ) (s : Shape) → slice_get shapes k ≡ Some s → (s.width ≤ 128) × IsIn s (integers (a + k)))
    → InAll shapes (map (λ both. integers both.0) (zip (range_with_len a (length shapes)) shapes))
list_in a [] integers h = tt
list_in a (s ∷ shapes) integers h =
    let z : a + 0 ≡ a = omega arith in
    let first = h 0 s refl in (
      (first.0, subst (λ n. IsIn s (integers n)) z first.1),
      list_in (a + 1) shapes integers (λ k t e. let q : a + suc k ≡ a + 1 + k = omega arith in let next = h (suc k) t e in (next.0, subst (λ n. IsIn t (integers n)) q next.1)),
    )

all_in : (shapes : List Shape) (integers : ℕ → ℤ) → AreIn shapes integers → InAll shapes (integers_all shapes integers)
all_in shapes integers h = list_in 0 shapes integers (λ k s e. let q : k ≡ 0 + k = omega arith in let it = h k s e in (it.0, subst (λ n. IsIn s (integers n)) q it.1))

elements_in : (shapes : List Shape) (contents : ℕ → ℕ → ℤ) → ((element : ℕ) → AreIn shapes (contents element)) → (range : List ℕ)
    → InAll (flat_map (λ element. shapes) range) (flat_map (λ element. integers_all shapes (contents element)) range)
elements_in shapes contents h [] = tt
elements_in shapes contents h (e ∷ range) = both_in shapes _ _ _ (all_in shapes (contents e) (h e)) (elements_in shapes contents h range)

memories_in : (a : ℕ) (memories : List NetMemory) (contents : ℕ → ℕ → ℕ → ℤ)
    → ((m : ℕ) (memory : NetMemory) → slice_get memories m ≡ Some memory → (element : ℕ) → AreIn (element_shapes memory) (contents (a + m) element))
    → InAll (flat_map memory_shapes memories) (flat_map (λ both. integers_of_memory both.1 (contents both.0)) (zip (range_with_len a (length memories)) memories))
memories_in a [] contents h = tt
memories_in a (memory ∷ memories) contents h =
    let z : a + 0 ≡ a = omega arith in
    both_in (memory_shapes memory) _ _ _
    (elements_in (element_shapes memory) (contents a) (subst (λ n. (element : ℕ) → AreIn (element_shapes memory) (contents n element)) z (h 0 memory refl)) (range_with_len 0 memory.depth))
    (memories_in (a + 1) memories contents (λ m other e. let q : a + suc m ≡ a + 1 + m = omega arith in subst (λ n. (element : ℕ) → AreIn (element_shapes other) (contents n element)) q (h (suc m) other e)))

narrow_map : {A : Type 0} (f : A → Shape) → ((x : A) → (f x).width ≤ 128) → (xs : List A) (k : ℕ) (s : Shape) → slice_get (map f xs) k ≡ Some s → s.width ≤ 128
narrow_map f h [] k s e = cc
narrow_map f h (x ∷ xs) zero s e = let same : f x ≡ s = cc in subst (λ (t : Shape). t.width ≤ 128) same (h x)
narrow_map f h (x ∷ xs) (suc k) s e = narrow_map f h xs k s e

narrow_leaf : (o : Option Leaf) → (shape_or_none o).width ≤ 128
narrow_leaf (Some leaf) = leaf.narrow
narrow_leaf None = omega arith

state_in : (net : Net) (t : NetState) → IsWithin net t → InAll (state_shapes net) (integers_of_state net t)
state_in net t h =
    both_in (register_shapes net) _ _ _
    (all_in (register_shapes net) t.registers (λ k s e. (narrow_map (λ register. shape_or_none (slice_get net.leaves register.leaf)) (λ register. narrow_leaf (slice_get net.leaves register.leaf)) net.registers k s e, h.registers k s e)))
    (both_in (flat_map memory_shapes net.memories) _ _ _
    (memories_in 0 net.memories t.contents (λ m memory e element k s f. let q : m ≡ 0 + m = omega arith in (narrow_map element_shape (λ leaf. leaf.narrow) memory.elements k s f, subst (λ n. IsIn s (t.contents n element k)) q (h.contents m element k memory s e f))))
    (all_in (captured_shapes net) t.captured (λ k s e. (narrow_map (λ c. shape_or_none (slice_get net.leaves c.leaf)) (λ c. narrow_leaf (slice_get net.leaves c.leaf)) (captures net) k s e, h.captured k s e))))

holds_cells : (cells : List Cell) (vs : List ℤ) → InAll (map shape_of_cell cells) vs → AllZip Holds cells vs
holds_cells [] [] h = tt
holds_cells [] (v ∷ vs) h = absurd h
holds_cells (cell ∷ cells) [] h = absurd h
holds_cells (cell ∷ cells) (v ∷ vs) h = (record { narrow = h.0.0; fits = h.0.1 }, holds_cells cells vs h.1)

module _ (net : Net) (well : IsNet net) where
  pub state_holds : (t : NetState) → IsWithin net t → AllZip Holds (state_cells net) (integers_of_state net t)
  state_holds t h = holds_cells (state_cells net) (integers_of_state net t) (subst (λ ss. InAll ss (integers_of_state net t)) (sym (cell_shapes_are net well)) (state_in net t h))

  cells_of_state : (t : NetState) → Keeps (map shape_of_cell (state_cells net)) (integers_of_state net t) (words_of net t)
  cells_of_state t = subst (λ ss. Keeps ss (integers_of_state net t) (words_of net t)) (sym (cell_shapes_are net well)) (state_keeps net t)

  -- the words of a state are printed as its integers
  pub state_integers : (t : NetState) → IsWithin net t → integers_at (state_cells net) (words_of net t) 0 ≡ integers_of_state net t
  state_integers t h = integers_back (state_cells net) (integers_of_state net t) (words_of net t) (words_of net t) [] 0 (cells_of_state t) (state_holds t h) refl refl

  pub state_long : (t : NetState) → length (words_of net t) ≡ count_cells (state_cells net)
  state_long t = words_counted (state_cells net) (integers_of_state net t) (words_of net t) (cells_of_state t)

  -- what is read is a state
  pub record ReadState (vs : List ℤ) (words : List ℕ) : Type 0 where
    pub within : IsWithin net (state_of net words)
    pub words_are : words ≡ words_of net (state_of net words)
    pub integers : vs ≡ integers_of_state net (state_of net words)

  pub read_state : (vs : List ℤ) (words : List ℕ) → AllZip Holds (state_cells net) vs → words ≡ words_of_cells (state_cells net) vs → ReadState vs words
  read_state vs words h e =
      let long = holds_long (state_cells net) vs h in
      let keeps = subst (Keeps (map shape_of_cell (state_cells net)) vs) (sym e) (cells_keep (state_cells net) vs long) in
      let back = words_back net words (kept_words net well vs words keeps) in
      let within = words_within net words in
      let own = integers_back (state_cells net) vs words words [] 0 keeps h refl refl in
      let other = state_integers (state_of net words) within in
      record {
        within = within;
        words_are = sym back;
        integers = sym own ∙ (ap (λ ws. integers_at (state_cells net) ws 0) (sym back) ∙ other);
      }
