-- Lines are printed one behind the other.
use Rattle.std.proofs.Common.{◌≡◌, ℕ, zero, suc, ◌+◌, ◌<◌, ◌≤◌, List, [], ◌∷◌, ◌++◌, map, length, take, get_or, slice_get, refl, sym, ap, ap₂, ◌∙◌, arith, ℤ, Some}
use Rattle.std.specs.Prelude.{codes, decimal}
use Rattle.std.proofs.lemmas.List.{append_assoc, append-nil, map-append, take_more, take_all, length-take-le, length-map}
use Rattle.bit_words.specs.declared.value.Value.{Value}
use Rattle.bit_words.specs.Values.{integer_of}
use Rattle.ground_net.specs.declared.net.Net.{Net}
use Rattle.ground_net.specs.declared.net.PortLeaf.{PortLeaf}
use Rattle.ground_net.specs.Watching.{AreValuesOf}
use Rattle.ground_net.specs.Cycles.{NetState}
use Rattle.ground_net.specs.Nets.{IsNet}
use Rattle.ground_net.specs.Words.{word_count, value_at}
use Rattle.snapshot_text.specs.declared.snapshot.Snapshot.{Snapshot}
use Rattle.snapshot_text.specs.Cells.{Cell, input_cell, state_cells, cells_of}
use Rattle.snapshot_text.specs.Texts.{line_text, lines_text}
use Rattle.snapshot_text.specs.Snapshots.{HoldsState, snapshot_text, integers_of_state, values_of}
use Rattle.snapshot_text.specs.Steps.{shape_of_cell, count_cells, integers_at}
use Rattle.snapshot_text.proofs.Keeping.{state_integers, state_long}

lines_more : (cells : List Cell) (cell : Cell) (vs : List ℤ) (v : ℤ) → slice_get vs (length cells) ≡ Some v → lines_text (cells ++ cell ∷ []) vs ≡ lines_text cells vs ++ line_text cell v
lines_more [] cell [] v e = cc
lines_more [] cell (w ∷ vs) v e = let same : w ≡ v = cc in append-nil (line_text cell w) ∙ ap (line_text cell) same
lines_more (c ∷ cells) cell [] v e = cc
lines_more (c ∷ cells) cell (w ∷ vs) v e = ap (λ l. line_text c w ++ l) (lines_more cells cell vs v e) ∙ sym (append_assoc (line_text c w) (lines_text cells vs) (line_text cell v))

integer_there : (row : List Value) (n : ℕ) (v : Value) → n < length row → v ≡ get_or row n v → slice_get (map integer_of row) n ≡ Some (integer_of v)
integer_there [] n v lt e = absurd (omega (arith, lt))
integer_there (x ∷ row) zero v lt e = ap (λ (w : Value). Some (integer_of w)) (sym e)
integer_there (x ∷ row) (suc n) v lt e = integer_there row n v (omega (arith, lt)) e

pub inputs_more : (inputs : List PortLeaf) (row : List Value) (n : ℕ) (leaf : PortLeaf) (v : Value) → n < length inputs → leaf ≡ get_or inputs n leaf → n < length row → v ≡ get_or row n v
    → lines_text (map input_cell (take (n + 1) inputs)) (map integer_of row) ≡ lines_text (map input_cell (take n inputs)) (map integer_of row) ++ line_text (input_cell leaf) (integer_of v)
inputs_more inputs row n leaf v lt e below f =
    let long : length (map input_cell (take n inputs)) ≡ n = length-map (take n inputs) input_cell ∙ length-take-le n inputs (omega (arith, lt)) in
    ap (λ l. lines_text (map input_cell l) (map integer_of row)) (take_more inputs n leaf lt ∙ ap (λ x. take n inputs ++ x ∷ []) (sym e))
    ∙ (ap (λ l. lines_text l (map integer_of row)) (map-append input_cell (take n inputs) (leaf ∷ []))
    ∙ lines_more (map input_cell (take n inputs)) (input_cell leaf) (map integer_of row) (integer_of v) (ap (slice_get (map integer_of row)) long ∙ integer_there row n v below f))

pub inputs_all : (inputs : List PortLeaf) (n : ℕ) (row : List Value) → length inputs ≤ n → lines_text (map input_cell (take n inputs)) (map integer_of row) ≡ lines_text (map input_cell inputs) (map integer_of row)
inputs_all inputs n row le = ap (λ l. lines_text (map input_cell l) (map integer_of row)) (take_all n inputs le)

-- one more line of what is ahead
pub line_done : (text whole : List ℕ) (ahead behind : List Cell) (cell : Cell) (words : List ℕ) (at : ℕ) (v : ℤ) → ahead ≡ cell ∷ behind → text ++ lines_text ahead (integers_at ahead words at) ≡ whole
    → v ≡ integer_of (value_at (shape_of_cell cell) words at) → (text ++ line_text cell v) ++ lines_text behind (integers_at behind words (at + word_count (shape_of_cell cell))) ≡ whole
line_done text whole ahead behind cell words at v e h f =
    append_assoc text (line_text cell v) (lines_text behind (integers_at behind words (at + word_count (shape_of_cell cell))))
    ∙ (ap (λ w. text ++ (line_text cell w ++ lines_text behind (integers_at behind words (at + word_count (shape_of_cell cell))))) f
    ∙ (ap (λ l. text ++ lines_text l (integers_at l words at)) (sym e) ∙ h))

pub count_done : (ahead behind : List Cell) (cell : Cell) (at n : ℕ) → ahead ≡ cell ∷ behind → at + count_cells ahead ≤ n → at + word_count (shape_of_cell cell) + count_cells behind ≤ n
count_done ahead behind cell at n e le = let c = ap count_cells e in omega (arith, c, le)

pub count_first : (ahead behind : List Cell) (cell : Cell) (at n : ℕ) → ahead ≡ cell ∷ behind → at + count_cells ahead ≤ n → at + word_count (shape_of_cell cell) ≤ n
count_first ahead behind cell at n e le = let c = ap count_cells e in omega (arith, c, le)

pub none_ahead : (text whole : List ℕ) (ahead : List Cell) (words : List ℕ) (at : ℕ) → ahead ≡ [] → text ++ lines_text ahead (integers_at ahead words at) ≡ whole → text ≡ whole
none_ahead text whole ahead words at e h = sym (append-nil text) ∙ (ap (λ l. text ++ lines_text l (integers_at l words at)) (sym e) ∙ h)

pub shorter : (ahead behind : List Cell) (cell : Cell) → ahead ≡ cell ∷ behind → length behind < length ahead
shorter ahead behind cell e = let l = ap length e in omega (arith, l)

-- The whole text

lines_both : (inputs : List PortLeaf) (row : List Value) (cells : List Cell) (vs : List ℤ) → AreValuesOf inputs row
    → lines_text (map input_cell inputs ++ cells) (map integer_of row ++ vs) ≡ lines_text (map input_cell inputs) (map integer_of row) ++ lines_text cells vs
lines_both [] [] cells vs h = refl
lines_both [] (v ∷ row) cells vs h = absurd h
lines_both (leaf ∷ inputs) [] cells vs h = absurd h
lines_both (leaf ∷ inputs) (v ∷ row) cells vs h =
    ap (λ l. line_text (input_cell leaf) (integer_of v) ++ l) (lines_both inputs row cells vs h.1)
    ∙ sym (append_assoc (line_text (input_cell leaf) (integer_of v)) (lines_text (map input_cell inputs) (map integer_of row)) (lines_text cells vs))

pub values_long : (inputs : List PortLeaf) (row : List Value) → AreValuesOf inputs row → length inputs ≡ length row
values_long [] [] h = refl
values_long [] (v ∷ row) h = absurd h
values_long (leaf ∷ inputs) [] h = absurd h
values_long (leaf ∷ inputs) (v ∷ row) h = ap suc (values_long inputs row h.1)

pub words_enough : (net : Net) → IsNet net → (leaves : List PortLeaf) (t : NetState) (snapshot : Snapshot) → HoldsState net leaves t snapshot → count_cells (state_cells net) ≤ length snapshot.words
words_enough net well leaves t snapshot h = let l = ap length h.words ∙ state_long net well t in omega (arith, l)

pub text_is : (net : Net) → IsNet net → (leaves : List PortLeaf) (t : NetState) (snapshot : Snapshot) → HoldsState net leaves t snapshot → (head inputs whole : List ℕ)
    → head ≡ codes "state " ++ decimal snapshot.cycle ++ 10 ∷ [] → inputs ≡ head ++ lines_text (map input_cell leaves) (map integer_of snapshot.inputs)
    → whole ≡ inputs ++ lines_text (state_cells net) (integers_at (state_cells net) snapshot.words 0) → whole ≡ snapshot_text net leaves t snapshot
text_is net well leaves t snapshot h head inputs whole a b e =
    let kept : integers_at (state_cells net) snapshot.words 0 ≡ integers_of_state net t = ap (λ ws. integers_at (state_cells net) ws 0) h.words ∙ state_integers net well t h.within in
    let lines : lines_text (map input_cell leaves) (map integer_of snapshot.inputs) ++ lines_text (state_cells net) (integers_of_state net t) ≡ lines_text (cells_of net leaves) (values_of net t snapshot.inputs) =
    sym (lines_both leaves snapshot.inputs (state_cells net) (integers_of_state net t) h.inputs) in
    e ∙ (ap₂ (λ l m. l ++ m) b (ap (lines_text (state_cells net)) kept)
    ∙ (append_assoc head (lines_text (map input_cell leaves) (map integer_of snapshot.inputs)) (lines_text (state_cells net) (integers_of_state net t))
    ∙ (ap₂ (λ l m. l ++ m) a lines
    ∙ (append_assoc (codes "state " ++ decimal snapshot.cycle) (10 ∷ []) (lines_text (cells_of net leaves) (values_of net t snapshot.inputs))
    ∙ append_assoc (codes "state ") (decimal snapshot.cycle) (10 ∷ lines_text (cells_of net leaves) (values_of net t snapshot.inputs))))))
