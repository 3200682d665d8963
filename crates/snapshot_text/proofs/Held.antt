-- Values of lines, as they are read.
use Rattle.std.proofs.Common.{◌≡◌, ℕ, ◌+◌, ◌<◌, ◌≤◌, Bool, true, false, cond, List, [], ◌∷◌, ◌++◌, map, length, take, drop, get_or, refl, sym, ap, ap₂, ◌∙◌, subst, arith, ℤ}
use Rattle.std.specs.Prelude.{nat_lt, ◌%◌, ◌/◌, ◌^◌}
use Rattle.std.specs.List.{AllZip}
use Rattle.std.proofs.Math.Nat.{mod-eq_of_lt, pow-le-pow_right}
use Rattle.std.proofs.lemmas.Bool.Decides.{nat_tests}
use Rattle.std.proofs.lemmas.List.{append_assoc, append-nil, map-append, take_more, take_all, drop_more, drop_all}
use Rattle.bit_words.specs.declared.value.Value.{Value}
use Rattle.bit_words.specs.Values.{integer_of}
use Rattle.prim_ops.specs.Values.{fitted}
use Rattle.prim_ops.proofs.Fittings.{refitted}
use Rattle.place_text.specs.First.{IsFirst, HasNone}
use Rattle.ground_net.specs.declared.net.Net.{Net}
use Rattle.ground_net.specs.declared.net.PortLeaf.{PortLeaf}
use Rattle.ground_net.specs.Watching.{AreValuesOf}
use Rattle.ground_net.specs.Nets.{IsNet}
use Rattle.ground_net.specs.Words.{words_of_value, word_count, kept, state_of}
use Rattle.snapshot_text.specs.declared.fault.StateFault.{StateFault}
use Rattle.snapshot_text.specs.declared.cells.CellLine.{CellLine}
use Rattle.snapshot_text.specs.Cells.{Cell, input_cell, state_cells, cells_of}
use Rattle.snapshot_text.specs.Texts.{IsState, Holds}
use Rattle.snapshot_text.specs.Faults.{IsFault, place_of, rank_of}
use Rattle.snapshot_text.specs.Snapshots.{IsSnapshot}
use Rattle.snapshot_text.specs.Steps.{cell_of, shape_of_cell, words_of_cells}
use Rattle.snapshot_text.specs.Going.{IsTold, IsFirstFrom, IsReadTo, AreRead, AreHeld, IsHead}
use Rattle.snapshot_text.proofs.Going.{read_none, read_more, read_both, read_first, head_first, all_read}
use Rattle.snapshot_text.proofs.Keeping.{read_state}

-- The inputs

values_more : (leaves : List PortLeaf) (row : List Value) (leaf : PortLeaf) (v : Value) → AreValuesOf leaves row → v.kind ≡ leaf.kind → v.width ≡ leaf.width → AreValuesOf (leaves ++ leaf ∷ []) (row ++ v ∷ [])
values_more [] [] leaf v h kind width = ((kind, width), tt)
values_more [] (w ∷ row) leaf v h kind width = absurd h
values_more (l ∷ leaves) [] leaf v h kind width = absurd h
values_more (l ∷ leaves) (w ∷ row) leaf v h kind width = (h.0, values_more leaves row leaf v h.1 kind width)

pub input_values : (inputs : List PortLeaf) (n : ℕ) (row : List Value) (line : CellLine) (leaf : PortLeaf) (v : Value) → n < length inputs → leaf ≡ get_or inputs n leaf → cell_of line ≡ input_cell leaf → v.kind ≡ line.kind → v.width ≡ line.width
    → AreValuesOf (take n inputs) row → AreValuesOf (take (n + 1) inputs) (row ++ v ∷ [])
input_values inputs n row line leaf v lt e same kind width h =
    subst (λ l. AreValuesOf l (row ++ v ∷ [])) (sym (take_more inputs n leaf lt ∙ ap (λ x. take n inputs ++ x ∷ []) (sym e)))
    (values_more (take n inputs) row leaf v h (kind ∙ ap (λ (c : Cell). c.kind) same) (width ∙ ap (λ (c : Cell). c.width) same))

pub input_read : (text : List ℕ) (inputs : List PortLeaf) (start n at behind : ℕ) (row : List Value) (line : CellLine) (leaf : PortLeaf) (v : Value) → n < length inputs → leaf ≡ get_or inputs n leaf → cell_of line ≡ input_cell leaf
    → ((more : List Cell) → IsReadTo text (map input_cell inputs ++ more) start (map input_cell (drop n inputs) ++ more) at (map integer_of row)) → IsTold text (cell_of line) at (integer_of v) behind
    → (more : List Cell) → IsReadTo text (map input_cell inputs ++ more) start (map input_cell (drop (n + 1) inputs) ++ more) behind (map integer_of (row ++ v ∷ []))
input_read text inputs start n at behind row line leaf v lt e same r t more =
    let told = subst (λ c. IsTold text c at (integer_of v) behind) same t in
    let cells : map input_cell (drop n inputs) ++ more ≡ input_cell leaf ∷ (map input_cell (drop (n + 1) inputs) ++ more) =
    ap (λ l. map input_cell l ++ more) (drop_more inputs n leaf lt ∙ ap (λ x. x ∷ drop (n + 1) inputs) (sym e)) in
    subst (IsReadTo text (map input_cell inputs ++ more) start (map input_cell (drop (n + 1) inputs) ++ more) behind) (sym (map-append integer_of row (v ∷ [])))
    (read_more text (map input_cell inputs ++ more) start (input_cell leaf) (map input_cell (drop (n + 1) inputs) ++ more) at (map integer_of row) (integer_of v) behind
    (subst (λ l. IsReadTo text (map input_cell inputs ++ more) start l at (map integer_of row)) cells (r more)) told (record { narrow = leaf.narrow; fits = told.line.fits }))

-- the first fault of an input's line
pub input_fault : (text : List ℕ) (inputs : List PortLeaf) (start n at : ℕ) (row : List Value) (line : CellLine) (leaf : PortLeaf) (fault : StateFault) → n < length inputs → leaf ≡ get_or inputs n leaf → cell_of line ≡ input_cell leaf
    → ((more : List Cell) → IsReadTo text (map input_cell inputs ++ more) start (map input_cell (drop n inputs) ++ more) at (map integer_of row)) → ((more : List Cell) → IsFirstFrom text (cell_of line ∷ more) at fault)
    → (more : List Cell) → IsFirstFrom text (map input_cell inputs ++ more) start fault
input_fault text inputs start n at row line leaf fault lt e same r f more =
    let cells : map input_cell (drop n inputs) ++ more ≡ cell_of line ∷ (map input_cell (drop (n + 1) inputs) ++ more) =
    ap (λ l. map input_cell l ++ more) (drop_more inputs n leaf lt ∙ ap (λ x. x ∷ drop (n + 1) inputs) (sym e)) ∙ ap (λ c. c ∷ (map input_cell (drop (n + 1) inputs) ++ more)) (sym same) in
    read_first text (map input_cell inputs ++ more) (map input_cell (drop n inputs) ++ more) start at (map integer_of row) fault (r more)
    (subst (λ l. IsFirstFrom text l at fault) (sym cells) (f (map input_cell (drop (n + 1) inputs) ++ more)))

pub inputs_done : (text : List ℕ) (inputs : List PortLeaf) (start n at : ℕ) (row : List Value) → length inputs ≤ n
    → ((more : List Cell) → IsReadTo text (map input_cell inputs ++ more) start (map input_cell (drop n inputs) ++ more) at (map integer_of row)) → AreRead text (map input_cell inputs) start (map integer_of row) at
inputs_done text inputs start n at row le r more = subst (λ l. IsReadTo text (map input_cell inputs ++ more) start (map input_cell l ++ more) at (map integer_of row)) (drop_all n inputs le) (r more)

pub values_done : (inputs : List PortLeaf) (n : ℕ) (row : List Value) → length inputs ≤ n → AreValuesOf (take n inputs) row → AreValuesOf inputs row
values_done inputs n row le h = subst (λ l. AreValuesOf l row) (take_all n inputs le) h

-- The words of what is kept

-- lines were read up to an offset, and these are the words of what they said
pub record IsKeptTo (text : List ℕ) (cells : List Cell) (start : ℕ) (ahead : List Cell) (at : ℕ) (words : List ℕ) : Type 0 where
  pub done : List ℤ
  pub read : IsReadTo text cells start ahead at done
  pub are : (vs : List ℤ) → words_of_cells cells (done ++ vs) ≡ words ++ words_of_cells ahead vs

pub kept_none : (text : List ℕ) (cells : List Cell) (start : ℕ) → IsKeptTo text cells start cells start []
kept_none text cells start = record { done = []; read = read_none text cells start; are = λ vs. refl }

-- the words of a value are those of its integer
words_same : (line : CellLine) (v : Value) → v.kind ≡ line.kind → v.width ≡ line.width → kept (shape_of_cell (cell_of line)) (integer_of v) ≡ words_of_value v
words_same line v kind width = ap words_of_value (ap₂ (λ k w. fitted k w (integer_of v)) (sym kind) (sym width) ∙ refitted v)

pub kept_more : (text : List ℕ) (cells : List Cell) (start : ℕ) (ahead later : List Cell) (at behind : ℕ) (words : List ℕ) (line : CellLine) (v : Value) → IsKeptTo text cells start ahead at words → ahead ≡ cell_of line ∷ later
    → IsTold text (cell_of line) at (integer_of v) behind → v.kind ≡ line.kind → v.width ≡ line.width → IsKeptTo text cells start later behind (words ++ words_of_value v)
kept_more text cells start ahead later at behind words line v k e t kind width = record {
  done = k.done ++ integer_of v ∷ [];
  read = read_more text cells start (cell_of line) later at k.done (integer_of v) behind (subst (λ l. IsReadTo text cells start l at k.done) e k.read) t (record { narrow = line.narrow; fits = t.line.fits });
  are = λ vs.
      ap (words_of_cells cells) (append_assoc k.done (integer_of v ∷ []) vs)
      ∙ (k.are (integer_of v ∷ vs)
      ∙ (ap (λ l. words ++ words_of_cells l (integer_of v ∷ vs)) e
      ∙ (ap (λ l. words ++ (l ++ words_of_cells later vs)) (words_same line v kind width) ∙ sym (append_assoc words (words_of_value v) (words_of_cells later vs)))));
}

pub kept_fault : (text : List ℕ) (cells : List Cell) (start : ℕ) (ahead later : List Cell) (at : ℕ) (words : List ℕ) (line : CellLine) (fault : StateFault) → IsKeptTo text cells start ahead at words → ahead ≡ cell_of line ∷ later
    → ((more : List Cell) → IsFirstFrom text (cell_of line ∷ more) at fault) → IsFirstFrom text cells start fault
kept_fault text cells start ahead later at words line fault k e f = read_first text cells ahead start at k.done fault k.read (subst (λ l. IsFirstFrom text l at fault) (sym e) (f later))

pub kept_done : (text : List ℕ) (cells : List Cell) (start : ℕ) (ahead : List Cell) (at : ℕ) (words : List ℕ) → IsKeptTo text cells start ahead at words → ahead ≡ [] → AreHeld text cells start words at
kept_done text cells start ahead at words k e = record {
  values = k.done;
  read = subst (λ l. IsReadTo text cells start l at k.done) e k.read;
  are = sym (ap (words_of_cells cells) (sym (append-nil k.done)) ∙ (k.are [] ∙ (ap (λ l. words ++ words_of_cells l []) e ∙ append-nil words)));
}

-- one word, or two
small_bits : (b p q : ℕ) → b < p → p ≤ q → b < q
small_bits b p q h k = omega (arith, h, k)

pub wide_words : (line : CellLine) (v : Value) → v.width ≡ line.width → word_count (shape_of_cell (cell_of line)) ≡ 2 → words_of_value v ≡ v.bits % 2 ^ 64 ∷ v.bits / 2 ^ 64 ∷ []
wide_words line v e two = by (nat_lt 64 v.width) refl
  where
    by : (b : Bool) → nat_lt 64 v.width ≡ b → cond b (v.bits % 2 ^ 64 ∷ v.bits / 2 ^ 64 ∷ []) (v.bits ∷ []) ≡ v.bits % 2 ^ 64 ∷ v.bits / 2 ^ 64 ∷ []
    by true t = refl
    by false t = let count : cond {A = ℕ} (nat_lt 64 line.width) 2 1 ≡ 1 = ap (λ c. cond {A = ℕ} c 2 1) (sym (ap (nat_lt 64) e) ∙ t) in absurd (omega (arith, count, two))

pub narrow_words : (line : CellLine) (v : Value) → v.width ≡ line.width → ¬ (word_count (shape_of_cell (cell_of line)) ≡ 2) → words_of_value v ≡ v.bits % 2 ^ 64 ∷ []
narrow_words line v e other = by (nat_lt 64 v.width) refl
  where
    by : (b : Bool) → nat_lt 64 v.width ≡ b → cond b (v.bits % 2 ^ 64 ∷ v.bits / 2 ^ 64 ∷ []) (v.bits ∷ []) ≡ v.bits % 2 ^ 64 ∷ []
    by true t = absurd (other (ap (λ c. cond {A = ℕ} c 2 1) (sym (ap (nat_lt 64) e) ∙ t)))
    by false t =
        let narrow : v.width ≤ 64 = grind (arith, nat_tests) in
        let most : 2 ^ v.width ≤ 2 ^ 64 = pow-le-pow_right (omega arith) narrow in
        let below = small_bits v.bits (2 ^ v.width) (2 ^ 64) v.within most in
        ap (λ n. n ∷ []) (sym (mod-eq_of_lt below))

-- The whole snapshot

pub snapshot_is : (text : List ℕ) (net : Net) → IsNet net → (inputs : List PortLeaf) (cycle behind at : ℕ) (row : List Value) (words : List ℕ) (end' : ℕ) → IsHead text cycle behind → AreValuesOf inputs row
    → AreRead text (map input_cell inputs) behind (map integer_of row) at → AreHeld text (state_cells net) at words end' → length text ≤ end'
    → HasNone (IsFault (cells_of net inputs) text) × IsSnapshot net inputs text (record { cycle = cycle; inputs = row; words = words })
snapshot_is text net well inputs cycle behind at row words end' head values read held le =
    let all = read_both text (cells_of net inputs) (state_cells net) [] behind at end' (map integer_of row) held.values (read (state_cells net)) held.read in
    let done = all_read text (cells_of net inputs) cycle behind end' (map integer_of row ++ held.values) head all le in
    let kept = all_read_kept text net at end' held.values held.read in
    let state = read_state net well held.values words kept held.are in (
      done.none,
      record {
        state = state_of net words;
        holds = record { inputs = values; within = state.within; words = state.words_are };
        read = subst (IsState (cells_of net inputs) text cycle) (ap (λ l. map integer_of row ++ l) state.integers) done.state;
      },
    )
  where
    all_read_kept : (text : List ℕ) (net : Net) (at end' : ℕ) (vs : List ℤ) → IsReadTo text (state_cells net) at [] end' vs → AllZip Holds (state_cells net) vs
    all_read_kept text net at end' vs r = subst (AllZip Holds (state_cells net)) (append-nil vs) (r.fits [] tt)

-- the first fault of the inputs' lines, of what is kept, and of a line that is too many
pub inputs_first : (text : List ℕ) (net : Net) (inputs : List PortLeaf) (cycle behind : ℕ) (fault : StateFault) → IsHead text cycle behind → ((more : List Cell) → IsFirstFrom text (map input_cell inputs ++ more) behind fault)
    → IsFirst place_of rank_of (IsFault (cells_of net inputs) text) fault
inputs_first text net inputs cycle behind fault head f = head_first text (cells_of net inputs) cycle behind fault head (f (state_cells net))

pub kept_first : (text : List ℕ) (net : Net) (inputs : List PortLeaf) (cycle behind at : ℕ) (row : List Value) (fault : StateFault) → IsHead text cycle behind → AreRead text (map input_cell inputs) behind (map integer_of row) at
    → IsFirstFrom text (state_cells net) at fault → IsFirst place_of rank_of (IsFault (cells_of net inputs) text) fault
kept_first text net inputs cycle behind at row fault head read f =
    head_first text (cells_of net inputs) cycle behind fault head (read_first text (cells_of net inputs) (state_cells net) behind at (map integer_of row) fault (read (state_cells net)) f)

pub over_first : (text : List ℕ) (net : Net) (inputs : List PortLeaf) (cycle behind at : ℕ) (row : List Value) (words : List ℕ) (end' : ℕ) (fault : StateFault) → IsHead text cycle behind
    → AreRead text (map input_cell inputs) behind (map integer_of row) at → AreHeld text (state_cells net) at words end' → IsFirstFrom text [] end' fault → IsFirst place_of rank_of (IsFault (cells_of net inputs) text) fault
over_first text net inputs cycle behind at row words end' fault head read held f =
    kept_first text net inputs cycle behind at row fault head read (read_first text (state_cells net) [] at end' held.values fault held.read f)
