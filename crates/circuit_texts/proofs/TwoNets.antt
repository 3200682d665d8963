-- Two nets of one circuit that holds one state have the same text of it; and two texts that are the same hold one state.
use Rattle.std.proofs.Common.{◌≡◌, suc, List, [], ◌∷◌, ◌++◌, map, length, refl, sym, ap, ap₂, ◌∙◌, subst}
use Rattle.std.proofs.lemmas.List.{length-map}
use Rattle.bit_words.specs.declared.value.Value.{Value}
use Rattle.bit_words.specs.Values.{integer_of}
use Rattle.prim_ops.specs.Values.{fitted}
use Rattle.prim_ops.proofs.Fittings.{refitted}
use Rattle.fir_tree.specs.LeafNames.{Texts}
use Rattle.fir_meaning.specs.Components.{Design}
use Rattle.fir_meaning.specs.States.{State, SameState}
use Rattle.ground_net.specs.declared.net.Net.{Net}
use Rattle.ground_net.specs.declared.net.NetRegister.{NetRegister}
use Rattle.ground_net.specs.declared.net.PortLeaf.{PortLeaf}
use Rattle.ground_net.specs.declared.net.Ports.{Ports}
use Rattle.ground_net.specs.Watching.{AreValuesOf, inputs, watched, port_names}
use Rattle.ground_net.specs.Cycles.{NetState, Capture, captures}
use Rattle.net_of_circuit.specs.FlatOrder.{Placed, all_leaves, all_memories}
use Rattle.net_of_circuit.specs.NetOf.{IsNetWith, MatchingState}
use Rattle.net_laws.specs.Serves.{Serves, Matches}
use Rattle.net_laws.proofs.FlatOrders.{one_placed}
use Rattle.circuit_run.specs.Ports.{ArePortsOf}
use Rattle.circuit_run.proofs.Parts.{ports_of_circuit}
use Rattle.circuit_run.proofs.Once.{ports_once}
use Rattle.snapshot_text.specs.Cells.{Cell, input_cell, cells_of}
use Rattle.snapshot_text.specs.Snapshots.{integers_of_state, values_of}
use Rattle.circuit_texts.proofs.Counting.{size_of, counted, append_same, integers_counted, agree_counted, counted_agree}
use Rattle.circuit_texts.proofs.Alike.{registers_same, captures_same, sizes_same, state_cells_same}
use Rattle.circuit_texts.proofs.Same.{same_agree, agree_same}

-- Rows of the same integers

value_same : (v w : Value) → v.kind ≡ w.kind → v.width ≡ w.width → integer_of v ≡ integer_of w → v ≡ w
value_same v w kind width e =
    sym (refitted v) ∙ (ap (λ k. fitted k v.width (integer_of v)) kind ∙ (ap (λ n. fitted w.kind n (integer_of v)) width ∙ (ap (fitted w.kind w.width) e ∙ refitted w)))

heads : {A : Type 0} {x y : A} {xs ys : List A} → x ∷ xs ≡ y ∷ ys → x ≡ y
heads e = cc

tails : {A : Type 0} {x y : A} {xs ys : List A} → x ∷ xs ≡ y ∷ ys → xs ≡ ys
tails e = cc

pub rows_same : (leaves : List PortLeaf) (row other : List Value) → AreValuesOf leaves row → AreValuesOf leaves other → map integer_of row ≡ map integer_of other → row ≡ other
rows_same [] [] [] a b e = refl
rows_same [] [] (w ∷ other) a b e = absurd b
rows_same [] (v ∷ row) other a b e = absurd a
rows_same (leaf ∷ leaves) [] other a b e = absurd a
rows_same (leaf ∷ leaves) (v ∷ row) [] a b e = absurd b
rows_same (leaf ∷ leaves) (v ∷ row) (w ∷ other) a b e =
    ap₂ (λ x xs. x ∷ xs) (value_same v w (a.0.0 ∙ sym b.0.0) (a.0.1 ∙ sym b.0.1) (heads e)) (rows_same leaves row other a.1 b.1 (tails e))

pub row_long : (leaves : List PortLeaf) (row : List Value) → AreValuesOf leaves row → length row ≡ length leaves
row_long [] [] a = refl
row_long [] (v ∷ row) a = absurd a
row_long (leaf ∷ leaves) [] a = absurd a
row_long (leaf ∷ leaves) (v ∷ row) a = ap suc (row_long leaves row a.1)

-- the ports of a net
abbrev pub ports_of : Net → Ports
ports_of net = record { inputs = inputs net; watched = watched net; names = port_names net }

pub its_ports : (texts : Texts) (design : Design) (net : Net) → Serves texts design net → ArePortsOf texts design (ports_of net)
its_ports texts design net serves = ports_of_circuit texts design net serves (ports_of net) refl refl refl

module _ (texts : Texts) (design : Design) (net other : Net) (a : Serves texts design net) (b : Serves texts design other) where
  abbrev placed : List Placed
  placed = a.of.placed

  placed_same : b.of.placed ≡ a.of.placed
  placed_same = one_placed design b.of.main a.of.main b.of.placed a.of.placed b.of.found a.of.found b.of.order a.of.order

  is_other : IsNetWith texts design a.of.placed b.of.elements other
  is_other = subst (λ p. IsNetWith texts design p b.of.elements other) placed_same b.of.is

  -- The inputs are the same, and so are the lines.
  pub inputs_same : inputs net ≡ inputs other
  inputs_same = ap (λ (p : Ports). p.inputs) (ports_once texts design (ports_of net) (ports_of other) (its_ports texts design net a) (its_ports texts design other b))

  pub cells_same : cells_of net (inputs net) ≡ cells_of other (inputs other)
  cells_same =
      ap₂ (λ (x y : List Cell). x ++ y) (ap (map input_cell) inputs_same)
      (state_cells_same texts design placed net other a.of.elements b.of.elements a.of.well_formed b.of.well_formed a.of.is is_other)

  registers_many : length net.registers ≡ length other.registers
  registers_many =
      sym (length-map net.registers (λ (r : NetRegister). r.leaf))
      ∙ (ap length (registers_same texts design placed net other a.of.elements b.of.elements a.of.well_formed b.of.well_formed a.of.is is_other)
      ∙ length-map other.registers (λ (r : NetRegister). r.leaf))

  reads_many : length (captures net) ≡ length (captures other)
  reads_many =
      sym (length-map (captures net) (λ (c : Capture). c.leaf))
      ∙ (ap length (captures_same texts design placed net other a.of.elements b.of.elements a.of.well_formed b.of.well_formed a.of.is is_other)
      ∙ length-map (captures other) (λ (c : Capture). c.leaf))

  other_counted : (u : NetState) → integers_of_state other u ≡ counted (length net.registers) (map size_of net.memories) (length (captures net)) u
  other_counted u =
      integers_counted other u
      ∙ (ap (λ n. counted n (map size_of other.memories) (length (captures other)) u) (sym registers_many)
      ∙ (ap (λ ms. counted (length net.registers) ms (length (captures other)) u) (sym (sizes_same texts design placed net other a.of.elements b.of.elements a.of.well_formed b.of.well_formed a.of.is is_other))
      ∙ ap (λ n. counted (length net.registers) (map size_of net.memories) n u) (sym reads_many)))

  module _ (s s' : State) (t u : NetState) (first : Matches a s t) (second : Matches b s' u) where
    second_here : MatchingState (all_leaves a.of.placed) (all_memories a.of.placed) b.of.elements other s' u
    second_here = subst (λ p. MatchingState (all_leaves p) (all_memories p) b.of.elements other s' u) placed_same second

    -- States that are the same have the same integers.
    pub integers_same : SameState design s s' → integers_of_state net t ≡ integers_of_state other u
    integers_same same =
        integers_counted net t
        ∙ (agree_counted (length net.registers) (map size_of net.memories) (length (captures net)) t u
        (same_agree texts design a.of.main a.of.found placed a.of.order a.lists a.typed net other a.of.elements b.of.elements a.of.well_formed b.of.well_formed a.of.is is_other s s' t u first second_here same)
        ∙ sym (other_counted u))

    -- States with the same integers are the same.
    pub states_same : integers_of_state net t ≡ integers_of_state other u → SameState design s s'
    states_same e =
        agree_same texts design a.of.main a.of.found placed a.of.order a.lists a.typed net other a.of.elements b.of.elements a.of.well_formed b.of.well_formed a.of.is is_other s s' t u first second_here
        (counted_agree (length net.registers) (map size_of net.memories) (length (captures net)) t u (sym (integers_counted net t) ∙ (e ∙ other_counted u)))

    -- So it is with values: inputs, and what is kept.
    module _ (row row' : List Value) (are : AreValuesOf (inputs net) row) (are' : AreValuesOf (inputs other) row') where
      pub values_split : values_of net t row ≡ values_of other u row' → (row ≡ row') × SameState design s s'
      values_split e =
          let here : AreValuesOf (inputs net) row' = subst (λ ls. AreValuesOf ls row') (sym inputs_same) are' in
          let long : length (map integer_of row) ≡ length (map integer_of row') =
          length-map row integer_of ∙ (row_long (inputs net) row are ∙ (sym (row_long (inputs net) row' here) ∙ sym (length-map row' integer_of))) in
          let both = append_same (map integer_of row) (map integer_of row') (integers_of_state net t) (integers_of_state other u) long e in
          (rows_same (inputs net) row row' are here both.0, states_same both.1)
