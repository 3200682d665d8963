-- Settled values show the state of the cycle's words.
use Rattle.std.proofs.Common.{◌≡◌, ℕ, ◌+◌, ◌*◌, ◌^◌, ◌≤◌, Bool, true, false, nat_lt, if◌then◌else◌, List, slice_get, slice_index, Option, Some, None, option_map, option_and_then, ℤ, pos, unsigned_abs, refl, sym, ap, ap₂, ◌∙◌}
use Rattle.std.proofs.lemmas.Option.{slice_get-map}
use Rattle.bit_words.specs.declared.value.Value.{Value}
use Rattle.bit_words.specs.Values.{integer_of}
use Rattle.prim_ops.specs.Values.{fitted}
use Rattle.prim_ops.proofs.Fittings.{refitted}
use Rattle.ground_net.specs.declared.net.Net.{Net}
use Rattle.ground_net.specs.declared.net.Leaf.{Leaf}
use Rattle.ground_net.specs.declared.net.NetMemory.{NetMemory}
use Rattle.ground_net.specs.declared.net.NetRegister.{NetRegister}
use Rattle.ground_net.specs.declared.net.ElementLeaf.{ElementLeaf}
use Rattle.ground_net.specs.Shapes.{Shape, shaped, shape_of_value}
use Rattle.ground_net.specs.Cycles.{NetState, Inputs, Valuation, Settled, instant_of, fitted_to, held_at, element_leaf, fitted_to_element, depth_of}
use Rattle.ground_net.specs.Nets.{IsNet, HasRole, leaf_shape, element_shape, shape_or_none, register_shapes, element_shapes}
use Rattle.ground_net.specs.Words.{state_of, value_at, high_at, integer_at_word, element_integer, register_word, element_word}
use Rattle.ground_net.proofs.Shaping.{fitted_shape}
use Rattle.partition_code.proofs.Seen.{kept_value}
use Rattle.code_memories.proofs.Reading.{zero_integer}
use Rattle.code_memories.specs.Telling.{ShowsState, contents_at}

module _ (net : Net) (words : List ℕ) (given : Inputs) (rho : Valuation) (w : IsNet net) (settled : Settled net (state_of net words) given rho) where
  registers_shown : (n : ℕ) (register : NetRegister) → slice_get net.registers n ≡ Some register → integer_of (rho register.leaf) ≡ (state_of net words).registers n
  registers_shown n register e =
      let r = w.register_leaves n register e in
      let at = register_word net n in
      let known : slice_get (register_shapes net) n ≡ Some (leaf_shape r.leaf)
      = slice_get-map (λ (q : NetRegister). shape_or_none (slice_get net.leaves q.leaf)) net.registers n
      ∙ (ap (option_map (λ (q : NetRegister). shape_or_none (slice_get net.leaves q.leaf))) e ∙ ap (λ o. Some (shape_or_none o)) r.there) in
      ap integer_of (settled.registers register.leaf n r.leaf r.there r.is ∙ kept_value r.leaf words at (slice_get (register_shapes net) n) known) ∙ sym (ap (integer_at_word words at) known)

  contents_shown : (m k : ℕ) (memory : NetMemory) (leaf : ElementLeaf) (a : ℕ) → slice_get net.memories m ≡ Some memory → slice_get memory.elements k ≡ Some leaf
      → integer_of (held_at net (state_of net words) m k a) ≡ contents_at ((state_of net words).contents m) memory.depth k a
  contents_shown m k memory leaf a there at =
      let now : ℤ = (state_of net words).contents m a k in
      let el : element_leaf net m k ≡ Some leaf = ap (option_and_then (λ (y : NetMemory). slice_get y.elements k)) there ∙ at in
      let word = element_word net m memory a k in
      let v = value_at (element_shape leaf) words word in
      let shape : slice_get (element_shapes memory) k ≡ Some (element_shape leaf) = slice_get-map element_shape memory.elements k ∙ ap (option_map element_shape) at in
      let is : now ≡ (if nat_lt a memory.depth then integer_of v else pos 0)
      = ap (λ o. element_integer net words m o a k) there ∙ ap (λ o. if nat_lt a memory.depth then integer_at_word words word o else pos 0) shape in
      ap₂ (λ o d. integer_of (fitted_to_element o (if nat_lt a (depth_of d) then now else pos 0))) el there
      ∙ (ap (λ i. integer_of (fitted leaf.kind leaf.width (if nat_lt a memory.depth then i else pos 0))) is
      ∙ (by_test (nat_lt a memory.depth) (ap integer_of (back v)) ∙ ap (λ i. if nat_lt a memory.depth then i else pos 0) (sym is)))
    where
      back : (u : Value) → fitted leaf.kind leaf.width (integer_of (value_at (element_shape leaf) words (element_word net m memory a k))) ≡ value_at (element_shape leaf) words (element_word net m memory a k)
      back u =
          let v = value_at (element_shape leaf) words (element_word net m memory a k) in
          let is_shape : shape_of_value v ≡ element_shape leaf
          = fitted_shape leaf.kind leaf.width (pos (slice_index words (element_word net m memory a k) + high_at (element_shape leaf) words (element_word net m memory a k) * 2 ^ 64)) leaf.narrow in
          ap (λ (t : Shape). fitted t.kind t.width (integer_of v)) (sym is_shape) ∙ refitted v

      by_test : (b : Bool) → integer_of (fitted leaf.kind leaf.width (integer_of (value_at (element_shape leaf) words (element_word net m memory a k)))) ≡ integer_of (value_at (element_shape leaf) words (element_word net m memory a k))
          → integer_of (fitted leaf.kind leaf.width (if b then (if b then integer_of (value_at (element_shape leaf) words (element_word net m memory a k)) else pos 0) else pos 0))
          ≡ (if b then (if b then integer_of (value_at (element_shape leaf) words (element_word net m memory a k)) else pos 0) else pos 0)
      by_test true e = e
      by_test false e = zero_integer leaf.kind leaf.width

  pub shows_state : ShowsState net (state_of net words) (instant_of net (state_of net words) rho)
  shows_state = record {
    registers = registers_shown;
    contents = λ m k memory leaf address there at. contents_shown m k memory leaf (unsigned_abs (integer_of address)) there at;
  }
