-- Settled values are what the sources show.
use Rattle.std.proofs.Common.{◌≡◌, ◌⊎◌, ℕ, ◌+◌, ◌*◌, ◌/◌, ◌%◌, ◌^◌, ◌<◌, ◌≤◌, Bool, true, false, min, nat_lt, if◌then◌else◌, List, map, take, slice_get, slice_index, Option, Some, None, option_map, option_and_then, ℤ, pos, unsigned_abs, refl, sym, subst, ap, ap₂, ◌∙◌, arith, ⊎_elim, mod-eq_of_lt, div-add-mod'}
use Rattle.std.proofs.lemmas.Option.{slice_get-map}
use Rattle.bit_words.specs.declared.value.Kind.{Kind}
use Rattle.bit_words.specs.declared.value.Kind.TheVariants.{Unsigned}
use Rattle.bit_words.specs.declared.value.Value.{Value}
use Rattle.bit_words.specs.Values.{integer, integer_of}
use Rattle.prim_ops.specs.Values.{fitted}
use Rattle.prim_ops.proofs.Fittings.{same_value, refitted}
use Rattle.ground_net.specs.declared.net.Net.{Net}
use Rattle.ground_net.specs.declared.net.Leaf.{Leaf}
use Rattle.ground_net.specs.declared.net.NetMemory.{NetMemory}
use Rattle.ground_net.specs.declared.net.NetRegister.{NetRegister}
use Rattle.ground_net.specs.declared.net.ElementLeaf.{ElementLeaf}
use Rattle.ground_net.specs.declared.net.Role.TheVariants as role
use Rattle.ground_net.specs.Shapes.{Shape, shaped, shape_of_value}
use Rattle.ground_net.specs.Cycles.{NetState, Inputs, Valuation, Settled, Capture, captures, instant_of, fitted_to, held_at, element_leaf, fitted_to_element, depth_of}
use Rattle.ground_net.specs.Nets.{IsNet, HasRole, leaf_shape, element_shape, shape_or_none, register_shapes, captured_shapes, element_shapes}
use Rattle.ground_net.specs.Words.{state_of, value_at, high_at, integer_at_word, element_integer, register_word, captured_word, element_word, element_words, memory_word, count_words}
use Rattle.ground_net.proofs.Shaping.{fitted_shape}
use Rattle.flat_code.specs.Meaning.{input_word, input_high, low_of, high_of}
use Rattle.code_draft.specs.Drafts.{input_value}
use Rattle.code_draft.proofs.Cuts.{fitted_bits}
use Rattle.code_draft.specs.declared.sources.Source.{Source}
use Rattle.code_draft.specs.declared.sources.Source.TheVariants as source
use Rattle.code_draft.specs.declared.sources.Kept.{Kept}
use Rattle.code_draft.specs.declared.sources.Elements.{Elements}
use Rattle.code_draft.specs.declared.sources.Sources.{Sources}
use Rattle.code_emit.specs.Emits.{kept_shape, elements_shape, element_value, IsOf, Sees}
use Rattle.partition_code.specs.FromNets.{IsFrom, HasSource, HasElements, AreOf, MatchInputs}

some_same : {A : Type 0} {x y : A} → Some x ≡ Some y → x ≡ y
some_same e = cc

-- a value of a kind and a width, fitted to these once more
fitted_back : (s : Shape) (v : Value) → shape_of_value v ≡ s → fitted s.kind s.width (integer_of v) ≡ v
fitted_back s v e = ap (λ (t : Shape). fitted t.kind t.width (integer_of v)) (sym e) ∙ refitted v

value_at_shape : (kind : Kind) (width : ℕ) (words : List ℕ) (at : ℕ) → width ≤ 128 → shape_of_value (value_at (shaped kind width) words at) ≡ shaped kind width
value_at_shape kind width words at h = fitted_shape kind width (pos (slice_index words at + high_at (shaped kind width) words at * 2 ^ 64)) h

-- what is kept at a word, fitted to the leaf that keeps it
pub kept_value : (leaf : Leaf) (words : List ℕ) (at : ℕ) (o : Option Shape) → o ≡ Some (leaf_shape leaf) → fitted_to leaf (integer_at_word words at o) ≡ value_at (leaf_shape leaf) words at
kept_value leaf words at o e =
    ap (λ p. fitted_to leaf (integer_at_word words at p)) e ∙ fitted_back (leaf_shape leaf) (value_at (leaf_shape leaf) words at) (value_at_shape leaf.kind leaf.width words at leaf.narrow)

-- an input's value
input_is : (s : Shape) (inputs : List Value) (n : ℕ) (v : Value) → slice_get inputs n ≡ Some v → shape_of_value v ≡ s → s.width ≤ 128 → input_value s inputs n ≡ v
input_is s inputs n v at same most =
    let kind : v.kind ≡ s.kind = ap (λ (t : Shape). t.kind) same in
    let width : v.width ≡ s.width = ap (λ (t : Shape). t.width) same in
    let words : input_word inputs n + input_high inputs n * 2 ^ 64 ≡ v.bits = ap (λ o. low_of o + high_of o * 2 ^ 64) at ∙ turned (v.bits % 2 ^ 64) (v.bits / 2 ^ 64 * 2 ^ 64) v.bits (div-add-mod' v.bits (2 ^ 64)) in
    let cut : min s.width 128 ≡ s.width = omega (arith, most) in
    let within : v.bits < 2 ^ v.width = v.within in
    same_value (input_value s inputs n) v (sym kind) (cut ∙ sym width)
    (fitted_bits s.kind s.width (input_word inputs n + input_high inputs n * 2 ^ 64) most ∙ (ap₂ (λ b w. b % 2 ^ w) words (sym width) ∙ mod-eq_of_lt within))
  where
    turned : (x y z : ℕ) → y + x ≡ z → x + y ≡ z
    turned x y z e = omega (arith, e)

module _ (net : Net) (w : IsNet net) (words : List ℕ) (inputs : List Value) (F : List ℕ) (given : Inputs) (rho : Valuation) (match : MatchInputs net inputs given) (settled : Settled net (state_of net words) given rho) where
  pub register_shape_there : (x n : ℕ) (leaf : Leaf) → slice_get net.leaves x ≡ Some leaf → leaf.role ≡ role.Register n → slice_get (register_shapes net) n ≡ Some (leaf_shape leaf)
  register_shape_there x n leaf there is =
      let r = w.registers x n (record { leaf = leaf; there = there; is = is }) in
      slice_get-map (λ (register : NetRegister). shape_or_none (slice_get net.leaves register.leaf)) net.registers n
      ∙ (ap (option_map (λ (register : NetRegister). shape_or_none (slice_get net.leaves register.leaf))) r.1
      ∙ ap (λ o. Some (shape_or_none o)) (ap (slice_get net.leaves) r.2 ∙ there))

  captured_shape_there : (x n : ℕ) (leaf : Leaf) → slice_get net.leaves x ≡ Some leaf → leaf.role ≡ role.Captured n → slice_get (captured_shapes net) n ≡ Some (leaf_shape leaf)
  captured_shape_there x n leaf there is =
      let r = w.captured x n (record { leaf = leaf; there = there; is = is }) in
      slice_get-map (λ (c : Capture). shape_or_none (slice_get net.leaves c.leaf)) (captures net) n
      ∙ (ap (option_map (λ (c : Capture). shape_or_none (slice_get net.leaves c.leaf))) r.1
      ∙ ap (λ o. Some (shape_or_none o)) (ap (slice_get net.leaves) r.2 ∙ there))

  shows : (x : ℕ) (leaf : Leaf) (src : Source) → slice_get net.leaves x ≡ Some leaf → IsFrom net leaf src → IsOf src words inputs F (rho x)
  shows x leaf (source.Word k) there h =
      let n = h.1 in
      ⊎_elim
      (λ r.
      settled.registers x n leaf there r.0
      ∙ (kept_value leaf words (register_word net n) (slice_get (register_shapes net) n) (register_shape_there x n leaf there r.0)
      ∙ ap₂ (λ s at. value_at s words at) (sym h.0) (sym r.1)))
      (λ r.
      settled.captured x n leaf there r.0
      ∙ (kept_value leaf words (captured_word net n) (slice_get (captured_shapes net) n) (captured_shape_there x n leaf there r.0)
      ∙ ap₂ (λ s at. value_at s words at) (sym h.0) (sym r.1)))
      h.2
  shows x leaf (source.Input k) there h =
      let v = match x k.number leaf there h.1 in
      let back : fitted_to leaf (given k.number) ≡ v.0 = ap (fitted_to leaf) (sym v.3) ∙ fitted_back (leaf_shape leaf) v.0 v.2 in
      settled.inputs x k.number leaf there h.1 ∙ (back ∙ sym (input_is (kept_shape k) inputs k.number v.0 v.1 (v.2 ∙ sym h.0) k.narrow))
  shows x leaf (source.Constant c) there h = settled.clocks x leaf there h.0 ∙ sym h.1
  shows x leaf (source.Frame s) there h = absurd h

  element_shape_there : (memory : NetMemory) (k : ℕ) (el : ElementLeaf) → slice_get memory.elements k ≡ Some el → slice_get (element_shapes memory) k ≡ Some (element_shape el)
  element_shape_there memory k el e = slice_get-map element_shape memory.elements k ∙ ap (option_map element_shape) e

  leaf_there : (m k : ℕ) (e : Elements) (h : HasElements net m k e) → element_leaf net m k ≡ Some h.leaf
  leaf_there m k e h = ap (option_and_then (λ (memory : NetMemory). slice_get memory.elements k)) h.there ∙ h.at

  -- what a memory holds at an address
  held_is : (m k : ℕ) (e : Elements) (h : HasElements net m k e) (a : ℕ)
      → held_at net (state_of net words) m k a ≡ fitted h.leaf.kind h.leaf.width (if nat_lt a h.memory.depth then integer_at_word words (element_word net m h.memory a k) (Some (element_shape h.leaf)) else pos 0)
  held_is m k e h a =
      ap₂ (λ o memory. fitted_to_element o (if nat_lt a (depth_of memory) then element_integer net words m memory a k else pos 0)) (leaf_there m k e h) h.there
      ∙ ap (fitted h.leaf.kind h.leaf.width) (once (nat_lt a h.memory.depth) (integer_at_word words (element_word net m h.memory a k) (slice_get (element_shapes h.memory) k)) ∙
      ap (λ o. if nat_lt a h.memory.depth then integer_at_word words (element_word net m h.memory a k) o else pos 0) (element_shape_there h.memory k h.leaf h.at))
    where
      once : (b : Bool) (i : ℤ) → (if b then (if b then i else pos 0) else pos 0) ≡ (if b then i else pos 0)
      once true i = refl
      once false i = refl

  word_is : (m k : ℕ) (e : Elements) (h : HasElements net m k e) (a : ℕ) → element_word net m h.memory a k ≡ e.region.base + a * e.region.stride
  word_is m k e h a =
      let base = h.base in
      let first : element_word net m h.memory 0 k ≡ memory_word net m + count_words (take k (element_shapes h.memory)) = plain (memory_word net m) (element_words h.memory) (count_words (take k (element_shapes h.memory))) in
      let sum : element_word net m h.memory a k ≡ (memory_word net m + count_words (take k (element_shapes h.memory))) + a * element_words h.memory = moved (memory_word net m) (a * element_words h.memory) (count_words (take k (element_shapes h.memory))) in
      sum ∙ ap₂ (λ x y. x + a * y) (sym first ∙ sym base) (sym h.stride)
    where
      plain : (x y z : ℕ) → x + (0 * y + z) ≡ x + z
      plain x y z = omega arith

      moved : (x y z : ℕ) → x + (y + z) ≡ (x + z) + y
      moved x y z = omega arith

  loads : (m k : ℕ) (e : Elements) (h : HasElements net m k e) (address : Value) → address.kind ≡ Unsigned
      → held_at net (state_of net words) m k (unsigned_abs (integer_of address)) ≡ element_value e words address
  loads m k e h address kind =
      let a = address.bits in
      let number : unsigned_abs (integer_of address) ≡ a = ap (λ q. unsigned_abs (integer q address.width a)) kind in
      let el = h.leaf in
      let v = value_at (element_shape el) words (element_word net m h.memory a k) in
      ap (held_at net (state_of net words) m k) number
      ∙ (held_is m k e h a
      ∙ (by_test (nat_lt a h.memory.depth) (fitted_back (element_shape el) v (value_at_shape el.kind el.width words (element_word net m h.memory a k) el.narrow))
      ∙ (ap₂ (λ (s : Shape) at. if nat_lt a h.memory.depth then value_at s words at else fitted s.kind s.width (pos 0)) (sym h.shape) (word_is m k e h a)
      ∙ ap (λ d. if nat_lt a d then value_at (elements_shape e) words (e.region.base + a * e.region.stride) else fitted e.kind e.width (pos 0)) (sym h.depth))))
    where
      by_test : (b : Bool)
          → fitted h.leaf.kind h.leaf.width (integer_of (value_at (element_shape h.leaf) words (element_word net m h.memory address.bits k))) ≡ value_at (element_shape h.leaf) words (element_word net m h.memory address.bits k)
          → fitted h.leaf.kind h.leaf.width (if b then integer_at_word words (element_word net m h.memory address.bits k) (Some (element_shape h.leaf)) else pos 0)
          ≡ (if b then value_at (element_shape h.leaf) words (element_word net m h.memory address.bits k) else fitted h.leaf.kind h.leaf.width (pos 0))
      by_test true q = q
      by_test false q = refl

  load_shapes : (m k : ℕ) (e : Elements) (h : HasElements net m k e) (a : ℕ) → shape_of_value (held_at net (state_of net words) m k a) ≡ elements_shape e
  load_shapes m k e h a =
      ap shape_of_value (held_is m k e h a)
      ∙ (fitted_shape h.leaf.kind h.leaf.width (if nat_lt a h.memory.depth then integer_at_word words (element_word net m h.memory a k) (Some (element_shape h.leaf)) else pos 0) h.leaf.narrow ∙ sym h.shape)

  pub sees : (S : Sources) → AreOf net S → Sees S words inputs F (instant_of net (state_of net words) rho)
  sees S of = record {
    leaf = λ x src e. let h = of.leaves x src e in shows x h.leaf src h.there h.is;
    load = λ m k e address at kind. loads m k e (of.elements m k e at) address kind;
    shapes = λ m k e address at. load_shapes m k e (of.elements m k e at) (unsigned_abs (integer_of address));
  }
