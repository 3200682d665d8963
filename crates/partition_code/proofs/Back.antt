-- The state that a state's words make is the state, wherever the net keeps something.
use Rattle.std.proofs.Common.{◌≡◌, ℕ, ◌<◌, ◌≤◌, Bool, true, false, List, [], ◌∷◌, slice_get, nat_lt, ◌==◌, if◌then◌else◌, ◌&&◌, Option, Some, None, option_map, ℤ, pos, refl, sym, subst, ap, ◌∙◌, arith}
use mathlib.Core.Path.{fun_ext}
use Rattle.std.specs.Prelude.{option_and_then, unsigned_abs}
use Rattle.std.proofs.lemmas.Bool.{ltb-true, and_parts}
use Rattle.std.proofs.lemmas.Option.{slice_get-map, slice_get_within}
use Rattle.bit_words.specs.declared.value.Kind.TheVariants.{Unsigned}
use Rattle.bit_words.specs.declared.value.Value.{Value}
use Rattle.bit_words.specs.Values.{integer_of}
use Rattle.bit_words.proofs.Congruence.{bits_below}
use Rattle.prim_ops.specs.Values.{fitted}
use Rattle.prim_ops.specs.Ports.{Shown, Held, after_port, after_ports}
use Rattle.prim_ops.proofs.Fittings.{same_value, fitted_same}
use Rattle.ground_net.specs.declared.net.Leaf.{Leaf}
use Rattle.ground_net.specs.declared.net.Net.{Net}
use Rattle.ground_net.specs.declared.net.NetRegister.{NetRegister}
use Rattle.ground_net.specs.declared.net.NetMemory.{NetMemory}
use Rattle.ground_net.specs.declared.net.ElementLeaf.{ElementLeaf}
use Rattle.ground_net.specs.declared.net.NetPort.{NetPort}
use Rattle.ground_net.specs.Grounds.{Instant, value}
use Rattle.ground_net.specs.Cycles.{NetState, Inputs, Valuation, Settled, instant_of, fitted_to, fitted_to_element, depth_of, next_of_register, next_of_memory, next_of_capture, shown, taken, Capture, captures}
use Rattle.ground_net.specs.Nets.{IsNet, IsWithin, element_shape, shape_or_none, element_shapes}
use Rattle.ground_net.specs.Words.{words_of, state_of}
use Rattle.ground_net.proofs.Placing.{registers_back, contents_back, captured_back}
use Rattle.ground_net.proofs.Settling.{get_there}
use Rattle.ground_net.proofs.Ranges.{capture_from}
use Rattle.partition_code.specs.Effects.{register_shape, capture_shape}
use Rattle.partition_code.proofs.Parts.{register_shape_at, capture_shape_at}

-- widths are narrow
narrow_or_none : (o : Option Leaf) → (shape_or_none o).width ≤ 128
narrow_or_none (Some leaf) = leaf.narrow
narrow_or_none None = omega arith

-- a value of no bits
no_bits : (n m : ℤ) → fitted Unsigned 0 n ≡ fitted Unsigned 0 m
no_bits n m = same_value (fitted Unsigned 0 n) (fitted Unsigned 0 m) refl refl (both (fitted Unsigned 0 n).bits (fitted Unsigned 0 m).bits (bits_below 0 n) (bits_below 0 m))
  where
    both : (a b : ℕ) → a < 1 → b < 1 → a ≡ b
    both a b p q = omega (arith, p, q)

-- what is the same where it counts
leaf_same : (o : Option ElementLeaf) (n m : ℤ) → ((leaf : ElementLeaf) → o ≡ Some leaf → n ≡ m) → fitted_to_element o n ≡ fitted_to_element o m
leaf_same (Some leaf) n m h = ap (fitted leaf.kind leaf.width) (h leaf refl)
leaf_same None n m h = no_bits n m

where_same : (b : Bool) (n m : ℤ) → (b ≡ true → n ≡ m) → (if b then n else pos 0) ≡ (if b then m else pos 0)
where_same true n m h = h refl
where_same false n m h = refl

-- what ports leave of a leaf of an element depends on what it held alone
ports_same : (depth : ℕ) (show : NetPort → Shown ℕ) (ports : List NetPort) (h g : Held ℕ) (a k : ℕ) → h a k ≡ g a k → after_ports depth show ports h a k ≡ after_ports depth show ports g a k
ports_same depth show [] h g a k e = e
ports_same depth show (port ∷ ports) h g a k e =
    let q = show port in
    ports_same depth show ports (after_port depth h q) (after_port depth g q) a k
    (ap (λ n. if (q.writes && nat_lt q.address depth) && ((q.address == a) && q.masked k) then q.written k else n) e)

taken_same : (after : Bool) (a k : ℕ) (old new other later : Held ℕ) → old a k ≡ other a k → new a k ≡ later a k → taken after old new a k ≡ taken after other later a k
taken_same true a k old new other later e f = f
taken_same false a k old new other later e f = e

element_shape_at : (memory : NetMemory) (k : ℕ) (leaf : ElementLeaf) → slice_get memory.elements k ≡ Some leaf → slice_get (element_shapes memory) k ≡ Some (element_shape leaf)
element_shape_at memory k leaf e = slice_get-map element_shape memory.elements k ∙ ap (option_map element_shape) e

-- the state of a state's words
abbrev pub again : Net → NetState → NetState
again net s = state_of net (words_of net s)

module _ (net : Net) (s : NetState) (inside : IsWithin net s) where
  register_again : (n : ℕ) (register : NetRegister) → slice_get net.registers n ≡ Some register → (again net s).registers n ≡ s.registers n
  register_again n register e =
      let t = register_shape net register in
      let at = register_shape_at net n register e in
      registers_back net s n t at ∙ fitted_same t.kind t.width (s.registers n) (narrow_or_none (slice_get net.leaves register.leaf)) (inside.registers n t at)

  captured_again : (n : ℕ) (c : Capture) → slice_get (captures net) n ≡ Some c → (again net s).captured n ≡ s.captured n
  captured_again n c e =
      let t = capture_shape net c in
      let at = capture_shape_at net n c e in
      captured_back net s n t at ∙ fitted_same t.kind t.width (s.captured n) (narrow_or_none (slice_get net.leaves c.leaf)) (inside.captured n t at)

  contents_again : (m a k : ℕ) (memory : NetMemory) (leaf : ElementLeaf) → slice_get net.memories m ≡ Some memory → slice_get memory.elements k ≡ Some leaf → a < memory.depth
      → (again net s).contents m a k ≡ s.contents m a k
  contents_again m a k memory leaf e f lt =
      let t = element_shape leaf in
      let at = element_shape_at memory k leaf f in
      let narrow : leaf.width ≤ 128 = leaf.narrow in
      contents_back net s m a k memory t e at lt ∙ fitted_same t.kind t.width (s.contents m a k) narrow (inside.contents m a k memory t e at)

  -- what is held at an address
  held_again : (m k a : ℕ) (o : Option NetMemory) → slice_get net.memories m ≡ o
      → fitted_to_element (option_and_then (λ memory. slice_get memory.elements k) o) (if nat_lt a (depth_of o) then (again net s).contents m a k else pos 0)
      ≡ fitted_to_element (option_and_then (λ memory. slice_get memory.elements k) o) (if nat_lt a (depth_of o) then s.contents m a k else pos 0)
  held_again m k a None e = no_bits _ _
  held_again m k a (Some memory) e = leaf_same (slice_get memory.elements k) _ _ (λ leaf f.
      where_same (nat_lt a memory.depth) ((again net s).contents m a k) (s.contents m a k) (λ lt.
      contents_again m a k memory leaf e f (ltb-true a memory.depth lt)))

  pub instant_again : (rho : Valuation) → instant_of net (again net s) rho ≡ instant_of net s rho
  instant_again rho = ap (λ (l : ℕ → ℕ → Value → Value). record { leaf = rho; load = l })
      (fun_ext (λ m. fun_ext (λ k. fun_ext (λ address. held_again m k (unsigned_abs (integer_of address)) (slice_get net.memories m) refl))))

  module _ (w : IsNet net) where
    -- what settles settles again
    pub settled_again : (given : Inputs) (rho : Valuation) → Settled net s given rho → Settled net (again net s) given rho
    settled_again given rho p = record {
      inputs = p.inputs;
      clocks = p.clocks;
      registers = λ x n leaf there is.
          let r = w.registers x n (record { leaf = leaf; there = there; is = is }) in
          p.registers x n leaf there is ∙ ap (fitted_to leaf) (sym (register_again n r.0 r.1));
      captured = λ x n leaf there is.
          let c = w.captured x n (record { leaf = leaf; there = there; is = is }) in
          p.captured x n leaf there is ∙ ap (fitted_to leaf) (sym (captured_again n c.0 c.1));
      assigned = λ x leaf driver there is d. p.assigned x leaf driver there is d ∙ ap (value driver) (sym (instant_again rho));
    }

    -- what a register and a captured read have next
    pub next_register_again : (instant : Instant) (n : ℕ) (register : NetRegister) → slice_get net.registers n ≡ Some register
        → next_of_register net instant (slice_get net.registers n) ((again net s).registers n) ≡ next_of_register net instant (slice_get net.registers n) (s.registers n)
    next_register_again instant n register e = ap (next_of_register net instant (slice_get net.registers n)) (register_again n register e)

    capture_leaf : (n : ℕ) (c : Capture) → slice_get (captures net) n ≡ Some c → (leaf : ElementLeaf) × (slice_get c.memory.elements c.element ≡ Some leaf)
    capture_leaf n c e =
        let from = capture_from net n c e in
        let counted = ((w.memories c.number from.place c.memory c.port from.there from.listed).read from.read from.reads).counted in
        get_there c.memory.elements c.element (subst (λ l. c.element < l) counted (slice_get_within from.read.leaves c.element c.leaf from.leaf))

    pub next_capture_again : (instant : Instant) (n : ℕ) (c : Capture) → slice_get (captures net) n ≡ Some c
        → next_of_capture (again net s) instant (slice_get (captures net) n) ≡ next_of_capture s instant (slice_get (captures net) n)
    next_capture_again instant n c e =
        let old = (again net s).contents c.number in
        let held = s.contents c.number in
        let a = (shown instant c.port).address in
        let reads = (shown instant c.port).reads in
        let leaf = capture_leaf n c e in
        ap (next_of_capture (again net s) instant) e
        ∙ (where_same (reads && nat_lt a c.memory.depth) (taken c.after old (next_of_memory instant (Some c.memory) old) a c.element) (taken c.after held (next_of_memory instant (Some c.memory) held) a c.element) (λ yes.
        let lt = ltb-true a c.memory.depth (and_parts reads (nat_lt a c.memory.depth) yes).1 in
        let same = contents_again c.number a c.element c.memory leaf.0 (capture_from net n c e).there leaf.1 lt in
        taken_same c.after a c.element old (next_of_memory instant (Some c.memory) old) held (next_of_memory instant (Some c.memory) held) same
        (ports_same c.memory.depth (shown instant) c.memory.ports old held a c.element same))
        ∙ ap (next_of_capture s instant) (sym e))
