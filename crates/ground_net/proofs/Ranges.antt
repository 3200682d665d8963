-- Settled values have the kinds and widths of their leaves, and the next state is in its ranges.
use Rattle.std.proofs.Common.{◌≡◌, ℕ, zero, suc, ◌+◌, ◌-◌, ◌*◌, ◌^◌, ◌<◌, ◌≤◌, nat_lt, Bool, true, false, List, [], ◌∷◌, ◌++◌, map, length, slice_get, slice_index, refl, sym, ap, ◌∙◌, subst, arith, Option, Some, None, option_map, ℤ, pos, negsuc, ◌&&◌, if◌then◌else◌, ◌⊎◌, inl, inr, ⊎_elim}
use Rattle.std.specs.Prelude.{Contains, zip}
use Rattle.std.specs.List.{flat_map, range_with_len}
use Rattle.std.proofs.lemmas.Nat.{pow_pos}
use Rattle.std.proofs.lemmas.Option.{slice_get-map, slice_get_within}
use Rattle.std.proofs.lemmas.Bool.Decides.{nat_tests}
use Rattle.bit_words.specs.declared.value.Kind.{Kind}
use Rattle.bit_words.specs.declared.value.Kind.TheVariants.{Unsigned, Signed}
use Rattle.bit_words.specs.declared.value.Value.{Value}
use Rattle.bit_words.specs.Values.{integer, integer_of, InRange}
use Rattle.bit_words.proofs.Congruence.{integer_in_range}
use Rattle.prim_ops.specs.Values.{fitted, is_one}
use Rattle.prim_ops.specs.Ports.{Held, after_port, after_ports}
use Rattle.prim_ops.proofs.Fittings.{refitted, value_in_range}
use Rattle.ground_net.specs.declared.ground.Ground.{Ground}
use Rattle.ground_net.specs.declared.net.Net.{Net}
use Rattle.ground_net.specs.declared.net.Leaf.{Leaf}
use Rattle.ground_net.specs.declared.net.Role.{Role}
use Rattle.ground_net.specs.declared.net.Role.TheVariants as role
use Rattle.ground_net.specs.declared.net.NetRegister.{NetRegister}
use Rattle.ground_net.specs.declared.net.NetReset.{NetReset}
use Rattle.ground_net.specs.declared.net.NetMemory.{NetMemory}
use Rattle.ground_net.specs.declared.net.ElementLeaf.{ElementLeaf}
use Rattle.ground_net.specs.declared.net.NetPort.{NetPort}
use Rattle.ground_net.specs.declared.net.NetWrite.{NetWrite}
use Rattle.ground_net.specs.declared.net.NetRead.{NetRead}
use Rattle.ground_net.specs.Grounds.{Instant, value, mentions}
use Rattle.ground_net.specs.Reads.{IsAssigned, Reads, IsOrder, driver_of}
use Rattle.ground_net.specs.Cones.{numbered}
use Rattle.ground_net.specs.Shapes.{Shape, shape_of_value, HasShapes, shape}
use Rattle.ground_net.specs.Cycles.{NetState, Inputs, Valuation, Settled, instant_of, fitted_to, fitted_to_element, element_leaf, next, next_of_register, after_reset, driven_or, next_of_memory, next_of_capture, shown, integer_at, written_leaf, Capture, captured_by, captures, taken}
use Rattle.ground_net.specs.Nets.{IsNet, IsPort, AreElements, table_of, leaf_shape, element_shape, shape_or_none, register_shapes, element_shapes, captured_shapes, IsIn, IsWithin}
use Rattle.ground_net.proofs.Settling.{le_split, get_there, reads_mentions, driver_agrees}
use Rattle.ground_net.proofs.Shaping.{fitted_shape, shapes_hold}
use Rattle.ground_net.proofs.Mentioning.{mentions_leaves}

some_same : {A : Type 0} {x y : A} → Some x ≡ Some y → x ≡ y
some_same e = cc

none_some : {A : Type 0} {x : A} → None ≡ Some x → ⊥
none_some e = cc

-- a value of a shape is the one that its integer is fitted to
pub refit_shape : (v : Value) (t : Shape) → shape_of_value v ≡ t → fitted t.kind t.width (integer_of v) ≡ v
refit_shape v t e = subst (λ t. fitted t.kind t.width (integer_of v) ≡ v) e (refitted v)

-- and its integer is in the shape's range
pub in_range : (v : Value) (t : Shape) → shape_of_value v ≡ t → IsIn t (integer_of v)
in_range v t e = subst (λ t. IsIn t (integer_of v)) e (value_in_range v)

zero_is : (kind : Kind) (width : ℕ) → integer kind width 0 ≡ pos 0
zero_is Unsigned width = refl
zero_is Signed width = let h = pow_pos width in let e : nat_lt (2 * 0) (2 ^ width) ≡ true = grind (arith, nat_tests) in ap (λ b. if b then pos 0 else negsuc (2 ^ width - 1 - 0)) e

pub zero_in : (t : Shape) → IsIn t (pos 0)
zero_in t = subst (InRange t.kind t.width) (zero_is t.kind t.width) (integer_in_range t.kind t.width 0 (pow_pos t.width))

element_fine : (o : Option ElementLeaf) (t : Shape) (n : ℤ) → option_map element_shape o ≡ Some t → shape_of_value (fitted_to_element o n) ≡ t
element_fine (Some leaf) t n e = let narrow : leaf.width ≤ 128 = leaf.narrow in fitted_shape leaf.kind leaf.width n narrow ∙ some_same e
element_fine None t n e = absurd (none_some e)

leaf_fine : (leaf : Leaf) (n : ℤ) → shape_of_value (fitted_to leaf n) ≡ leaf_shape leaf
leaf_fine leaf n = let narrow : leaf.width ≤ 128 = leaf.narrow in fitted_shape leaf.kind leaf.width n narrow

some_of : {A B : Type 0} (f : A → B) (o : Option A) (y : B) → option_map f o ≡ Some y → (x : A) × (o ≡ Some x) × (f x ≡ y)
some_of f (Some x) y e = (x, refl, some_same e)
some_of f None y e = absurd (none_some e)

-- an item of a list of answers
mapped : {A B : Type 0} (f : A → B) (xs : List A) (n : ℕ) (y : B) → slice_get (map f xs) n ≡ Some y → (x : A) × (slice_get xs n ≡ Some x) × (f x ≡ y)
mapped f xs n y e = some_of f (slice_get xs n) y (sym (slice_get-map f xs n) ∙ e)

module _ (net : Net) (w : IsNet net) (order_of : List ℕ) (order : IsOrder net order_of) (s : NetState) (given : Inputs) (rho : Valuation) (p : Settled net s given rho) where
  abbrev Fine : ℕ → Leaf → Type 0
  Fine x leaf = shape_of_value (rho x) ≡ leaf_shape leaf

  -- values that have the shapes of their leaves in any case
  abbrev reshape : Option Leaf → Value → Value
  reshape (Some leaf) v = fitted_to leaf (integer_of v)
  reshape None v = v

  abbrev reshaped : Valuation
  reshaped x = reshape (slice_get net.leaves x) (rho x)

  reshaped_same : (x : ℕ) (leaf : Leaf) → slice_get net.leaves x ≡ Some leaf → Fine x leaf → reshaped x ≡ rho x
  reshaped_same x leaf there fine = ap (λ o. reshape o (rho x)) there ∙ refit_shape (rho x) (leaf_shape leaf) fine

  reshape_fine : (o : Option Leaf) (v : Value) (t : Shape) → option_map leaf_shape o ≡ Some t → shape_of_value (reshape o v) ≡ t
  reshape_fine (Some leaf) v t e = leaf_fine leaf (integer_of v) ∙ some_same e
  reshape_fine None v t e = absurd (none_some e)

  reshaped_has : HasShapes (table_of net) (instant_of net s reshaped)
  reshaped_has = record {
    leaf = λ x t e. reshape_fine (slice_get net.leaves x) (rho x) t e;
    load = λ m k t address e. element_fine (element_leaf net m k) t _ e;
  }

  by_role : (x : ℕ) (leaf : Leaf) (r : Role) → slice_get net.leaves x ≡ Some leaf → leaf.role ≡ r → (IsAssigned net.leaves x → Fine x leaf) → Fine x leaf
  by_role x leaf (role.Input n) there is h = ap shape_of_value (p.inputs x n leaf there is) ∙ leaf_fine leaf (given n)
  by_role x leaf role.Clock there is h = ap shape_of_value (p.clocks x leaf there is) ∙ leaf_fine leaf (pos 0)
  by_role x leaf role.Assigned there is h = h (record { leaf = leaf; there = there; is = is })
  by_role x leaf (role.Register n) there is h = ap shape_of_value (p.registers x n leaf there is) ∙ leaf_fine leaf (s.registers n)
  by_role x leaf (role.Captured n) there is h = ap shape_of_value (p.captured x n leaf there is) ∙ leaf_fine leaf (s.captured n)

  module _ (k : ℕ) (below : k < length order_of) (before : (j : ℕ) → j < k → (leaf : Leaf) → slice_get net.leaves (slice_index order_of j) ≡ Some leaf → Fine (slice_index order_of j) leaf) where
    abbrev at_k : ℕ
    at_k = slice_index order_of k

    read_same : (a : IsAssigned net.leaves at_k) (g : Ground) → driver_of net at_k ≡ Some g → (y : ℕ) → Contains (mentions g) y → rho y ≡ reshaped y
    read_same a g e y c =
        let r : Reads net at_k y = subst (λ ys. Contains ys y) (sym (reads_mentions net at_k a.leaf g a.there a.is e)) c in
        let there = get_there net.leaves y (mentions_leaves net w at_k y r) in
        sym (reshaped_same y there.0 there.1 (by_role y there.0 there.0.role there.1 refl (λ b.
        let at = order.after k y below r b in
        subst (λ z. Fine z there.0) at.2 (before at.0 at.1 there.0 (ap (slice_get net.leaves) at.2 ∙ there.1)))))

    next_fine : (leaf : Leaf) → slice_get net.leaves at_k ≡ Some leaf → Fine at_k leaf
    next_fine leaf there =
        let a = order.only k below in
        let g = w.assigned at_k a in
        let there_too = a.there in
        let same : a.leaf ≡ leaf = cc in
        ap shape_of_value (p.assigned at_k a.leaf g.0 a.there a.is g.1 ∙ driver_agrees net s rho reshaped g.0 (read_same a g.0 g.1))
        ∙ (shapes_hold (table_of net) (instant_of net s reshaped) reshaped_has g.0 (leaf_shape a.leaf) (w.shapes at_k a.leaf g.0 a.there g.1) ∙ ap leaf_shape same)

  first_fine : (k : ℕ) → k ≤ length order_of → (j : ℕ) → j < k → (leaf : Leaf) → slice_get net.leaves (slice_index order_of j) ≡ Some leaf → Fine (slice_index order_of j) leaf
  first_fine zero most j less = absurd (omega (arith, less))
  first_fine (suc k) most j less =
      let below : k < length order_of = omega (arith, most) in
      let fewer : k ≤ length order_of = omega (arith, most) in
      ⊎_elim (λ old. first_fine k fewer j old)
      (λ e. subst (λ i. (leaf : Leaf) → slice_get net.leaves (slice_index order_of i) ≡ Some leaf → Fine (slice_index order_of i) leaf) (sym e) (next_fine k below (λ i old. first_fine k fewer i old)))
      (le_split (omega (arith, less)))

  all_fine : (x : ℕ) (leaf : Leaf) → slice_get net.leaves x ≡ Some leaf → Fine x leaf
  all_fine x leaf there = by_role x leaf leaf.role there refl (λ a.
      let at = order.all x a in
      subst (λ z. Fine z leaf) at.2 (first_fine (length order_of) (omega arith) at.0 at.1 leaf (ap (slice_get net.leaves) at.2 ∙ there)))

  -- settled values have the kinds and widths of their leaves
  pub settled_has : HasShapes (table_of net) (instant_of net s rho)
  settled_has = record {
    leaf = λ x t e. let l = some_of leaf_shape (slice_get net.leaves x) t e in all_fine x l.0 l.1 ∙ l.2;
    load = λ m k t address e. element_fine (element_leaf net m k) t _ e;
  }

-- Captured reads

from_append : {A : Type 0} (xs ys : List A) (n : ℕ) (y : A) → slice_get (xs ++ ys) n ≡ Some y → ((j : ℕ) × (slice_get xs j ≡ Some y)) ⊎ ((j : ℕ) × (slice_get ys j ≡ Some y))
from_append [] ys n y e = inr (n, e)
from_append (x ∷ xs) ys zero y e = inl (0, e)
from_append (x ∷ xs) ys (suc n) y e = ⊎_elim (λ h. inl (suc h.0, h.1)) (λ h. inr h) (from_append xs ys n y e)

from_flat_map : {A B : Type 0} (f : A → List B) (xs : List A) (n : ℕ) (y : B) → slice_get (flat_map f xs) n ≡ Some y → (k : ℕ) × (x : A) × (slice_get xs k ≡ Some x) × ((j : ℕ) × (slice_get (f x) j ≡ Some y))
from_flat_map f [] n y e = absurd (none_some e)
from_flat_map f (x ∷ xs) n y e = ⊎_elim
    (λ h. (0, x, refl, h))
    (λ h. let rest = from_flat_map f xs h.0 y h.1 in (suc rest.0, rest.1, rest.2, rest.3))
    (from_append (f x) (flat_map f xs) n y e)

from_numbered : {A : Type 0} (a : ℕ) (xs : List A) (k : ℕ) (both : ℕ × A) → slice_get (zip (range_with_len a (length xs)) xs) k ≡ Some both → (both.0 ≡ a + k) × (slice_get xs k ≡ Some both.1)
from_numbered a [] k both e = absurd (none_some e)
from_numbered a (x ∷ xs) zero both e = let z : a ≡ a + 0 = omega arith in (ap (λ b. b.0) (sym (some_same e)) ∙ z, ap (λ b. Some b.1) (some_same e))
from_numbered a (x ∷ xs) (suc k) both e = let z : a + 1 + k ≡ a + suc k = omega arith in let rest = from_numbered (a + 1) xs k both e in (rest.0 ∙ z, rest.1)

-- where a captured read comes from
pub record ComesFrom (net : Net) (c : Capture) : Type 0 where
  pub there : slice_get net.memories c.number ≡ Some c.memory
  pub place : ℕ
  pub listed : slice_get c.memory.ports place ≡ Some c.port
  pub read : NetRead
  pub reads : c.port.read ≡ Some read
  pub leaf : slice_get read.leaves c.element ≡ Some c.leaf
  pub late : read.captured ≡ true
  pub after : c.after ≡ read.after

module _ (net : Net) (m : ℕ) (memory : NetMemory) (there : slice_get net.memories m ≡ Some memory) (q : ℕ) (port : NetPort) (listed : slice_get memory.ports q ≡ Some port) where
  abbrev make : NetRead → ℕ × ℕ → Capture
  make read both = record { number = m; memory = memory; port = port; after = read.after; element = both.0; leaf = both.1 }

  from_read : (o : Option NetRead) → port.read ≡ o → (j : ℕ) (c : Capture) → slice_get (captured_by m memory port o) j ≡ Some c → ComesFrom net c
  from_read None e j c h = absurd (none_some h)
  from_read (Some read) e j c h = by_test read.captured refl h
    where
      by_test : (b : Bool) → read.captured ≡ b → slice_get (if b then map (make read) (numbered read.leaves) else []) j ≡ Some c → ComesFrom net c
      by_test false late h = absurd (none_some h)
      by_test true late h =
          let x = mapped (make read) (numbered read.leaves) j c h in
          let at = from_numbered 0 read.leaves j x.0 x.1 in
          let z : 0 + j ≡ j = omega arith in
          subst (ComesFrom net) x.2 (record { there = there; place = q; listed = listed; read = read; reads = e; leaf = ap (slice_get read.leaves) (at.0 ∙ z) ∙ at.1; late = late; after = refl })

pub capture_from : (net : Net) (n : ℕ) (c : Capture) → slice_get (captures net) n ≡ Some c → ComesFrom net c
capture_from net n c e =
    let m = from_flat_map (λ both. flat_map (λ port. captured_by both.0 both.1 port port.read) both.1.ports) (numbered net.memories) n c e in
    let at = from_numbered 0 net.memories m.0 m.1 m.2 in
    let z : 0 + m.0 ≡ m.0 = omega arith in
    let port = from_flat_map (λ port. captured_by m.1.0 m.1.1 port port.read) m.1.1.ports m.3.0 c m.3.1 in
    from_read net m.1.0 m.1.1 (ap (slice_get net.memories) (at.0 ∙ z) ∙ at.1) port.0 port.1 port.2 port.1.read refl port.3.0 c port.3.1

-- The next state

module _ (net : Net) (w : IsNet net) (s : NetState) (instant : Instant) (h : HasShapes (table_of net) instant) (inside : IsWithin net s) where
  -- registers
  module _ (n : ℕ) (register : NetRegister) (there : slice_get net.registers n ≡ Some register) (leaf : Leaf) (at : slice_get net.leaves register.leaf ≡ Some leaf) (held : ℤ)
      (kept : IsIn (leaf_shape leaf) held) where
    driven_in : (d : Option Ground) → driver_of net register.leaf ≡ d → IsIn (leaf_shape leaf) (driven_or held instant d)
    driven_in (Some g) e = in_range (value g instant) (leaf_shape leaf) (shapes_hold (table_of net) instant h g (leaf_shape leaf) (w.shapes register.leaf leaf g at e))
    driven_in None e = kept

    reset_in : (o : Option NetReset) → register.reset ≡ o → (driven : ℤ) → IsIn (leaf_shape leaf) driven → IsIn (leaf_shape leaf) (after_reset driven instant o)
    reset_in None e driven d = d
    reset_in (Some r) e driven d =
        let init : shape r.init (table_of net) ≡ Some (leaf_shape leaf) = (w.resets n register r there e).1 ∙ ap (option_map leaf_shape) at in
        by_test (is_one (value r.reset instant)) (in_range (value r.init instant) (leaf_shape leaf) (shapes_hold (table_of net) instant h r.init (leaf_shape leaf) init))
      where
        by_test : (b : Bool) → IsIn (leaf_shape leaf) (integer_of (value r.init instant)) → IsIn (leaf_shape leaf) (if b then integer_of (value r.init instant) else driven)
        by_test true i = i
        by_test false i = d

  registers_in : (n : ℕ) (t : Shape) → slice_get (register_shapes net) n ≡ Some t → IsIn t (next_of_register net instant (slice_get net.registers n) (s.registers n))
  registers_in n t e =
      let r = mapped (λ register. shape_or_none (slice_get net.leaves register.leaf)) net.registers n t e in
      let at = w.register_leaves n r.0 r.1 in
      let same : leaf_shape at.leaf ≡ t = ap shape_or_none (sym at.there) ∙ r.2 in
      subst (λ o. IsIn t (next_of_register net instant o (s.registers n))) (sym r.1)
      (subst (λ u. IsIn u (next_of_register net instant (Some r.0) (s.registers n))) same
      (reset_in n r.0 r.1 at.leaf at.there (s.registers n) (subst (λ u. IsIn u (s.registers n)) (sym same) (inside.registers n t e)) r.0.reset refl _
      (driven_in n r.0 r.1 at.leaf at.there (s.registers n) (subst (λ u. IsIn u (s.registers n)) (sym same) (inside.registers n t e)) (driver_of net r.0.leaf) refl)))

  -- memories
  module _ (memory : NetMemory) (k : ℕ) (element : ElementLeaf) (at : slice_get memory.elements k ≡ Some element) where
    abbrev u : Shape
    u = element_shape element

    leaf_in : (leaves : List ℕ) → AreElements net memory leaves → (o : Option ℕ) → slice_get leaves k ≡ o → IsIn u (integer_at instant o)
    leaf_in leaves a (Some x) e = in_range (instant.leaf x) u (h.leaf x u (a.shapes k x element e at))
    leaf_in leaves a None e = zero_in u

    written_in : (port : NetPort) → IsPort net memory port → (o : Option NetWrite) → port.write ≡ o → IsIn u (integer_at instant (written_leaf o k))
    written_in port fine (Some write) e = leaf_in write.leaves (fine.written write e) (slice_get write.leaves k) refl
    written_in port fine None e = zero_in u

    port_in : (depth : ℕ) (held : Held ℕ) (port : NetPort) → IsPort net memory port → ((i : ℕ) → IsIn u (held i k)) → (i : ℕ) → IsIn u (after_port depth held (shown instant port) i k)
    port_in depth held port fine old i = by_test _ (written_in port fine port.write refl) (old i)
      where
        by_test : (b : Bool) → IsIn u (integer_at instant (written_leaf port.write k)) → IsIn u (held i k) → IsIn u (if b then integer_at instant (written_leaf port.write k) else held i k)
        by_test true x y = x
        by_test false x y = y

    ports_in : (depth : ℕ) (ports : List NetPort) → ((q : ℕ) (port : NetPort) → slice_get ports q ≡ Some port → IsPort net memory port) → (held : Held ℕ) → ((i : ℕ) → IsIn u (held i k))
        → (i : ℕ) → IsIn u (after_ports depth (shown instant) ports held i k)
    ports_in depth [] fine held old i = old i
    ports_in depth (port ∷ ports) fine held old i =
        ports_in depth ports (λ q p e. fine (suc q) p e) (after_port depth held (shown instant port)) (port_in depth held port (fine 0 port refl) old) i

  contents_in : (m i k : ℕ) (memory : NetMemory) (t : Shape) → slice_get net.memories m ≡ Some memory → slice_get (element_shapes memory) k ≡ Some t
      → IsIn t (next_of_memory instant (slice_get net.memories m) (s.contents m) i k)
  contents_in m i k memory t e f =
      let el = mapped element_shape memory.elements k t f in
      subst (λ o. IsIn t (next_of_memory instant o (s.contents m) i k)) (sym e)
      (subst (λ u. IsIn u (after_ports memory.depth (shown instant) memory.ports (s.contents m) i k)) el.2
      (ports_in memory k el.0 el.1 memory.depth memory.ports (λ q port l. w.memories m q memory port e l) (s.contents m)
      (λ j. subst (λ u. IsIn u (s.contents m j k)) (sym el.2) (inside.contents m j k memory t e f)) i))

  -- captured reads
  abbrev old_or_new : Capture → Bool → Held ℕ
  old_or_new c after = taken after (s.contents c.number) (next_of_memory instant (Some c.memory) (s.contents c.number))

  by_time : (t : Shape) (c : Capture) (after : Bool) → ((i : ℕ) → IsIn t (s.contents c.number i c.element)) → ((i : ℕ) → IsIn t (next_of_memory instant (Some c.memory) (s.contents c.number) i c.element))
      → (i : ℕ) → IsIn t (old_or_new c after i c.element)
  by_time t c true old new i = new i
  by_time t c false old new i = old i

  by_read : (t : Shape) (c : Capture) (b : Bool) → IsIn t (old_or_new c c.after (shown instant c.port).address c.element)
      → IsIn t (if b then old_or_new c c.after (shown instant c.port).address c.element else pos 0)
  by_read t c true x = x
  by_read t c false x = zero_in t

  captured_in : (n : ℕ) (t : Shape) → slice_get (captured_shapes net) n ≡ Some t → IsIn t (next_of_capture s instant (slice_get (captures net) n))
  captured_in n t e =
      let c = mapped (λ c. shape_or_none (slice_get net.leaves c.leaf)) (captures net) n t e in
      let from = capture_from net n c.0 c.1 in
      let fine = (w.memories c.0.number from.place c.0.memory c.0.port from.there from.listed).read from.read from.reads in
      let counted = fine.counted in
      let below : c.0.element < length c.0.memory.elements = subst (λ l. c.0.element < l) counted (slice_get_within from.read.leaves c.0.element c.0.leaf from.leaf) in
      let el = get_there c.0.memory.elements c.0.element below in
      let at = some_of leaf_shape (slice_get net.leaves c.0.leaf) (element_shape el.0) (fine.shapes c.0.element c.0.leaf el.0 from.leaf el.1) in
      let same : element_shape el.0 ≡ t = sym at.2 ∙ (ap shape_or_none (sym at.1) ∙ c.2) in
      let f : slice_get (element_shapes c.0.memory) c.0.element ≡ Some t = slice_get-map element_shape c.0.memory.elements c.0.element ∙ (ap (option_map element_shape) el.1 ∙ ap Some same) in
      subst (λ o. IsIn t (next_of_capture s instant o)) (sym c.1)
      (by_read t c.0 ((shown instant c.0.port).reads && nat_lt (shown instant c.0.port).address c.0.memory.depth)
      (by_time t c.0 c.0.after (λ i. inside.contents c.0.number i c.0.element c.0.memory t from.there f)
      (λ i. subst (λ o. IsIn t (next_of_memory instant o (s.contents c.0.number) i c.0.element)) from.there (contents_in c.0.number i c.0.element c.0.memory t from.there f))
      (shown instant c.0.port).address))

  pub next_within : IsWithin net (next net s instant)
  next_within = record { registers = registers_in; contents = contents_in; captured = captured_in }
