-- The leaves of main's ports stand first, and memories stand in flat order.
use Rattle.std.proofs.Common.{◌≡◌, ℕ, zero, suc, ◌+◌, ◌<◌, ◌≤◌, ◌&&◌, true, false, List, [], ◌∷◌, ◌++◌, map, length, Some, refl, sym, ap, ap₂, ◌∙◌, subst, arith, true≢false, ⊎_elim}
use Rattle.std.specs.Prelude.{Contains}
use Rattle.std.specs.List.{slice_get, flat_map}
use Rattle.std.proofs.lemmas.List.Concat.{flat_map-cons}
use Rattle.fir_types.specs.Leaves.{leaves}
use Rattle.fir_meaning.specs.Components.{Design, TypedModule, Component, is_clock, flow_of}
use Rattle.fir_meaning.specs.States.{is_port, is_register, is_source}
use Rattle.fir_meaning.proofs.Settling.{port_target}
use Rattle.ground_net.specs.declared.circuit.GroundLeaf.{GroundLeaf}
use Rattle.ground_net.specs.declared.circuit.GroundMemory.{GroundMemory}
use Rattle.ground_net.specs.declared.circuit.GroundRole.{GroundRole}
use Rattle.ground_net.specs.declared.circuit.GroundRole.TheVariants.{Input, Clock, Register, Plain}
use Rattle.net_of_circuit.specs.FlatOrder.{Placed, InFlatOrder, no_more, one_more, an_instance, Standing, all_leaves}
use Rattle.net_of_circuit.specs.NetOf.{is_of_port}
use Rattle.net_of_circuit.specs.Numbers.{leaves_of, role_of}
use Rattle.flatten_instances.specs.FlatOrder.{Spot, Item, A_leaf, A_memory, leaf_spots, memories_from}
use Rattle.flatten_instances.specs.Flat.{is_input, role_at}
use Rattle.net_laws.specs.Typed.{HasPortsFirst}
use Rattle.net_laws.proofs.Rows.{begins, all_of_append, leaves_of as entries_of}
use Rattle.net_laws.proofs.Lists.{below_length, in_append, later, from_map_at}
use Rattle.net_laws.proofs.Accepted.{ports_first}
use Rattle.lowering_laws.proofs.Heights.{some_same, none_some}
use Rattle.lowering_laws.proofs.Parts.{item, leaves_counted_of}
use Rattle.lowering_laws.proofs.Matching.{leads_at, leads_known, map_counted, length_append}
use Rattle.lowering_laws.proofs.Seeing.{ports_sum}
use Rattle.lowering_laws.proofs.Whole.{Setting, design, placed, leaves_counted, leaf_at}
use Rattle.lowering_laws.proofs.Drivers.{all}
use Rattle.assembly_laws.proofs.Origins.{input_parts, both_true, path_main}
use Rattle.assembly_laws.proofs.Shaped.{entry_at}

-- the place of a component of main
abbrev of_main : TypedModule → Component → Placed
of_main m c = record { path = []; m = m; c = c }

-- The ports of main stand first in flat order.
first_ports : (design : Design) (m : TypedModule) (ports others : List Component) → ((c : Component) → Contains ports c → is_port c.declaration.sort ≡ true) → {placed : List Placed}
    → InFlatOrder design [] m (ports ++ others) placed → (rest : List Placed) × (placed ≡ map (of_main m) ports ++ rest) × InFlatOrder design [] m others rest
first_ports design m [] others all {placed} order = (placed, refl, order)
first_ports design m (c ∷ ports) others all (one_more e f) =
    let r = first_ports design m ports others (λ d h. all d (later c ports d h)) f in
    (r.0, ap (λ l. of_main m c ∷ l) r.1, r.2)
first_ports design m (c ∷ ports) others all (an_instance target n e found own rest) =
    none_some (sym (port_target c.declaration.sort (all c (0, omega arith, refl))) ∙ e)

-- What stands behind them is of no port of main.
abbrev NotOfMain : Placed → Type 0
NotOfMain p = is_of_port p.path p.c ≡ false

not_of_main : (design : Design) (m : TypedModule) (others : List Component) → ((c : Component) → Contains others c → is_port c.declaration.sort ≡ false) → {placed : List Placed} → InFlatOrder design [] m others placed
    → (k : ℕ) (p : Placed) → slice_get placed k ≡ Some p → NotOfMain p
not_of_main design m others none no_more k p e = none_some e
not_of_main design m (c ∷ others) none (one_more e f) zero p at =
    ap (λ (q : Placed). is_of_port q.path q.c) (sym (some_same at)) ∙ none c (0, omega arith, refl)
not_of_main design m (c ∷ others) none (one_more e f) (suc k) p at = not_of_main design m others (λ d h. none d (later c others d h)) f k p at
not_of_main design m (c ∷ others) none (an_instance {own = own} {rest = rest} target n e found inside f) k p at = ⊎_elim
    (λ here.
    let b = begins design (c.declaration.name ∷ []) n n.components inside k p here in
    ap (λ path. is_of_port path p.c) b.1)
    (λ there. not_of_main design m others (λ d h. none d (later c others d h)) f there.0 p there.2)
    (in_append own rest k p at)

-- an entry of the leaves of components is a leaf of one of them
pub of_component : (ps : List Placed) (k : ℕ) (y : Standing) → slice_get (all_leaves ps) k ≡ Some y → (j : ℕ) × (slice_get ps j ≡ Some y.0)
of_component [] k y e = none_some e
of_component (p ∷ ps) k y e = ⊎_elim
    (λ here. let q = from_map_at (λ leaf. (p, leaf)) (leaves p.c.typ) k y here in (0, ap (λ (w : Standing). Some w.0) q.2))
    (λ there. let r = of_component ps there.0 y there.2 in (suc r.0, r.1))
    (in_append (entries_of p) (all_leaves ps) k y (subst (λ l. slice_get l k ≡ Some y) (flat_map-cons entries_of p ps) e))

of_ports : (m : TypedModule) (ports : List Component) → length (all_leaves (map (of_main m) ports)) ≡ length (flat_map leaves_of ports)
of_ports m [] = refl
of_ports m (c ∷ ports) =
    ap length (flat_map-cons entries_of (of_main m c) (map (of_main m) ports)) ∙ (length_append (entries_of (of_main m c)) (all_leaves (map (of_main m) ports))
    ∙ (ap₂ (λ a b. a + b) (map_counted (λ leaf. (of_main m c, leaf)) (leaves c.typ) ∙ sym (leaves_counted_of c)) (of_ports m ports)
    ∙ sym (ap length (flat_map-cons leaves_of c ports) ∙ length_append (leaves_of c) (flat_map leaves_of ports))))

input_at : (path : List ℕ) (r : GroundRole) → role_at path r ≡ Input → (path ≡ []) × (is_input r ≡ true)
input_at [] Input e = (refl, refl)
input_at [] Clock e = absurd cc
input_at [] Register e = absurd cc
input_at [] Plain e = absurd cc
input_at (i ∷ path) Input e = absurd cc
input_at (i ∷ path) Clock e = absurd cc
input_at (i ∷ path) Register e = absurd cc
input_at (i ∷ path) Plain e = absurd cc

-- Memories among items

memories_above : (b : ℕ) (items : List Item) (n : ℕ) (x : ℕ × Spot) → slice_get (memories_from b items) n ≡ Some x → (b ≤ x.0) × (x.0 ≤ b + length (leaf_spots items))
memories_above b [] n x e = none_some e
memories_above b (A_leaf s ∷ items) n x e = let r = memories_above (b + 1) items n x e in (omega arith, omega arith)
memories_above b (A_memory s ∷ items) zero x e = let same : b ≡ x.0 = ap (λ y. y.0) (some_same e) in (omega arith, omega arith)
memories_above b (A_memory s ∷ items) (suc n) x e = memories_above b items n x e

memories_rise : (b : ℕ) (items : List Item) (m n : ℕ) (x y : ℕ × Spot) → m < n → slice_get (memories_from b items) m ≡ Some x → slice_get (memories_from b items) n ≡ Some y → x.0 ≤ y.0
memories_rise b [] m n x y h e f = none_some e
memories_rise b (A_leaf s ∷ items) m n x y h e f = memories_rise (b + 1) items m n x y h e f
memories_rise b (A_memory s ∷ items) m zero x y h e f = absurd (omega arith)
memories_rise b (A_memory s ∷ items) zero (suc n) x y h e f = let same : b ≡ x.0 = ap (λ y. y.0) (some_same e) in let r = memories_above b items n y f in omega arith
memories_rise b (A_memory s ∷ items) (suc m) (suc n) x y h e f = memories_rise b items m n x y (omega arith) e f

module _ (z : Setting) where
  main_first : HasPortsFirst z.main
  main_first = ports_first z.fitted z.well [] z.main (leads_at z.fitted z.well z.lowered z.is z.driven z.expanded z.leads)

  first : (rest : List Placed) × (placed z ≡ map (of_main z.main) main_first.ports ++ rest) × InFlatOrder (design z) [] z.main main_first.others rest
  first = first_ports (design z) z.main main_first.ports main_first.others main_first.all (subst (λ cs. InFlatOrder (design z) [] z.main cs (placed z)) main_first.are z.matched.order)

  ports_are : z.flat.ports ≡ length (all_leaves (map (of_main z.main) main_first.ports))
  ports_are =
      let known = leads_known z.fitted z.well z.lowered z.is z.driven z.expanded z.leads in
      z.is_flat.is.ports ∙ (known.driven_is.ports ∙ (known.ground_is.ports ∙ (ports_sum z.main main_first ∙ sym (of_ports z.main main_first.ports))))

  leaves_are : all z ≡ all_leaves (map (of_main z.main) main_first.ports) ++ all_leaves first.0
  leaves_are = ap all_leaves first.1 ∙ all_of_append (map (of_main z.main) main_first.ports) first.0

  pub ports_within : z.flat.ports ≤ length z.flat.leaves
  ports_within =
      let n = ports_are in
      let k : length z.flat.leaves ≡ length (all_leaves (map (of_main z.main) main_first.ports)) + length (all_leaves first.0) =
      leaves_counted z ∙ (ap length leaves_are ∙ length_append (all_leaves (map (of_main z.main) main_first.ports)) (all_leaves first.0)) in
      omega arith

  -- Inputs are leaves of main's ports.
  pub inputs_first : (x : ℕ) (leaf : GroundLeaf) → slice_get z.flat.leaves x ≡ Some leaf → leaf.role ≡ Input → x < z.flat.ports
  inputs_first x leaf e role =
      let y = entry_at z x leaf e in
      let at = leaf_at z x y.0 y.1 in
      let same : at.leaf ≡ leaf = some_same (sym at.leaf_there ∙ e) in
      let parts = input_at at.s.path (role_of (y.0.0.c, y.0.1)) (sym at.role ∙ (ap (λ (l : GroundLeaf). l.role) same ∙ role)) in
      let path : y.0.0.path ≡ [] = path_main z at.s.path y.0.0.path at.s.within y.0.0.m at.at.d at.at.leads parts.0 in
      let port = input_parts (is_clock y.0.1) (is_register y.0.0.c.declaration.sort) (is_port y.0.0.c.declaration.sort && is_source (flow_of y.0.0.c.declaration.sort y.0.1.flip)) parts.1 in
      let both = both_true (is_port y.0.0.c.declaration.sort) (is_source (flow_of y.0.0.c.declaration.sort y.0.1.flip)) port.2 in
      let of_port : is_of_port y.0.0.path y.0.0.c ≡ true = ap (λ p. is_of_port p y.0.0.c) path ∙ both.0 in
      ⊎_elim
      (λ here. subst (λ n. x < n) (sym ports_are) (below_length (all_leaves (map (of_main z.main) main_first.ports)) x y.0 here))
      (λ there.
      let c = of_component first.0 there.0 y.0 there.2 in
      absurd (true≢false (sym of_port ∙ not_of_main (design z) z.main main_first.others main_first.none first.2 c.0 y.0.0 c.1)))
      (in_append (all_leaves (map (of_main z.main) main_first.ports)) (all_leaves first.0) x y.0 (subst (λ l. slice_get l x ≡ Some y.0) leaves_are y.1))

  -- where a memory stands
  pub memory_items : (m : ℕ) (memory : GroundMemory) → slice_get z.flat.memories m ≡ Some memory → (s : ℕ × Spot) × (slice_get (memories_from 0 z.is_flat.items) m ≡ Some s) × (memory.first ≡ s.0)
  memory_items m memory e =
      let M = z.is_flat.is.memories in
      let s = item (memories_from 0 z.is_flat.items) m (subst (λ k. m < k) M.counted (below_length z.flat.memories m memory e)) in
      (s.0, s.1, (M.each m s.0 memory s.1 e).first)

  pub memories_within : (m : ℕ) (memory : GroundMemory) → slice_get z.flat.memories m ≡ Some memory → memory.first ≤ length z.flat.leaves
  memories_within m memory e =
      let s = memory_items m memory e in
      let r = memories_above 0 z.is_flat.items m s.0 s.1 in
      let n : length z.flat.leaves ≡ length (leaf_spots z.is_flat.items) = z.is_flat.is.leaves.counted in
      let f = s.2 in
      omega arith

  pub memories_rising : (m n : ℕ) (memory later : GroundMemory) → m < n → slice_get z.flat.memories m ≡ Some memory → slice_get z.flat.memories n ≡ Some later → memory.first ≤ later.first
  memories_rising m n memory later h e f =
      let s = memory_items m memory e in
      let t = memory_items n later f in
      let r = memories_rise 0 z.is_flat.items m n s.0 t.0 h s.1 t.1 in
      let a = s.2 in
      let b = t.2 in
      omega arith
