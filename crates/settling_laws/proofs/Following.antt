-- What a leaf has after a sweep depends only on what it reads.
use Rattle.std.proofs.Common.{◌≡◌, ℕ, zero, suc, ◌==◌, true, false, not, List, [], ◌∷◌, ◌++◌, slice_get, Option, Some, None, pos, refl, sym, ap, ◌∙◌, subst, if◌then◌else◌, ⊎_elim}
use Rattle.std.specs.Prelude.{Contains}
use Rattle.bit_words.specs.declared.value.Value.{Value}
use Rattle.fir_types.specs.declared.leaf.TypeLeaf.{TypeLeaf}
use Rattle.fir_types.specs.declared.leaf.PathStep.{PathStep}
use Rattle.fir_types.specs.declared.leaf.PathStep.TheVariants as step
use Rattle.fir_types.specs.declared.memory.Memory.{Memory}
use Rattle.fir_types.specs.Leaves.{leaves}
use Rattle.fir_types.specs.Memories.{read_latency_of}
use Rattle.fir_tree.specs.declared.expr.Expr.{Expr}
use Rattle.fir_meaning.specs.Components.{Design, TypedModule, Component, FlatLeaf, Leaf, Sort, An_input, An_output, A_wire, A_register, A_reset_register, A_memory, An_instance, A_node, flow_of, is_clock, flat, type_in}
use Rattle.fir_meaning.specs.Values.{Integers, Valuation, scene_of, value}
use Rattle.fir_meaning.specs.MemoryPorts.{memory_ports, port_named, read_by}
use Rattle.fir_meaning.specs.States.{State, Inputs, Stands, leaf_of, is_port, is_source, is_register, is_driven, or_else, IsLeafOf}
use Rattle.fir_meaning.specs.Mentions.{joined, mentions}
use Rattle.fir_meaning.specs.Loops.{live, ReadsLeaf, by_connect, by_node, by_port}
use Rattle.fir_meaning.proofs.Tracking.{Tracks, tracks_none, tracks_next, tracked, each_same, none_some}
use Rattle.fir_meaning.proofs.Covering.{true_or_false}
use Rattle.fir_meaning.proofs.Blocks.{drives_same}
use Rattle.fir_meaning.proofs.Settling.{at, local, local_at, agree_at, get_there, read_same, memory_way, instance_flip, one_leaf}
use Rattle.fir_meaning.proofs.Ports.{last_of_path, found, same_number, port_outside}
use Rattle.settling_laws.specs.Sweeps.{left_in_block, from_outside, by_latency, of_port, of_read, of_sort, asked, sweep, integer_beside}
use Rattle.settling_laws.proofs.Places.{IsOnce, beside_at, integer_or_zero}
use Rattle.settling_laws.proofs.Sound.{IsSound, driven_by, port_register, once_there, outside_left, Owned, owner, at_own, asked_clock, asked_sort, from_source, from_block}

none_there : {f g : Integers} {ms : List (List Leaf)} {vs ws : List Value} → Tracks f g ms vs ws → (k : ℕ) → slice_get ms k ≡ None → slice_get vs k ≡ slice_get ws k
none_there tracks_none zero e = refl
none_there tracks_none (suc k) e = refl
none_there (tracks_next h t) zero e = absurd (none_some (sym e))
none_there (tracks_next h t) (suc k) e = none_there t k e

module _ (design : Design) (sound : IsSound design) (s : State) (given : Inputs) (rho other : Valuation) where
  abbrev pub Below : FlatLeaf → Type 0
  Below x = (y : FlatLeaf) → ReadsLeaf design x y → at rho y ≡ at other y

  left_same : (path : List ℕ) (m : TypedModule) (c : Component) (leaf : TypeLeaf) → Stands design path m c leaf → is_driven c leaf ≡ true → Below (flat m path (leaf_of c leaf))
      → left_in_block rho path (leaf_of c leaf) (m, c) ≡ left_in_block other path (leaf_of c leaf) (m, c)
  left_same path m c leaf stands d below =
      ap (or_else (pos 0)) (drives_same (type_in m) (leaf_of c leaf) c.declaration.block (local m path rho) (local m path other)
      (agree_at m path rho other (joined (live (type_in m) (leaf_of c leaf) c.declaration.block)) (λ y r. below (flat m path y) (by_connect path m c leaf y stands d r))))

  value_same : (path : List ℕ) (m : TypedModule) (c : Component) (leaf : TypeLeaf) (e : Expr) → Stands design path m c leaf → c.declaration.sort ≡ A_node e → is_clock leaf ≡ false
      → Below (flat m path (leaf_of c leaf)) → (k : ℕ) → slice_get (leaves c.typ) k ≡ Some leaf
      → slice_get (value e (scene_of m path rho)) k ≡ slice_get (value e (scene_of m path other)) k
  value_same path m c leaf e stands sort clock below k there = by_option (slice_get (mentions e (type_in m)) k) refl where
    tracks : Tracks (local m path rho) (local m path other) (mentions e (type_in m)) (value e (scene_of m path rho)) (value e (scene_of m path other))
    tracks = tracked e (type_in m) (local m path rho) (local m path other)

    by_option : (o : Option (List Leaf)) → slice_get (mentions e (type_in m)) k ≡ o → slice_get (value e (scene_of m path rho)) k ≡ slice_get (value e (scene_of m path other)) k
    by_option (Some mentioned) q =
        each_same tracks k mentioned q (agree_at m path rho other mentioned (λ z r. below (flat m path z) (by_node path m c leaf e k mentioned z stands sort clock there q r)))
    by_option None q = none_there tracks k q

  node_same : (path : List ℕ) (m : TypedModule) (c : Component) (leaf : TypeLeaf) (e : Expr) → Stands design path m c leaf → c.declaration.sort ≡ A_node e → is_clock leaf ≡ false
      → Below (flat m path (leaf_of c leaf))
      → integer_beside leaf.path (leaves c.typ) (value e (scene_of m path rho)) ≡ integer_beside leaf.path (leaves c.typ) (value e (scene_of m path other))
  node_same path m c leaf e stands sort clock below =
      let k : ℕ = stands.listed.0 in
      let there : slice_get (leaves c.typ) k ≡ Some leaf = get_there (leaves c.typ) leaf stands.listed in
      let once : IsOnce (leaves c.typ) k leaf = once_there design sound path m c leaf stands.reached stands.declared k there in
      beside_at (leaves c.typ) (value e (scene_of m path rho)) k leaf there once
      ∙ (ap integer_or_zero (value_same path m c leaf e stands sort clock below k there)
      ∙ sym (beside_at (leaves c.typ) (value e (scene_of m path other)) k leaf there once))

  memory_same : (path : List ℕ) (m : TypedModule) (c : Component) (leaf : TypeLeaf) (memory : Memory) → Stands design path m c leaf → c.declaration.sort ≡ A_memory memory → leaf.flip ≡ false
      → Below (flat m path (leaf_of c leaf)) → of_read design s given rho memory path (m, c) leaf.path ≡ of_read design s given other memory path (m, c) leaf.path
  memory_same path m c leaf memory stands sort turned below =
      let bundle = sound.has.memories path m c memory stands.reached stands.declared sort in
      by_way (memory_way memory bundle.0 leaf (subst (λ l. Contains l leaf) bundle.1 stands.listed))
    where
      by_number : (port inner : ℕ) (way : List PathStep) → leaf.path ≡ step.Field port ∷ step.Field inner ∷ way → (latency : ℕ) → read_latency_of memory ≡ latency
          → by_latency latency (read_by memory (local m path rho c.declaration.name) (s.contents path c.declaration.name) port way) (s.captured path c.declaration.name port way)
          ≡ by_latency latency (read_by memory (local m path other c.declaration.name) (s.contents path c.declaration.name) port way) (s.captured path c.declaration.name port way)
      by_number port inner way is zero e =
          read_same memory (local m path rho c.declaration.name) (local m path other c.declaration.name) (s.contents path c.declaration.name) port way (port_named memory port) refl
          (λ q named by goes.
          let name : q.name ≡ port = same_number q.name port (found (λ x. x.name == port) (memory_ports memory) q named).0 in
          let y : Leaf = record { component = c.declaration.name; way = step.Field port ∷ step.Field by ∷ [] } in
          let here : local m path rho c.declaration.name (step.Field port ∷ step.Field by ∷ []) ≡ local m path other c.declaration.name (step.Field port ∷ step.Field by ∷ []) =
          local_at m path rho y ∙ (below (flat m path y) (by_port path m c leaf memory q port inner way stands sort e turned is named by goes) ∙ sym (local_at m path other y)) in
          subst (λ z. local m path rho c.declaration.name (step.Field z ∷ step.Field by ∷ []) ≡ local m path other c.declaration.name (step.Field z ∷ step.Field by ∷ [])) (sym name) here)
      by_number port inner way is (suc n) e = refl

      by_way : (port : ℕ) × (inner : ℕ) × (way : List PathStep) × (leaf.path ≡ step.Field port ∷ step.Field inner ∷ way)
          → of_read design s given rho memory path (m, c) leaf.path ≡ of_read design s given other memory path (m, c) leaf.path
      by_way (port, inner, way, is) =
          ap (of_read design s given rho memory path (m, c)) is ∙ (by_number port inner way is (read_latency_of memory) refl ∙ sym (ap (of_read design s given other memory path (m, c)) is))

  -- a port's leaf that is a source inside, by the leaf of the instance
  above_same : (front : List ℕ) (i : ℕ) (n : TypedModule) (p : Component) (part : TypeLeaf) → Stands design (front ++ i ∷ []) n p part → is_port p.declaration.sort ≡ true
      → is_source (flow_of p.declaration.sort part.flip) ≡ true → is_clock part ≡ false → Below (flat n (front ++ i ∷ []) (leaf_of p part))
      → (m : TypedModule) (c : Component) (leaf : TypeLeaf) (target : ℕ) → Stands design front m c leaf → c.declaration.name ≡ i → c.declaration.sort ≡ An_instance target
      → leaf.flip ≡ is_source (flow_of p.declaration.sort part.flip) → leaf.path ≡ step.Field p.declaration.name ∷ part.path → is_clock leaf ≡ is_clock part
      → from_outside design given rho (front ++ i ∷ []) (leaf_of p part) ≡ from_outside design given other (front ++ i ∷ []) (leaf_of p part)
  above_same front i n p part inside is source clock below m c leaf target stands name sort turned way clocks =
      outside_left design given rho front i p part m c leaf stands name way
      ∙ (left_same front m c leaf stands driven (subst Below (sym same) below)
      ∙ sym (outside_left design given other front i p part m c leaf stands name way))
    where
      same : flat m front (leaf_of c leaf) ≡ flat n (front ++ i ∷ []) (leaf_of p part)
      same = one_leaf front m n c p leaf part target stands.declared sort inside.declared is way ∙ ap (λ j. flat n (front ++ j ∷ []) (leaf_of p part)) name

      flow : is_source (flow_of c.declaration.sort leaf.flip) ≡ false
      flow = ap (λ x. is_source (flow_of x leaf.flip)) sort ∙ (instance_flip leaf.flip target ∙ ap not (turned ∙ source))

      driven : is_driven c leaf ≡ true
      driven = driven_by c leaf flow (ap is_register sort) (clocks ∙ clock)

  outside_same : (path : List ℕ) (m : TypedModule) (c : Component) (leaf : TypeLeaf) → Stands design path m c leaf → is_port c.declaration.sort ≡ true
      → is_source (flow_of c.declaration.sort leaf.flip) ≡ true → is_clock leaf ≡ false → Below (flat m path (leaf_of c leaf))
      → from_outside design given rho path (leaf_of c leaf) ≡ from_outside design given other path (leaf_of c leaf)
  outside_same path m c leaf stands is source clock below = ⊎_elim
      (λ e. subst (λ p. from_outside design given rho p (leaf_of c leaf) ≡ from_outside design given other p (leaf_of c leaf)) (sym e) refl)
      (λ above.
      let there : Stands design (above.0 ++ above.1 ∷ []) m c leaf = subst (λ p. Stands design p m c leaf) above.2 stands in
      let out = port_outside design sound.has above.0 above.1 m c leaf there is in
      subst (λ p. from_outside design given rho p (leaf_of c leaf) ≡ from_outside design given other p (leaf_of c leaf)) (sym above.2)
      (above_same above.0 above.1 m c leaf there is source clock (subst (λ p. Below (flat m p (leaf_of c leaf))) above.2 below) out.0 out.1 out.2 out.3 out.4 out.5 out.6 out.7 out.8 out.9))
      (last_of_path path)

  port_same : (path : List ℕ) (m : TypedModule) (c : Component) (leaf : TypeLeaf) → Stands design path m c leaf → is_port c.declaration.sort ≡ true
      → is_clock leaf ≡ false → Below (flat m path (leaf_of c leaf)) → of_port design s given rho path (m, c) leaf ≡ of_port design s given other path (m, c) leaf
  port_same path m c leaf stands is clock below = ⊎_elim
      (λ source. from_source design sound s given rho path m c leaf source ∙ (outside_same path m c leaf stands is source clock below ∙ sym (from_source design sound s given other path m c leaf source)))
      (λ source.
      let driven : is_driven c leaf ≡ true = driven_by c leaf source (port_register c.declaration.sort is) clock in
      from_block design sound s given rho path m c leaf source ∙ (left_same path m c leaf stands driven below ∙ sym (from_block design sound s given other path m c leaf source)))
      (true_or_false (is_source (flow_of c.declaration.sort leaf.flip)))

  turned_same : (path : List ℕ) (m : TypedModule) (c : Component) (leaf : TypeLeaf) (memory : Memory) → Stands design path m c leaf → c.declaration.sort ≡ A_memory memory → is_clock leaf ≡ false
      → Below (flat m path (leaf_of c leaf)) → of_sort design s given rho (A_memory memory) path (m, c) leaf ≡ of_sort design s given other (A_memory memory) path (m, c) leaf
  turned_same path m c leaf memory stands e clock below = ⊎_elim
      (λ turned.
      let source : is_source (flow_of c.declaration.sort leaf.flip) ≡ false = ap (λ x. is_source (flow_of x leaf.flip)) e ∙ ap (λ b. is_source (flow_of (A_memory memory) b)) turned in
      let driven : is_driven c leaf ≡ true = driven_by c leaf source (ap is_register e) clock in
      chosen rho turned ∙ (left_same path m c leaf stands driven below ∙ sym (chosen other turned)))
      (λ turned. read rho turned ∙ (memory_same path m c leaf memory stands e turned below ∙ sym (read other turned)))
      (true_or_false leaf.flip)
    where
      chosen : (v : Valuation) → leaf.flip ≡ true → of_sort design s given v (A_memory memory) path (m, c) leaf ≡ left_in_block v path (leaf_of c leaf) (m, c)
      chosen v turned = ap (λ b. if b then left_in_block v path (leaf_of c leaf) (m, c) else of_read design s given v memory path (m, c) leaf.path) turned

      read : (v : Valuation) → leaf.flip ≡ false → of_sort design s given v (A_memory memory) path (m, c) leaf ≡ of_read design s given v memory path (m, c) leaf.path
      read v turned = ap (λ b. if b then left_in_block v path (leaf_of c leaf) (m, c) else of_read design s given v memory path (m, c) leaf.path) turned

  sort_same : (path : List ℕ) (m : TypedModule) (c : Component) (leaf : TypeLeaf) → Stands design path m c leaf → is_clock leaf ≡ false → Below (flat m path (leaf_of c leaf))
      → (sort : Sort) → c.declaration.sort ≡ sort → of_sort design s given rho sort path (m, c) leaf ≡ of_sort design s given other sort path (m, c) leaf
  sort_same path m c leaf stands clock below An_input e = port_same path m c leaf stands (ap is_port e) clock below
  sort_same path m c leaf stands clock below An_output e = port_same path m c leaf stands (ap is_port e) clock below
  sort_same path m c leaf stands clock below A_wire e = left_same path m c leaf stands (driven_by c leaf (ap (λ x. is_source (flow_of x leaf.flip)) e) (ap is_register e) clock) below
  sort_same path m c leaf stands clock below (A_register k) e = refl
  sort_same path m c leaf stands clock below (A_reset_register k reset init) e = refl
  sort_same path m c leaf stands clock below (A_memory memory) e = turned_same path m c leaf memory stands e clock below
  sort_same path m c leaf stands clock below (An_instance target) e = refl
  sort_same path m c leaf stands clock below (A_node expr) e = node_same path m c leaf expr stands e clock below

  asked_same : (path : List ℕ) (m : TypedModule) (c : Component) (leaf : TypeLeaf) → Stands design path m c leaf → Below (flat m path (leaf_of c leaf))
      → asked design s given rho path (m, c) leaf ≡ asked design s given other path (m, c) leaf
  asked_same path m c leaf stands below = ⊎_elim
      (λ clock. asked_clock design sound s given rho path m c leaf clock ∙ sym (asked_clock design sound s given other path m c leaf clock))
      (λ clock.
      asked_sort design sound s given rho path m c leaf c.declaration.sort clock refl
      ∙ (sort_same path m c leaf stands clock below c.declaration.sort refl ∙ sym (asked_sort design sound s given other path m c leaf c.declaration.sort clock refl)))
      (true_or_false (is_clock leaf))

  -- Where all that a leaf reads has the same in two valuations, it has the same after a sweep over each.
  pub sweep_follows : (x : FlatLeaf) → IsLeafOf design x → Below x → at (sweep design s given rho) x ≡ at (sweep design s given other) x
  sweep_follows x l below =
      let o : Owned design x = owner design sound.has x l in
      subst (λ z. at (sweep design s given rho) z ≡ at (sweep design s given other) z) o.is
      (at_own design sound s given rho o.path o.m o.c o.leaf o.stands o.own
      ∙ (asked_same o.path o.m o.c o.leaf o.stands (subst Below (sym o.is) below) ∙ sym (at_own design sound s given other o.path o.m o.c o.leaf o.stands o.own)))
