-- A read of latency 0 has in the net what it has in the circuit.
use Rattle.std.proofs.Common.{◌≡◌, ℕ, ◌<◌, ◌&&◌, not, false, List, [], ◌∷◌, length, Some, None, option_map, option_and_then, ℤ, pos, unsigned_abs, int_eq, nat_lt, refl, sym, ap, ap₂, ◌∙◌, subst, if◌then◌else◌}
use Rattle.std.specs.List.{slice_get}
use Rattle.bit_words.specs.Values.{integer_of}
use Rattle.fir_types.specs.declared.fir_type.FirType.{FirType}
use Rattle.fir_types.specs.declared.leaf.PathStep.{PathStep}
use Rattle.fir_types.specs.declared.leaf.PathStep.TheVariants as step
use Rattle.fir_types.specs.declared.memory.Memory.{Memory}
use Rattle.fir_types.specs.declared.memory.PortMode.{PortMode}
use Rattle.fir_types.specs.declared.memory.PortMode.TheVariants as mode
use Rattle.fir_types.specs.Leaves.{leaves}
use Rattle.fir_types.specs.Memories.{depth_of, read_latency_of}
use Rattle.fir_types.specs.Bundles.{addr_name, en_name, wmode_name}
use Rattle.prim_ops.specs.Ports.{Held, Shown, read_by_port, set_to_read}
use Rattle.fir_meaning.specs.Components.{A_memory, flat_through, component_named, target_of, target_in, is_clock, flow_of}
use Rattle.fir_meaning.specs.Values.{Valuation, scene_of}
use Rattle.fir_meaning.specs.MemoryPorts.{MemoryPort, port_named, asks_to_read, read_by, read_of}
use Rattle.fir_meaning.specs.MemoryPorts as tree_ports
use Rattle.fir_meaning.specs.States.{State, is_port, is_register, is_source}
use Rattle.fir_meaning.proofs.Settling.{at, local, local_at, flat_none}
use Rattle.fir_meaning.proofs.Ports.{component_found}
use Rattle.circuit_laws.proofs.Reached.{known_module}
use Rattle.ground_net.specs.declared.ground.Ground.{Ground}
use Rattle.ground_net.specs.declared.circuit.GroundRole.TheVariants.{Plain}
use Rattle.ground_net.specs.declared.net.Net.{Net}
use Rattle.ground_net.specs.declared.net.NetMemory.{NetMemory}
use Rattle.ground_net.specs.declared.net.NetPort.{NetPort}
use Rattle.ground_net.specs.declared.net.NetRead.{NetRead}
use Rattle.ground_net.specs.declared.net.ElementLeaf.{ElementLeaf}
use Rattle.ground_net.specs.Grounds.{Instant, value}
use Rattle.ground_net.specs.Reads.{driver_of}
use Rattle.ground_net.specs.Cycles.{NetState, instant_of, is_set, where_it_reads}
use Rattle.ground_net.specs.Cycles as cycle
use Rattle.ground_net.specs.Nets.{IsWithin}
use Rattle.net_of_circuit.specs.FlatOrder.{Placed, Standing, all_memories}
use Rattle.net_of_circuit.specs.NetOf.{IsSeen, Names, IsPortOf, IsMemoryOf, may_read, has_mode, seen_valuation}
use Rattle.net_laws.proofs.Numbers.{valuation_at}
use Rattle.memory_ports.specs.declared.reads.ReadData.{ReadData}
use Rattle.memory_ports.specs.declared.reads.ReadData.TheVariants as read_data
use Rattle.memory_ports.specs.Placing.{IsPlaced, load_of, driver_for, own_driver, without_word}
use Rattle.net_laws.proofs.Lists.{below_length, map_at}
use Rattle.lowering_laws.proofs.Heights.{some_same}
use Rattle.lowering_laws.proofs.Parts.{item}
use Rattle.lowering_laws.proofs.Matching.{map_counted}
use Rattle.lowering_laws.proofs.Whole.{Setting, design, texts, placed, lists, leaf_at}
use Rattle.lowering_laws.proofs.Stores.{elements, memories_counted, memories_are}
use Rattle.lowering_laws.proofs.Drivers.{all, role_is}
use Rattle.lowering_laws.proofs.Reading.{plain_role}
use Rattle.lowering_laws.proofs.Loads.{memory_same}
use Rattle.assembly_laws.proofs.Showing.{ReadOf, ShowsData, nothing, what_is_read, shows_data, is_load}

-- what loads are
abbrev pub Loaded : Type 0
Loaded = (net : Net) (s : NetState) (rho : cycle.Valuation) (m k : ℕ) (memory : NetMemory) (port : NetPort) (read : NetRead) (element : ElementLeaf) → slice_get net.memories m ≡ Some memory → port.read ≡ Some read → slice_get memory.elements k ≡ Some element
    → IsWithin net s → integer_of (value (load_of m k port) (instant_of net s rho)) ≡ read_by_port memory.depth (s.contents m) (cycle.shown (instant_of net s rho) port) k

first_step : {a b c d : ℕ} {v w : List PathStep} → step.Field a ∷ step.Field b ∷ v ≡ step.Field c ∷ step.Field d ∷ w → a ≡ c
first_step e = cc

behind_steps : {a b c d : ℕ} {v w : List PathStep} → step.Field a ∷ step.Field b ∷ v ≡ step.Field c ∷ step.Field d ∷ w → v ≡ w
behind_steps e = cc

read_same : (depth : ℕ) (way : List PathStep) (k : ℕ) (a : Shown (List PathStep)) (b : Shown ℕ) (held : Held (List PathStep)) (other : Held ℕ) → a.reads ≡ b.reads → a.address ≡ b.address
    → ((at : ℕ) → held at way ≡ other at k) → read_by_port depth held a way ≡ read_by_port depth other b k
read_same depth way k a b held other reads address same =
    ap₂ (λ r x. if r && nat_lt x depth then held x way else pos 0) reads address ∙ ap (λ v. if b.reads && nat_lt b.address depth then v else pos 0) (same b.address)

module _ (z : Setting) (net : Net) (is : IsPlaced z.flat net) where
  -- the memory of a net is the circuit's
  pub memory_there : (m : ℕ) (p : Placed) (memory : Memory) (element : FirType) (nm : NetMemory) → slice_get (all_memories (placed z)) m ≡ Some (p, memory) → slice_get (elements z) m ≡ Some element → slice_get net.memories m ≡ Some nm
      → IsMemoryOf (texts z) (placed z) p memory element nm
  memory_there m p memory element nm at_memory at_element there =
      memories_are z m p memory element (without_word nm) nm at_memory at_element (ap (λ l. slice_get l m) (sym is.memories) ∙ map_at without_word net.memories m nm there) refl

  pub net_memories_counted : length net.memories ≡ length (all_memories (placed z))
  net_memories_counted = sym (map_counted without_word net.memories) ∙ (ap length is.memories ∙ memories_counted z)

  -- read data are plain leaves
  plain_data : (x : ℕ) (y : Standing) (there : slice_get (all z) x ≡ Some y) (memory : Memory) → y.0.c.declaration.sort ≡ A_memory memory → y.1.flip ≡ false → (leaf_at z x y there).leaf.role ≡ Plain
  plain_data x y there memory sort turned =
      let L = lists z in
      let stands = (L.stands x y there).0 in
      let it = known_module z.fitted z.well y.0.path y.0.m stands.reached in
      let clock : is_clock y.1 ≡ false = it.typed.read_data y.0.c memory y.1 (component_found y.0.m y.0.c.declaration.name y.0.c stands.declared).1 sort stands.listed turned in
      plain_role z x y there (role_is y.0.c y.1 false false false clock (ap is_register sort) (ap (λ a. a && is_source (flow_of y.0.c.declaration.sort y.1.flip)) (ap is_port sort)))

  module _ (s : State) (t : NetState) (rho : cycle.Valuation) (seen_is : IsSeen (placed z) (elements z) net s t rho) where
    abbrev tree_rho : Valuation
    tree_rho = seen_valuation (placed z) net t rho

    abbrev instant : Instant
    instant = instant_of net t rho

    -- A port of a memory of the run
    module _ (p : Placed) (memory : Memory) (sort : p.c.declaration.sort ≡ A_memory memory) (declared : component_named p.m p.c.declaration.name ≡ Some p.c) (element : FirType) (port : MemoryPort) (np : NetPort) (of : IsPortOf (all z) p memory element port np) where
      abbrev integers : List PathStep → ℤ
      integers = local p.m p.path tree_rho p.c.declaration.name

      none : target_of p.m p.c.declaration.name ≡ None
      none = ap (option_and_then (λ x. target_in x.declaration.sort)) declared ∙ ap target_in sort

      named : (way : List PathStep) (x : ℕ) → Names (all z) p way x → integers way ≡ integer_of (rho x)
      named way x n =
          local_at p.m p.path tree_rho (record { component = p.c.declaration.name; way = way })
          ∙ (ap (at tree_rho) (ap (λ o. flat_through p.path p.c.declaration.name o way) none ∙ flat_none p.path p.c.declaration.name way)
          ∙ (ap (tree_rho p.path p.c.declaration.name) (sym n.is) ∙ valuation_at (design z) (placed z) (lists z) instant x (p, n.leaf) n.there))

      set_at : (way : List PathStep) (x : ℕ) → Names (all z) p way x → int_eq (integers way) (pos 1) ≡ is_set instant x
      set_at way x n = ap (λ i. int_eq i (pos 1)) (named way x n)

      address_same : tree_ports.address integers port ≡ unsigned_abs (integer_of (instant.leaf np.addr))
      address_same = ap unsigned_abs (named (step.Field port.name ∷ step.Field addr_name ∷ []) np.addr of.addr)

      en_same : tree_ports.is_set integers port en_name ≡ is_set instant np.en
      en_same = set_at (step.Field port.name ∷ step.Field en_name ∷ []) np.en of.en

      reads_same : (md : PortMode) → port.mode ≡ md → asks_to_read integers port md ≡ where_it_reads np.read (set_to_read (is_set instant np.en) (option_map (is_set instant) np.mode))
      reads_same mode.Writer e = sym (ap (λ o. where_it_reads o (set_to_read (is_set instant np.en) (option_map (is_set instant) np.mode))) (of.no_read (ap may_read e)))
      reads_same mode.Reader e =
          let r = of.read (ap may_read e) in
          en_same ∙ sym (ap₂ (λ o m. where_it_reads o (set_to_read (is_set instant np.en) (option_map (is_set instant) m))) r.1 (of.no_mode (ap has_mode e)))
      reads_same mode.ReadWriter e =
          let r = of.read (ap may_read e) in
          let m = of.mode (ap has_mode e) in
          ap₂ (λ a b. a && not b) en_same (set_at (step.Field port.name ∷ step.Field wmode_name ∷ []) m.0 m.2)
          ∙ sym (ap₂ (λ o m. where_it_reads o (set_to_read (is_set instant np.en) (option_map (is_set instant) m))) r.1 m.1)

    -- What the circuit's port reads is what the net's does.
    read_there : (loaded : Loaded) (x : ℕ) (y : Standing) → slice_get (all z) x ≡ Some y → (shown : ReadData) (r : ReadOf z y shown)
        → read_of r.memory (local y.0.m y.0.path tree_rho y.0.c.declaration.name) (s.contents y.0.path y.0.c.declaration.name) (Some r.port) r.leaf.path ≡ integer_of (value (load_of r.m r.k r.np) instant)
    read_there loaded x y there shown r =
        let L = lists z in
        let stands = (L.stands x y there).0 in
        let nm = item net.memories r.m (subst (λ n. r.m < n) (sym net_memories_counted) (below_length (all_memories (placed z)) r.m (y.0, r.memory) r.at_memory)) in
        let of = memory_there r.m y.0 r.memory r.element nm.0 r.at_memory r.at_element nm.1 in
        let kept = item nm.0.elements r.k (subst (λ n. r.k < n) (sym of.counted) (below_length (leaves r.element) r.k r.leaf r.at_leaf)) in
        read_same (depth_of r.memory) r.leaf.path r.k (tree_ports.shown (local y.0.m y.0.path tree_rho y.0.c.declaration.name) r.port) (cycle.shown instant r.np) (s.contents y.0.path y.0.c.declaration.name) (t.contents r.m)
        (reads_same y.0 r.memory r.sort stands.declared r.element r.port r.np r.of r.port.mode refl) (address_same y.0 r.memory r.sort stands.declared r.element r.port r.np r.of)
        (λ i. seen_is.states.contents r.m i r.k y.0 r.memory r.element r.leaf r.at_memory r.at_element r.at_leaf)
        ∙ (ap (λ d. read_by_port d (t.contents r.m) (cycle.shown instant r.np) r.k) (sym of.depth)
        ∙ sym (loaded net t rho r.m r.k nm.0 r.np r.read kept.0 nm.1 r.reads kept.1 seen_is.within))

    pub port_reads : (loaded : Loaded) (x : ℕ) (y : Standing) (memory : Memory) (port field : ℕ) (way : List PathStep) (driver : Ground) → slice_get (all z) x ≡ Some y → y.0.c.declaration.sort ≡ A_memory memory → read_latency_of memory ≡ 0
        → y.1.flip ≡ false → y.1.path ≡ step.Field port ∷ step.Field field ∷ way → driver_of net x ≡ Some driver
        → read_by memory ((scene_of y.0.m y.0.path tree_rho).integers y.0.c.declaration.name) (s.contents y.0.path y.0.c.declaration.name) port way ≡ integer_of (value driver instant)
    port_reads loaded x y memory port field way driver there sort latency turned path has = by (shows_data z x y there) where
      by : ShowsData z x y → read_by memory ((scene_of y.0.m y.0.path tree_rho).integers y.0.c.declaration.name) (s.contents y.0.path y.0.c.declaration.name) port way ≡ integer_of (value driver instant)
      by (nothing e no_data) = absurd (no_data memory sort turned)
      by (what_is_read shown e r) =
          let same : memory ≡ r.memory = memory_same memory r.memory (sym sort ∙ r.sort) in
          let load = is_load z y shown r (ap read_latency_of (sym same) ∙ latency) in
          let steps = sym path ∙ r.path in
          let at = leaf_at z x y there in
          let driver_is : load_of r.m r.k r.np ≡ driver =
          some_same (sym (is.drivers x at.leaf (Some (read_data.Load (load_of r.m r.k r.np))) at.leaf_there (e ∙ ap (λ d. Some (Some d)) load)
          ∙ ap (λ g. driver_for g (Some (read_data.Load (load_of r.m r.k r.np))) (own_driver z.flat x)) (plain_data x y there memory sort turned)) ∙ has) in
          let held = s.contents y.0.path y.0.c.declaration.name in
          let shows = local y.0.m y.0.path tree_rho y.0.c.declaration.name in
          ap (λ m. read_by m shows held port way) same
          ∙ (ap₂ (λ i w. read_by r.memory shows held i w) (first_step steps) (behind_steps steps)
          ∙ (ap (λ o. read_of r.memory shows held o r.leaf.path) r.named ∙ (read_there loaded x y there shown r ∙ ap (λ g. integer_of (value g instant)) driver_is)))
