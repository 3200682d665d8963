-- The leaves of the flat circuit that show what ports read are the read data of the circuit's memories.
use Rattle.std.proofs.Common.{◌≡◌, ℕ, ◌==◌, ◌<◌, Bool, true, false, not, List, ◌∷◌, length, Option, Some, None, refl, sym, ap, ◌∙◌, subst, arith, true≢false, if◌then◌else◌}
use Rattle.std.specs.Prelude.{Contains}
use Rattle.std.specs.List.{slice_get}
use Rattle.std.proofs.lemmas.Grind.{common_steps}
use Rattle.fir_types.specs.declared.fir_type.FirType.{FirType}
use Rattle.fir_types.specs.declared.leaf.TypeLeaf.{TypeLeaf}
use Rattle.fir_types.specs.declared.leaf.PathStep.{PathStep}
use Rattle.fir_types.specs.declared.leaf.PathStep.TheVariants as step
use Rattle.fir_types.specs.declared.memory.Memory.{Memory}
use Rattle.fir_types.specs.Leaves.{leaves}
use Rattle.fir_types.specs.Memories.{read_latency_of}
use Rattle.fir_meaning.specs.Components.{FlatLeaf, Sort, An_input, An_output, A_wire, A_register, A_reset_register, A_memory, An_instance, A_node, module_at}
use Rattle.fir_meaning.specs.MemoryPorts.{MemoryPort, memory_ports, port_named}
use Rattle.fir_meaning.specs.Elements.{IsElement}
use Rattle.fir_meaning.proofs.Ports.{component_found, from_filter_map}
use Rattle.circuit_laws.specs.WellFormed.{IsKnownModule}
use Rattle.circuit_laws.proofs.Reached.{known_module}
use Rattle.ground_net.specs.declared.circuit.GroundMemory.{GroundMemory}
use Rattle.ground_net.specs.declared.net.NetMemory.{NetMemory}
use Rattle.ground_net.specs.declared.net.NetPort.{NetPort}
use Rattle.ground_net.specs.declared.net.NetRead.{NetRead}
use Rattle.net_of_circuit.specs.FlatOrder.{Placed, Standing, all_memories, memory_in, flat_of}
use Rattle.net_of_circuit.specs.NetOf.{NameAll, IsPortOf, IsMemoryOf, may_read, read_field}
use Rattle.memory_ports.specs.declared.reads.ReadData.{ReadData}
use Rattle.memory_ports.specs.declared.reads.ReadData.TheVariants as read_data
use Rattle.memory_ports.specs.Placing.{data_of, load_of, data_in, reads_of, last_data, IsRead}
use Rattle.net_laws.proofs.Lists.{in_list, place_of, below_length}
use Rattle.net_laws.proofs.Standing.{Within, within}
use Rattle.lowering_laws.proofs.Heights.{some_same, none_some}
use Rattle.lowering_laws.proofs.Parts.{item}
use Rattle.lowering_laws.proofs.Whole.{Setting, design, texts, placed, lists, leaves_counted}
use Rattle.lowering_laws.proofs.Stores.{elements, elements_counted, memories_counted, memories_are}
use Rattle.lowering_laws.proofs.Drivers.{all}
use Rattle.lowering_laws.proofs.Clauses as clauses
use Rattle.lowering_laws.proofs.Clauses.{no_read, late_read, load_read}
use Rattle.assembly_laws.proofs.PortLeaves.{in_filter_map, data_leaf, ReadLeaf, read_leaf_there, read_leaf_is}
use Rattle.assembly_laws.proofs.Naming.{Origin, data_there, shown_from, not_named}

-- a memory as one of a net, whose words are not counted
abbrev as_net : GroundMemory → NetMemory
as_net memory = record { name = memory.name; before = memory.first; word = 0; depth = memory.depth; elements = memory.elements; ports = memory.ports }

-- a memory of the list stands at an entry of the flat order
memory_entry : (ps : List Placed) (m : ℕ) (p : Placed) (memory : Memory) → slice_get (all_memories ps) m ≡ Some (p, memory) → p.c.declaration.sort ≡ A_memory memory
memory_entry ps m p memory e =
    let of = from_filter_map (λ q. memory_in q q.c.declaration.sort) ps (p, memory) (in_list (all_memories ps) m (p, memory) e) in
    by of.0 of.0.c.declaration.sort refl of.2
  where
    by : (q : Placed) (sort : Sort) → q.c.declaration.sort ≡ sort → memory_in q sort ≡ Some (p, memory) → p.c.declaration.sort ≡ A_memory memory
    by q (A_memory held) s h =
        let same : (q, held) ≡ (p, memory) = some_same h in
        sym (ap (λ (w : Placed × Memory). w.0.c.declaration.sort) same) ∙ (s ∙ ap (λ (w : Placed × Memory). A_memory w.1) same)
    by q An_input s h = none_some h
    by q An_output s h = none_some h
    by q A_wire s h = none_some h
    by q (A_register clock) s h = none_some h
    by q (A_reset_register clock reset init) s h = none_some h
    by q (An_instance target) s h = none_some h
    by q (A_node expr) s h = none_some h

-- leaves of a component on one way are one
one_way : (ls : List TypeLeaf) → ((j k : ℕ) (a b : TypeLeaf) → slice_get ls j ≡ Some a → slice_get ls k ≡ Some b → a.path ≡ b.path → j ≡ k) → (a b : TypeLeaf) → Contains ls a → Contains ls b → a.path ≡ b.path → a ≡ b
one_way ls ways a b at_a at_b same =
    let j = place_of ls a at_a in
    let k = place_of ls b at_b in
    some_same (sym j.1 ∙ (ap (slice_get ls) (ways j.0 k.0 a b j.1 k.1 same) ∙ k.1))

pub equal_zero : (n : ℕ) → (n == 0) ≡ true → n ≡ 0
equal_zero n e = grind (arith, common_steps)

not_zero : (n : ℕ) → (n == 0) ≡ false → n ≡ 0 → ⊥
not_zero n e q = true≢false (sym (ap (λ i. i == 0) q) ∙ e)

abbrev flat_leaf : List ℕ → ℕ → List PathStep → FlatLeaf
flat_leaf path c way = record { path = path; component = c; way = way }

module _ (z : Setting) where
  -- What a leaf of the circuit shows of what a port reads: the memory and its number, the port, and the leaf of the element and its number.
  pub record ReadOf (y : Standing) (shown : ReadData) : Type 0 where
    pub m : ℕ
    pub k : ℕ
    pub memory : Memory
    pub element : FirType
    pub leaf : TypeLeaf
    pub port : MemoryPort
    pub np : NetPort
    pub read : NetRead
    pub at_memory : slice_get (all_memories (placed z)) m ≡ Some (y.0, memory)
    pub at_element : slice_get (elements z) m ≡ Some element
    pub sort : y.0.c.declaration.sort ≡ A_memory memory
    pub named : port_named memory port.name ≡ Some port
    pub of : IsPortOf (all z) y.0 memory element port np
    pub reads : np.read ≡ Some read
    pub at_leaf : slice_get (leaves element) k ≡ Some leaf
    pub path : y.1.path ≡ step.Field port.name ∷ step.Field (read_field port.mode) ∷ leaf.path
    pub source : y.1.flip ≡ false
    pub captured : read.captured ≡ not (read_latency_of memory == 0)
    pub shows : shown ≡ data_of m k np read

  -- the module of an entry is well typed
  known : (p : Placed) → module_at (design z) p.path ≡ Some p.m → IsKnownModule z.fitted p.m
  known p reached = known_module z.fitted z.well p.path p.m reached

  -- A memory of the flat circuit, and the circuit's of its number
  record Stored (m : ℕ) (held : GroundMemory) : Type 0 where
    p : Placed
    memory : Memory
    element : FirType
    at_memory : slice_get (all_memories (placed z)) m ≡ Some (p, memory)
    at_element : slice_get (elements z) m ≡ Some element
    is : IsMemoryOf (texts z) (placed z) p memory element (as_net held)

  stored : (m : ℕ) (held : GroundMemory) → slice_get z.flat.memories m ≡ Some held → Stored m held
  stored m held e =
      let below : m < length (all_memories (placed z)) = subst (λ n. m < n) (memories_counted z) (below_length z.flat.memories m held e) in
      let both = item (all_memories (placed z)) m below in
      let typ = item (elements z) m (subst (λ n. m < n) (sym (elements_counted z)) below) in
      record {
        p = both.0.0;
        memory = both.0.1;
        element = typ.0;
        at_memory = both.1;
        at_element = typ.1;
        is = memories_are z m both.0.0 both.0.1 typ.0 held (as_net held) both.1 typ.1 e refl;
      }

  -- what a port reads
  reads_by : (p : Placed) (memory : Memory) (element : FirType) (port : MemoryPort) (np : NetPort) → IsPortOf (all z) p memory element port np → (read : NetRead) → np.read ≡ Some read
      → (may_read port.mode ≡ true) × NameAll (all z) p port.name (read_field port.mode) element read.leaves × (read.captured ≡ not (read_latency_of memory == 0))
  reads_by p memory element port np of read e = by (may_read port.mode) refl where
    by : (b : Bool) → may_read port.mode ≡ b → (may_read port.mode ≡ true) × NameAll (all z) p port.name (read_field port.mode) element read.leaves × (read.captured ≡ not (read_latency_of memory == 0))
    by true q =
        let r = of.read q in
        let same : r.0 ≡ read = some_same (sym r.1 ∙ e) in
        (q, subst (λ (w : NetRead). NameAll (all z) p port.name (read_field port.mode) element w.leaves) same r.2, ap (λ (w : NetRead). w.captured) (sym same) ∙ r.3)
    by false q = none_some (sym (of.no_read q) ∙ e)

  -- A leaf that shows what a port of the flat circuit reads
  from_origin : (x : ℕ) (y : Standing) → slice_get (all z) x ≡ Some y → (shown : ReadData) → Origin z.flat.memories x shown → ReadOf y shown
  from_origin x y there shown o =
      let s = stored o.m o.memory o.is.there in
      let sort = memory_entry (placed z) o.m s.p s.memory s.at_memory in
      let port = item (memory_ports s.memory) o.p (subst (λ n. o.p < n) s.is.all_ports (below_length o.memory.ports o.p o.port o.is.has)) in
      let of = s.is.ports o.p port.0 o.port port.1 o.is.has in
      let r = reads_by s.p s.memory s.element port.0 o.port of o.read o.is.reads in
      let l = item (leaves s.element) o.k (subst (λ n. o.k < n) r.1.counted (below_length o.read.leaves o.k x o.is.leaf)) in
      let names = r.1.each o.k x l.0 o.is.leaf l.1 in
      let same : (s.p, names.leaf) ≡ y = some_same (sym names.there ∙ there) in
      let L = lists z in
      let stands = (L.stands x (s.p, names.leaf) names.there).0 in
      let it = known s.p stands.reached in
      let c_there = (component_found s.p.m s.p.c.declaration.name s.p.c stands.declared).1 in
      let among : Contains (memory_ports s.memory) port.0 = in_list (memory_ports s.memory) o.p port.0 port.1 in
      let inside : Contains (leaves s.element) l.0 = in_list (leaves s.element) o.k l.0 l.1 in
      let whole : Contains (leaves s.p.c.typ) (data_leaf port.0.name (read_field port.0.mode) l.0) =
      subst (λ ls. Contains ls (data_leaf port.0.name (read_field port.0.mode) l.0)) (sym s.is.is_element.bundle) (read_leaf_there s.memory s.element port.0 l.0 among r.0 inside) in
      let one : data_leaf port.0.name (read_field port.0.mode) l.0 ≡ names.leaf =
      one_way (leaves s.p.c.typ) (λ j k a b. it.typed.ways s.p.c j k a b c_there) (data_leaf port.0.name (read_field port.0.mode) l.0) names.leaf whole stands.listed (sym names.is) in
      let straight : l.0.flip ≡ false = it.typed.stored_passive s.p.c s.memory s.element l.0 c_there sort s.is.is_element inside in
      let flip : names.leaf.flip ≡ false = sym (ap (λ (w : TypeLeaf). w.flip) one) ∙ ap (λ b. not (not b)) straight in
      subst (λ w. ReadOf w shown) same (record {
        m = o.m;
        k = o.k;
        memory = s.memory;
        element = s.element;
        leaf = l.0;
        port = port.0;
        np = o.port;
        read = o.read;
        at_memory = s.at_memory;
        at_element = s.at_element;
        sort = sort;
        named = it.typed.port_names s.p.c s.memory port.0 c_there sort among;
        of = of;
        reads = o.is.reads;
        at_leaf = l.1;
        path = names.is;
        source = flip;
        captured = r.2;
        shows = o.shows;
      })

  -- Each read data of a memory is what a port of the flat circuit reads.

  -- the flat circuit's memory of an entry
  record HeldBy (p : Placed) (memory : Memory) : Type 0 where
    m : ℕ
    held : GroundMemory
    there : slice_get z.flat.memories m ≡ Some held
    element : FirType
    is : IsMemoryOf (texts z) (placed z) p memory element (as_net held)

  held_by : (j : ℕ) (p : Placed) (memory : Memory) → slice_get (placed z) j ≡ Some p → p.c.declaration.sort ≡ A_memory memory → HeldBy p memory
  held_by j p memory at sort = of_number m.0 m.1 (item z.flat.memories m.0 (subst (λ n. m.0 < n) (sym (memories_counted z)) below)) (item (elements z) m.0 (subst (λ n. m.0 < n) (sym (elements_counted z)) below)) where
    m : (m : ℕ) × (slice_get (all_memories (placed z)) m ≡ Some (p, memory))
    m = place_of (all_memories (placed z)) (p, memory) (in_filter_map (λ q. memory_in q q.c.declaration.sort) (placed z) p (p, memory) (in_list (placed z) j p at) (ap (memory_in p) sort))

    below : m.0 < length (all_memories (placed z))
    below = below_length (all_memories (placed z)) m.0 (p, memory) m.1

    of_number : (n : ℕ) → slice_get (all_memories (placed z)) n ≡ Some (p, memory) → (held : GroundMemory) × (slice_get z.flat.memories n ≡ Some held) → (typ : FirType) × (slice_get (elements z) n ≡ Some typ) → HeldBy p memory
    of_number n here held typ = record { m = n; held = held.0; there = held.1; element = typ.0; is = memories_are z n p memory typ.0 held.0 (as_net held.0) here typ.1 held.1 refl }

  -- the port and the leaf of the element that read data show
  data_at : (x : ℕ) (y : Standing) → slice_get (all z) x ≡ Some y → (memory : Memory) → y.0.c.declaration.sort ≡ A_memory memory → y.1.flip ≡ false → (element : FirType) → IsElement y.0.c memory element → ReadLeaf memory element y.1
  data_at x y there memory sort turned element is =
      let L = lists z in
      let stands = (L.stands x y there).0 in
      let it = known y.0 stands.reached in
      let c_there = (component_found y.0.m y.0.c.declaration.name y.0.c stands.declared).1 in
      read_leaf_is memory element y.1 (λ l inside. it.typed.stored_passive y.0.c memory element l c_there sort is inside) (subst (λ ls. Contains ls y.1) is.bundle stands.listed) turned

  record Named (x : ℕ) : Type 0 where
    m : ℕ
    p : ℕ
    k : ℕ
    memory : GroundMemory
    port : NetPort
    read : NetRead
    is : IsRead z.flat.memories m p k x memory port read

  -- the number that the port's read has for a leaf of the element is that of the leaf on its way
  number_of_leaf : (x : ℕ) (y : Standing) → slice_get (all z) x ≡ Some y → (port field : ℕ) (element : FirType) (numbers : List ℕ) → NameAll (all z) y.0 port field element numbers → (inner : TypeLeaf) → Contains (leaves element) inner
      → y.1.path ≡ step.Field port ∷ step.Field field ∷ inner.path → (k : ℕ) × (slice_get numbers k ≡ Some x)
  number_of_leaf x y there port field element numbers named inner inside way = at k.0 k.1 (item numbers k.0 (subst (λ n. k.0 < n) (sym named.counted) (below_length (leaves element) k.0 inner k.1))) where
    k : (k : ℕ) × (slice_get (leaves element) k ≡ Some inner)
    k = place_of (leaves element) inner inside

    at : (k : ℕ) → slice_get (leaves element) k ≡ Some inner → (number : ℕ) × (slice_get numbers k ≡ Some number) → (k : ℕ) × (slice_get numbers k ≡ Some x)
    at k here number =
        let L = lists z in
        let names = named.each k number.0 inner number.1 here in
        let flats : flat_of (y.0, names.leaf) ≡ flat_of y = ap (flat_leaf y.0.path y.0.c.declaration.name) (names.is ∙ sym way) in
        (k, number.1 ∙ ap Some (L.once number.0 x (y.0, names.leaf) y names.there there flats))

  port_named_by : (x : ℕ) (y : Standing) → slice_get (all z) x ≡ Some y → (memory : Memory) (held : HeldBy y.0 memory) → ReadLeaf memory held.element y.1 → Named x
  port_named_by x y there memory held r = at q.0 q.1 (item held.held.ports q.0 (subst (λ n. q.0 < n) (sym held.is.all_ports) (below_length (memory_ports memory) q.0 r.port q.1))) where
    q : (q : ℕ) × (slice_get (memory_ports memory) q ≡ Some r.port)
    q = place_of (memory_ports memory) r.port r.among

    at : (q : ℕ) → slice_get (memory_ports memory) q ≡ Some r.port → (np : NetPort) × (slice_get held.held.ports q ≡ Some np) → Named x
    at q here np =
        let of = held.is.ports q r.port np.0 here np.1 in
        let read = of.read r.reads in
        let k = number_of_leaf x y there r.port.name (read_field r.port.mode) held.element read.0.leaves read.2 r.inner r.inside r.way in
        record {
          m = held.m;
          p = q;
          k = k.0;
          memory = held.held;
          port = np.0;
          read = read.0;
          is = record { there = held.there; has = np.1; reads = read.1; leaf = k.1 };
        }

  read_is_named : (x : ℕ) (y : Standing) → slice_get (all z) x ≡ Some y → (memory : Memory) → y.0.c.declaration.sort ≡ A_memory memory → y.1.flip ≡ false → Named x
  read_is_named x y there memory sort turned = of_held (held_by at.j y.0 memory at.there sort) where
    at : Within (placed z) x y
    at = within (placed z) x y there

    of_held : HeldBy y.0 memory → Named x
    of_held held = port_named_by x y there memory held (data_at x y there memory sort turned held.element held.is.is_element)

  -- What a leaf shows

  -- nothing, where it is no read data of a memory, and else what the circuit's port reads
  pub data ShowsData (x : ℕ) (y : Standing) : Type 0 where
    nothing : slice_get (data_in z.flat) x ≡ Some None → ((memory : Memory) → y.0.c.declaration.sort ≡ A_memory memory → y.1.flip ≡ false → ⊥) → ShowsData x y
    what_is_read : (shown : ReadData) → slice_get (data_in z.flat) x ≡ Some (Some shown) → ReadOf y shown → ShowsData x y

  pub shows_data : (x : ℕ) (y : Standing) → slice_get (all z) x ≡ Some y → ShowsData x y
  shows_data x y there = by (last_data (reads_of z.flat.memories) x None) refl where
    known_data : slice_get (data_in z.flat) x ≡ Some (last_data (reads_of z.flat.memories) x None)
    known_data = data_there z.flat x (subst (λ n. x < n) (sym (leaves_counted z)) (below_length (all z) x y there))

    by : (o : Option ReadData) → last_data (reads_of z.flat.memories) x None ≡ o → ShowsData x y
    by None q = nothing (known_data ∙ ap Some q) (λ memory sort turned.
        let n = read_is_named x y there memory sort turned in
        not_named z.flat.memories n.m n.p n.k x n.memory n.port n.read n.is q)
    by (Some shown) q = what_is_read shown (known_data ∙ ap Some q) (from_origin x y there shown (shown_from z.flat.memories x shown q))

  -- data of latency 0 are loads, and late ones captured
  pub is_load : (y : Standing) (shown : ReadData) (r : ReadOf y shown) → read_latency_of r.memory ≡ 0 → shown ≡ read_data.Load (load_of r.m r.k r.np)
  is_load y shown r latency =
      r.shows ∙ ap (λ b. if b then read_data.Captured else read_data.Load (load_of r.m r.k r.np)) (r.captured ∙ ap (λ n. not (n == 0)) latency)

  pub is_late : (y : Standing) (shown : ReadData) (r : ReadOf y shown) → (read_latency_of r.memory == 0) ≡ false → shown ≡ read_data.Captured
  is_late y shown r late =
      r.shows ∙ ap (λ b. if b then read_data.Captured else read_data.Load (load_of r.m r.k r.np)) (r.captured ∙ ap not late)

  -- The data that leaves show are those of the circuit's memories.
  pub shows : (x : ℕ) (y : Standing) → slice_get (all z) x ≡ Some y → clauses.Shows z x y
  shows x y there = of_data (shows_data x y there) where
    of_read : (shown : ReadData) → slice_get (data_in z.flat) x ≡ Some (Some shown) → ReadOf y shown → clauses.Shows z x y
    of_read shown e r = by (read_latency_of r.memory == 0) refl where
      by : (b : Bool) → (read_latency_of r.memory == 0) ≡ b → clauses.Shows z x y
      by true q =
          let latency : read_latency_of r.memory ≡ 0 = equal_zero (read_latency_of r.memory) q in
          load_read r.memory r.port r.port.name (read_field r.port.mode) r.leaf.path r.element r.np r.m r.k r.sort r.source latency r.path r.named r.of
          (e ∙ ap (λ d. Some (Some d)) (is_load y shown r latency))
      by false q = late_read r.memory r.sort r.source (not_zero (read_latency_of r.memory) q) (e ∙ ap (λ d. Some (Some d)) (is_late y shown r q))

    of_data : ShowsData x y → clauses.Shows z x y
    of_data (nothing e no_data) = no_read e no_data
    of_data (what_is_read shown e r) = of_read shown e r
