-- The memories of the flat circuit and where the leaves of their ports stand.
use Rattle.std.proofs.Common.{◌≡◌, ℕ, ◌+◌, ◌<◌, false, List, ◌∷◌, Some, sym, ap, ◌∙◌, subst}
use Rattle.std.specs.Prelude.{Contains}
use Rattle.std.specs.List.{slice_get}
use Rattle.fir_types.specs.declared.fir_type.FirType.{FirType}
use Rattle.fir_types.specs.declared.fir_type.Field.{Field}
use Rattle.fir_types.specs.declared.leaf.TypeLeaf.{TypeLeaf}
use Rattle.fir_types.specs.declared.leaf.PathStep.{PathStep}
use Rattle.fir_types.specs.declared.leaf.PathStep.TheVariants as step
use Rattle.fir_types.specs.declared.memory.Memory.{Memory}
use Rattle.fir_types.specs.Leaves.{leaves}
use Rattle.fir_types.specs.Memories.{depth_of}
use Rattle.fir_meaning.specs.Components.{Sort, An_input, An_output, A_wire, A_register, A_reset_register, A_memory, An_instance, A_node, module_at, component_named, FlatLeaf}
use Rattle.fir_meaning.specs.MemoryPorts.{MemoryPort, memory_ports}
use Rattle.fir_meaning.proofs.Ports.{component_found}
use Rattle.circuit_laws.specs.WellFormed.{IsKnownModule}
use Rattle.circuit_laws.proofs.Reached.{known_module}
use Rattle.ground_net.specs.declared.circuit.GroundMemory.{GroundMemory}
use Rattle.ground_net.specs.declared.net.NetMemory.{NetMemory}
use Rattle.ground_net.specs.declared.net.NetPort.{NetPort}
use Rattle.net_of_circuit.specs.FlatOrder.{Placed, all_memories, memory_in}
use Rattle.net_of_circuit.specs.NetOf.{Names, IsPortOf, IsMemoryOf}
use Rattle.net_laws.proofs.Rows.{leaves_of as entries_of}
use Rattle.net_laws.proofs.Lists.{below_length, map_at, in_list}
use Rattle.lowering_laws.proofs.Heights.{some_same, none_some}
use Rattle.lowering_laws.proofs.Parts.{item}
use Rattle.lowering_laws.proofs.Whole.{Setting, design, texts, placed, lists}
use Rattle.lowering_laws.proofs.Stores.{store_at, memory_is, memories_counted}
use Rattle.lowering_laws.proofs.Drivers.{all}
use Rattle.assembly_laws.proofs.ListPlaces.{off, off_at}
use Rattle.assembly_laws.proofs.Bundles.{fields_of, twice, place_in, place_is}

-- a memory of the flat circuit as one of a net, whose words are not counted
abbrev pub as_net : GroundMemory → NetMemory
as_net memory = record { name = memory.name; before = memory.first; depth = memory.depth; word = 0; elements = memory.elements; ports = memory.ports }

pub memory_in_same : (p : Placed) (sort : Sort) (b : Placed × Memory) → memory_in p sort ≡ Some b → p ≡ b.0
memory_in_same p (A_memory memory) b e = ap (λ (x : Placed × Memory). x.0) (some_same e)
memory_in_same p An_input b e = none_some e
memory_in_same p An_output b e = none_some e
memory_in_same p A_wire b e = none_some e
memory_in_same p (A_register clock) b e = none_some e
memory_in_same p (A_reset_register clock reset init) b e = none_some e
memory_in_same p (An_instance target) b e = none_some e
memory_in_same p (A_node expr) b e = none_some e

-- a leaf of the run of a component
abbrev pub make_flat : Placed → List PathStep → FlatLeaf
make_flat p way = record { path = p.path; component = p.c.declaration.name; way = way }

module _ (z : Setting) where
  -- A memory of the flat circuit is this one of the circuit.
  pub record Held (memory : GroundMemory) (b : Placed × Memory) : Type 0 where
    pub at : ℕ
    pub stands : slice_get (placed z) at ≡ Some b.0
    pub sort : b.0.c.declaration.sort ≡ A_memory b.1
    pub element : FirType
    pub of : IsMemoryOf (texts z) (placed z) b.0 b.1 element (as_net memory)

  pub held : (m : ℕ) (memory : GroundMemory) (b : Placed × Memory) → slice_get z.flat.memories m ≡ Some memory → slice_get (all_memories (placed z)) m ≡ Some b → Held memory b
  held m memory b there listed =
      let store = store_at z m b listed in
      let same : memory ≡ store.memory = some_same (sym there ∙ store.there) in
      record { at = store.at; stands = store.stands; sort = store.sort; element = store.is.element; of = memory_is z m b store (as_net memory) same }

  -- which one it is
  pub listed_at : (m : ℕ) (memory : GroundMemory) → slice_get z.flat.memories m ≡ Some memory → (b : Placed × Memory) × (slice_get (all_memories (placed z)) m ≡ Some b)
  listed_at m memory there = item (all_memories (placed z)) m (subst (λ n. m < n) (memories_counted z) (below_length z.flat.memories m memory there))

  module _ (memory : GroundMemory) (b : Placed × Memory) (h : Held memory b) where
    pub located : (module_at (design z) b.0.path ≡ Some b.0.m) × (component_named b.0.m b.0.c.declaration.name ≡ Some b.0.c)
    located = let L = lists z in L.components h.at b.0 h.stands

    pub module_is : IsKnownModule z.fitted b.0.m
    module_is = known_module z.fitted z.well b.0.path b.0.m located.0

    pub among : Contains b.0.m.components b.0.c
    among = (component_found b.0.m b.0.c.declaration.name b.0.c located.1).1

    -- leaves of elements are not flipped
    pub unflipped : (k : ℕ) (l : TypeLeaf) → slice_get (leaves h.element) k ≡ Some l → l.flip ≡ false
    unflipped k l e = module_is.typed.stored_passive b.0.c b.1 h.element l among h.sort h.of.is_element (in_list (leaves h.element) k l e)

    -- the port of the text that a port of the flat memory is
    pub port_of : (q : ℕ) (np : NetPort) → slice_get memory.ports q ≡ Some np → (port : MemoryPort) × (slice_get (memory_ports b.1) q ≡ Some port) × IsPortOf (all z) b.0 b.1 h.element port np
    port_of q np e =
        let port = item (memory_ports b.1) q (subst (λ n. q < n) h.of.all_ports (below_length memory.ports q np e)) in
        (port.0, port.1, h.of.ports q port.0 np port.1 e)

    module _ (at : ℕ) (stands : slice_get (placed z) at ≡ Some b.0) (q i k : ℕ) (port : MemoryPort) (f : Field) (l : TypeLeaf) (port_there : slice_get (memory_ports b.1) q ≡ Some port)
        (field_there : slice_get (fields_of h.element (depth_of b.1) port) i ≡ Some f) (leaf_there : slice_get (leaves f.typ) k ≡ Some l) where
      -- the place of a leaf of a port among the memory's
      pub place_within : slice_get (leaves b.0.c.typ) (place_in b.1 h.element port q i k) ≡ Some (twice port.name f l)
      place_within = place_is b.1 h.element (leaves b.0.c.typ) h.of.is_element.bundle q i k port f l port_there field_there leaf_there

      leaf_place : slice_get (all z) (off entries_of (placed z) at + place_in b.1 h.element port q i k) ≡ Some (b.0, twice port.name f l)
      leaf_place = off_at entries_of (placed z) at (place_in b.1 h.element port q i k) b.0 (b.0, twice port.name f l) stands
          (map_at (λ leaf. (b.0, leaf)) (leaves b.0.c.typ) (place_in b.1 h.element port q i k) (twice port.name f l) place_within)

      -- and its number in the flat circuit
      pub named_place : (x : ℕ) → Names (all z) b.0 (step.Field port.name ∷ step.Field f.name.id ∷ l.path) x → x ≡ off entries_of (placed z) at + place_in b.1 h.element port q i k
      named_place x names =
          let L = lists z in
          let same : make_flat b.0 names.leaf.path ≡ make_flat b.0 (step.Field port.name ∷ step.Field f.name.id ∷ l.path) = ap (make_flat b.0) names.is in
          L.once x (off entries_of (placed z) at + place_in b.1 h.element port q i k) (b.0, names.leaf) (b.0, twice port.name f l) names.there leaf_place same

      pub named_leaf : (x : ℕ) → Names (all z) b.0 (step.Field port.name ∷ step.Field f.name.id ∷ l.path) x → slice_get (all z) x ≡ Some (b.0, twice port.name f l)
      named_leaf x names = ap (slice_get (all z)) (named_place x names) ∙ leaf_place
