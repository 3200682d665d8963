-- The leaves that show what ports read stand in flat order.
use Rattle.std.proofs.Common.{◌≡◌, ℕ, ◌+◌, ◌<◌, ◌≤◌, List, length, Option, Some, None, refl, sym, ap, ◌∙◌, subst, arith}
use Rattle.std.specs.List.{slice_get, flat_map}
use Rattle.fir_types.specs.declared.memory.Memory.{Memory}
use Rattle.fir_types.specs.Leaves.{leaves}
use Rattle.fir_types.specs.Memories.{depth_of}
use Rattle.fir_types.specs.Bundles.{flipped_field}
use Rattle.fir_meaning.specs.MemoryPorts.{MemoryPort, memory_ports}
use Rattle.ground_net.specs.Cones.{numbered}
use Rattle.ground_net.specs.declared.circuit.GroundMemory.{GroundMemory}
use Rattle.ground_net.specs.declared.net.NetPort.{NetPort}
use Rattle.ground_net.specs.declared.net.NetRead.{NetRead}
use Rattle.net_of_circuit.specs.FlatOrder.{Placed, memory_in}
use Rattle.net_of_circuit.specs.NetOf.{may_read, read_field}
use Rattle.net_laws.proofs.Rows.{leaves_of as entries_of}
use Rattle.memory_ports.specs.Placing.{Shows, data_of, reads_of_port, reads_of}
use Rattle.net_laws.proofs.Lists.{below_length, from_map_at, map_at}
use Rattle.lowering_laws.proofs.Heights.{some_same, none_some}
use Rattle.lowering_laws.proofs.Parts.{item}
use Rattle.lowering_laws.proofs.Matching.{map_counted}
use Rattle.lowering_laws.proofs.Whole.{Setting, placed}
use Rattle.assembly_laws.proofs.ListPlaces.{off, off_at, off_below, numbered_parts, TwoPicked, two_picked, from_flat, KeysRise, flat_rises}
use Rattle.assembly_laws.proofs.Bundles.{fields_of, part_leaves, port_leaves, place_in, twice, read_there}
use Rattle.assembly_laws.proofs.Stored.{Held, held, listed_at, port_of, place_within, named_place, memory_in_same}
use Rattle.assembly_laws.proofs.PortsSound.{allowed}

abbrev pub leaf_shown : Shows → ℕ
leaf_shown s = s.0

-- an item of what a port reads
shows_leaf : (m : ℕ) (np : NetPort) (o : Option NetRead) (k : ℕ) (s : Shows) → slice_get (reads_of_port m np o) k ≡ Some s → (r : NetRead) × (o ≡ Some r) × (slice_get r.leaves k ≡ Some s.0)
shows_leaf m np None k s e = none_some e
shows_leaf m np (Some r) k s e =
    let q = from_map_at (λ (both : ℕ × ℕ). (both.1, data_of m both.0 np r)) (numbered r.leaves) k s e in
    let parts = numbered_parts r.leaves k q.0 q.1 in
    (r, refl, parts.1 ∙ ap (λ (w : Shows). Some w.0) q.2)

-- what a memory's ports read
abbrev pub of_memory : ℕ × GroundMemory → List Shows
of_memory both = flat_map (λ port. reads_of_port both.0 port port.read) both.1.ports

module _ (z : Setting) where
  module _ (m : ℕ) (memory : GroundMemory) (b : Placed × Memory) (h : Held z memory b) (at : ℕ) (stands : slice_get (placed z) at ≡ Some b.0) where
    abbrev base : ℕ
    base = off entries_of (placed z) at

    -- Where a leaf that a port shows stands.
    record ShownAt (q k : ℕ) (s : Shows) : Type 0 where
      port : MemoryPort
      port_there : slice_get (memory_ports b.1) q ≡ Some port
      place : s.0 ≡ base + place_in b.1 h.element port q 3 k
      within : place_in b.1 h.element port q 3 k < length (leaves b.0.c.typ)
      inside : off (part_leaves port.name) (fields_of h.element (depth_of b.1) port) 3 + k < length (port_leaves h.element (depth_of b.1) port)

    shown_at : (q k : ℕ) (np : NetPort) (s : Shows) → slice_get memory.ports q ≡ Some np → slice_get (reads_of_port m np np.read) k ≡ Some s → ShownAt q k s
    shown_at q k np s e g =
        let port = port_of z memory b h q np e in
        let of = port.2 in
        let r = shows_leaf m np np.read k s g in
        let may = allowed (may_read port.0.mode) np.read r.0 of.no_read r.1 in
        let own = of.read may in
        let x_there : slice_get own.0.leaves k ≡ Some s.0 = ap (λ (u : NetRead). slice_get u.leaves k) (some_same (sym own.1 ∙ r.1)) ∙ r.2 in
        let l = item (leaves h.element) k (subst (λ n. k < n) own.2.counted (below_length own.0.leaves k s.0 x_there)) in
        let field = read_there h.element (depth_of b.1) port.0 port.0.mode refl may in
        let f = flipped_field port.0.place (read_field port.0.mode) h.element in
        let within = place_within z memory b h at stands q 3 k port.0 f l.0 port.1 field l.1 in
        record {
          port = port.0;
          port_there = port.1;
          place = named_place z memory b h at stands q 3 k port.0 f l.0 port.1 field l.1 s.0 (own.2.each k s.0 l.0 x_there l.1);
          within = below_length (leaves b.0.c.typ) (place_in b.1 h.element port.0 q 3 k) (twice port.0.name f l.0) within;
          inside = below_length (port_leaves h.element (depth_of b.1) port.0) (off (part_leaves port.0.name) (fields_of h.element (depth_of b.1) port.0) 3 + k) (twice port.0.name f l.0)
              (off_at (part_leaves port.0.name) (fields_of h.element (depth_of b.1) port.0) 3 k f (twice port.0.name f l.0) field (map_at (twice port.0.name f) (leaves f.typ) k l.0 l.1));
        }

    one_port : (q : ℕ) (np : NetPort) → slice_get memory.ports q ≡ Some np → KeysRise leaf_shown (reads_of_port m np np.read)
    one_port q np e i j s t l f g =
        let u = shown_at q i np s e f in
        let v = shown_at q j np t e g in
        let same : v.port ≡ u.port = some_same (sym v.port_there ∙ u.port_there) in
        let p : s.0 ≡ base + place_in b.1 h.element u.port q 3 i = u.place in
        let r : t.0 ≡ base + place_in b.1 h.element u.port q 3 j = v.place ∙ ap (λ w. base + place_in b.1 h.element w q 3 j) same in
        omega (arith, p, r, l)

    two_ports : (q r : ℕ) (np np' : NetPort) → q < r → slice_get memory.ports q ≡ Some np → slice_get memory.ports r ≡ Some np' → (k j : ℕ) (s t : Shows) → slice_get (reads_of_port m np np.read) k ≡ Some s
        → slice_get (reads_of_port m np' np'.read) j ≡ Some t → s.0 < t.0
    two_ports q r np np' l e e' k j s t f g =
        let u = shown_at q k np s e f in
        let v = shown_at r j np' t e' g in
        let below = off_below (port_leaves h.element (depth_of b.1)) (memory_ports b.1) q r u.port l u.port_there in
        let p = u.place in
        let w = v.place in
        let inside = u.inside in
        omega (arith, below, p, w, inside)

    one_memory : KeysRise leaf_shown (of_memory (m, memory))
    one_memory = flat_rises leaf_shown (λ port. reads_of_port m port port.read) memory.ports one_port two_ports

    -- all of it stands within the memory's leaves
    within_memory : (k : ℕ) (s : Shows) → slice_get (of_memory (m, memory)) k ≡ Some s → (base ≤ s.0) × (s.0 < base + length (entries_of b.0))
    within_memory k s e =
        let r = from_flat (λ port. reads_of_port m port port.read) memory.ports k s e in
        let u = shown_at r.0 r.2 r.1 s r.3 r.4 in
        let p = u.place in
        let within = u.within in
        let counted : length (entries_of b.0) ≡ length (leaves b.0.c.typ) = map_counted (λ leaf. (b.0, leaf)) (leaves b.0.c.typ) in
        (omega (arith, p), omega (arith, p, within, counted))

  each_memory : (q : ℕ) (both : ℕ × GroundMemory) → slice_get (numbered z.flat.memories) q ≡ Some both → KeysRise leaf_shown (of_memory both)
  each_memory q both e =
      let parts = numbered_parts z.flat.memories q both e in
      let b = listed_at z q both.1 parts.1 in
      let h = held z q both.1 b.0 parts.1 b.1 in
      one_memory both.0 both.1 b.0 h h.at h.stands

  two_memories : (q r : ℕ) (both other : ℕ × GroundMemory) → q < r → slice_get (numbered z.flat.memories) q ≡ Some both → slice_get (numbered z.flat.memories) r ≡ Some other → (k j : ℕ) (s t : Shows)
      → slice_get (of_memory both) k ≡ Some s → slice_get (of_memory other) j ≡ Some t → s.0 < t.0
  two_memories q r both other l e e' k j s t f g =
      let parts = numbered_parts z.flat.memories q both e in
      let parts' = numbered_parts z.flat.memories r other e' in
      let b = listed_at z q both.1 parts.1 in
      let c = listed_at z r other.1 parts'.1 in
      let two : TwoPicked (λ (p : Placed). memory_in p p.c.declaration.sort) (placed z) b.0 c.0 = two_picked (λ (p : Placed). memory_in p p.c.declaration.sort) (placed z) q r b.0 c.0 l b.1 c.1 in
      let first : slice_get (placed z) two.first ≡ Some b.0.0 = two.x_there ∙ ap Some (memory_in_same two.x two.x.c.declaration.sort b.0 two.x_is) in
      let second : slice_get (placed z) two.second ≡ Some c.0.0 = two.y_there ∙ ap Some (memory_in_same two.y two.y.c.declaration.sort c.0 two.y_is) in
      let u = within_memory both.0 both.1 b.0 (held z q both.1 b.0 parts.1 b.1) two.first first k s f in
      let v = within_memory other.0 other.1 c.0 (held z r other.1 c.0 parts'.1 c.1) two.second second j t g in
      let below = off_below entries_of (placed z) two.first two.second b.0.0 two.less first in
      let upper = u.1 in
      let lower = v.0 in
      omega (arith, below, upper, lower)

  -- The leaves that show what ports read stand in flat order.
  pub reads_rise : (i j : ℕ) (read later : Shows) → i < j → slice_get (reads_of z.flat.memories) i ≡ Some read → slice_get (reads_of z.flat.memories) j ≡ Some later → read.0 < later.0
  reads_rise = flat_rises leaf_shown of_memory (numbered z.flat.memories) each_memory two_memories
