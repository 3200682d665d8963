-- The next state of the net is that of the circuit.
use Rattle.std.proofs.Common.{◌≡◌, ℕ, zero, suc, ◌==◌, ◌<◌, ◌&&◌, not, Bool, true, false, List, [], ◌∷◌, length, Some, None, option_map, option_and_then, ℤ, pos, unsigned_abs, int_eq, nat_lt, refl, sym, ap, ap₂, ◌∙◌, subst, arith, true≢false, if◌then◌else◌}
use Rattle.std.specs.Prelude.{Contains}
use Rattle.std.specs.List.{slice_get, cons_option}
use Rattle.bit_words.specs.Values.{integer_of}
use Rattle.fir_types.specs.declared.fir_type.FirType.{FirType}
use Rattle.fir_types.specs.declared.leaf.TypeLeaf.{TypeLeaf}
use Rattle.fir_types.specs.declared.leaf.PathStep.{PathStep}
use Rattle.fir_types.specs.declared.leaf.PathStep.TheVariants as step
use Rattle.fir_types.specs.declared.memory.Memory.{Memory}
use Rattle.fir_types.specs.declared.memory.PortMode.{PortMode}
use Rattle.fir_types.specs.declared.memory.PortMode.TheVariants as mode
use Rattle.fir_types.specs.declared.memory.Under.{Under}
use Rattle.fir_types.specs.declared.memory.Under.TheVariants as under
use Rattle.fir_types.specs.Leaves.{leaves}
use Rattle.fir_types.specs.Memories.{depth_of, under_of}
use Rattle.fir_types.specs.Bundles.{addr_name, en_name, wmode_name}
use Rattle.prim_ops.specs.Ports.{Held as Contents, Shown, after_port, after_ports, read_by_port, set_to_write, set_to_read}
use Rattle.fir_tree.specs.LeafNames.{Texts}
use Rattle.fir_meaning.specs.Components.{Design, TypedModule, Component, Sort, An_input, An_output, A_wire, A_register, A_reset_register, A_memory, An_instance, A_node, flat_through, component_named, target_of, target_in, module_at}
use Rattle.fir_meaning.specs.Values.{Valuation, scene_of}
use Rattle.fir_meaning.specs.MemoryPorts.{MemoryPort, memory_ports, port_named, field, written_field, mask_field, asks_to_write, asks_to_read}
use Rattle.fir_meaning.specs.MemoryPorts as tree_ports
use Rattle.fir_meaning.specs.States.{State, Inputs, Stands, leaf_of, located, where_located}
use Rattle.fir_meaning.specs.States as tree
use Rattle.fir_meaning.proofs.Settling.{at, local, local_at, flat_none}
use Rattle.ground_net.specs.declared.net.Role.TheVariants as role
use Rattle.ground_net.specs.declared.net.Net.{Net}
use Rattle.ground_net.specs.declared.net.NetMemory.{NetMemory}
use Rattle.ground_net.specs.declared.net.NetPort.{NetPort}
use Rattle.ground_net.specs.declared.net.NetRead.{NetRead}
use Rattle.ground_net.specs.Grounds.{Instant}
use Rattle.ground_net.specs.Cycles.{NetState, Capture, instant_of, captures, is_set, integer_at, is_set_at, written_leaf, mask_leaf, where_it_writes, where_it_reads}
use Rattle.ground_net.specs.Cycles as cycle
use Rattle.ground_net.specs.Nets.{IsNet, HasRole}
use Rattle.ground_net.proofs.Ranges.{ComesFrom, capture_from}
use Rattle.net_of_circuit.specs.FlatOrder.{Placed, Standing, all_leaves, all_memories, memory_in, ListsLeaves}
use Rattle.net_of_circuit.specs.NetOf.{IsSeen, IsNetWith, MatchingState, Names, NameAll, IsPortOf, IsMemoryOf, may_write, may_read, has_mode, read_field, is_new, seen_valuation}
use Rattle.net_laws.specs.Typed.{IsTyped}
use Rattle.net_laws.proofs.Numbers.{some_same, none_some, below_length, valuation_at}

-- What a port shows of a leaf of the element in the circuit and in the net.
record Agrees (way : List PathStep) (k : ℕ) (a : Shown (List PathStep)) (b : Shown ℕ) : Type 0 where
  writes : a.writes ≡ b.writes
  address : a.address ≡ b.address
  written : a.writes ≡ true → a.written way ≡ b.written k
  masked : a.writes ≡ true → a.masked way ≡ b.masked k

after_one : (depth : ℕ) (way : List PathStep) (k : ℕ) (a : Shown (List PathStep)) (b : Shown ℕ) → Agrees way k a b → (held : Contents (List PathStep)) (other : Contents ℕ)
    → ((element : ℕ) → held element way ≡ other element k) → (element : ℕ) → after_port depth held a element way ≡ after_port depth other b element k
after_one depth way k a b agrees held other same element = by a.writes refl where
  by : (w : Bool) → a.writes ≡ w → after_port depth held a element way ≡ after_port depth other b element k
  by true e =
      let writes : b.writes ≡ true = sym agrees.writes ∙ e in
      let address = agrees.address in
      let written = agrees.written e in
      let masked = agrees.masked e in
      let before = same element in
      ap (λ w. if (w && nat_lt a.address depth) && ((a.address == element) && a.masked way) then a.written way else held element way) e
      ∙ (ap (λ x. if nat_lt x depth && ((x == element) && a.masked way) then a.written way else held element way) address
      ∙ (ap (λ m. if nat_lt b.address depth && ((b.address == element) && m) then a.written way else held element way) masked
      ∙ (ap₂ (λ w h. if nat_lt b.address depth && ((b.address == element) && b.masked k) then w else h) written before
      ∙ sym (ap (λ w. if (w && nat_lt b.address depth) && ((b.address == element) && b.masked k) then b.written k else other element k) writes))))
  by false e =
      let writes : b.writes ≡ false = sym agrees.writes ∙ e in
      ap (λ w. if (w && nat_lt a.address depth) && ((a.address == element) && a.masked way) then a.written way else held element way) e
      ∙ (same element
      ∙ sym (ap (λ w. if (w && nat_lt b.address depth) && ((b.address == element) && b.masked k) then b.written k else other element k) writes))

-- port by port
after_all : (depth : ℕ) (way : List PathStep) (k : ℕ) (show : MemoryPort → Shown (List PathStep)) (shows : NetPort → Shown ℕ) (ports : List MemoryPort) (others : List NetPort)
    → length others ≡ length ports
    → ((q : ℕ) (port : MemoryPort) (np : NetPort) → slice_get ports q ≡ Some port → slice_get others q ≡ Some np → Agrees way k (show port) (shows np))
    → (held : Contents (List PathStep)) (other : Contents ℕ) → ((element : ℕ) → held element way ≡ other element k)
    → (element : ℕ) → after_ports depth show ports held element way ≡ after_ports depth shows others other element k
after_all depth way k show shows [] [] n each held other same element = same element
after_all depth way k show shows [] (np ∷ others) n each held other same element = absurd (omega arith)
after_all depth way k show shows (port ∷ ports) [] n each held other same element = absurd (omega arith)
after_all depth way k show shows (port ∷ ports) (np ∷ others) n each held other same element =
    let shorter : length others ≡ length ports = omega arith in
    after_all depth way k show shows ports others shorter (λ q a b e f. each (suc q) a b e f) (after_port depth held (show port)) (after_port depth other (shows np))
    (after_one depth way k (show port) (shows np) (each 0 port np refl refl) held other same) element

located_is : (design : Design) (path : List ℕ) (name : ℕ) (m : TypedModule) (c : Component) → module_at design path ≡ Some m → component_named m name ≡ Some c → located design path name ≡ Some (m, c)
located_is design path name m c reached declared =
    ap (option_and_then (λ m. option_map (λ c. (m, c)) (component_named m name))) reached ∙ ap (option_map (λ c. (m, c))) declared

in_list_at : {A : Type 0} (xs : List A) (k : ℕ) (x : A) → slice_get xs k ≡ Some x → Contains xs x
in_list_at [] k x e = none_some e
in_list_at (a ∷ xs) zero x e = (0, omega arith, some_same e)
in_list_at (a ∷ xs) (suc k) x e = let rest = in_list_at xs k x e in (suc rest.0, omega arith, rest.2)

item : {A : Type 0} (xs : List A) (k : ℕ) → k < length xs → (x : A) × (slice_get xs k ≡ Some x)
item [] k h = absurd (omega arith)
item (x ∷ xs) zero h = (x, refl)
item (x ∷ xs) (suc k) h = item xs k (omega arith)

module _ (texts : Texts) (design : Design) (placed : List Placed) (elements : List FirType) (net : Net) (is : IsNetWith texts design placed elements net) (well : IsNet net) (lists : ListsLeaves design placed) (typed : IsTyped design)
    (s : State) (t : NetState) (rho : cycle.Valuation) (seen_is : IsSeen placed elements net s t rho) where
  abbrev tree_rho : Valuation
  tree_rho = seen_valuation placed net t rho

  abbrev instant : Instant
  instant = instant_of net t rho

  -- A memory of the run, and its leaves
  module _ (p : Placed) (memory : Memory) (sort : p.c.declaration.sort ≡ A_memory memory) (reached : module_at design p.path ≡ Some p.m) (declared : component_named p.m p.c.declaration.name ≡ Some p.c) where
    abbrev shows : List PathStep → ℤ
    shows = local p.m p.path tree_rho p.c.declaration.name

    none : target_of p.m p.c.declaration.name ≡ None
    none = ap (option_and_then (λ x. target_in x.declaration.sort)) declared ∙ ap target_in sort

    named : (way : List PathStep) (x : ℕ) → Names (all_leaves placed) p way x → shows way ≡ integer_of (rho x)
    named way x n =
        local_at p.m p.path tree_rho (record { component = p.c.declaration.name; way = way })
        ∙ (ap (at tree_rho) (ap (λ o. flat_through p.path p.c.declaration.name o way) none ∙ flat_none p.path p.c.declaration.name way)
        ∙ (ap (tree_rho p.path p.c.declaration.name) (sym n.is) ∙ valuation_at design placed lists instant x (p, n.leaf) n.there))

    set_at : (way : List PathStep) (x : ℕ) → Names (all_leaves placed) p way x → int_eq (shows way) (pos 1) ≡ is_set instant x
    set_at way x n = ap (λ i. int_eq i (pos 1)) (named way x n)

    -- A port
    module _ (element : FirType) (port : MemoryPort) (np : NetPort) (of : IsPortOf (all_leaves placed) p memory element port np) where
      address_same : tree_ports.address shows port ≡ unsigned_abs (integer_of (instant.leaf np.addr))
      address_same = ap unsigned_abs (named (step.Field port.name ∷ step.Field addr_name ∷ []) np.addr of.addr)

      en_same : tree_ports.is_set shows port en_name ≡ is_set instant np.en
      en_same = set_at (step.Field port.name ∷ step.Field en_name ∷ []) np.en of.en

      mode_same : (x : ℕ) → Names (all_leaves placed) p (step.Field port.name ∷ step.Field wmode_name ∷ []) x → tree_ports.is_set shows port wmode_name ≡ is_set instant x
      mode_same x n = set_at (step.Field port.name ∷ step.Field wmode_name ∷ []) x n

      writes_same : (md : PortMode) → port.mode ≡ md → asks_to_write shows port md ≡ where_it_writes np.write (set_to_write (is_set instant np.en) (option_map (is_set instant) np.mode))
      writes_same mode.Reader e = sym (ap (λ o. where_it_writes o (set_to_write (is_set instant np.en) (option_map (is_set instant) np.mode))) (of.no_write (ap may_write e)))
      writes_same mode.Writer e =
          let w = of.write (ap may_write e) in
          en_same ∙ sym (ap₂ (λ o m. where_it_writes o (set_to_write (is_set instant np.en) (option_map (is_set instant) m))) w.1 (of.no_mode (ap has_mode e)))
      writes_same mode.ReadWriter e =
          let w = of.write (ap may_write e) in
          let m = of.mode (ap has_mode e) in
          ap₂ (λ a b. a && b) en_same (mode_same m.0 m.2)
          ∙ sym (ap₂ (λ o m. where_it_writes o (set_to_write (is_set instant np.en) (option_map (is_set instant) m))) w.1 m.1)

      reads_same : (md : PortMode) → port.mode ≡ md → asks_to_read shows port md ≡ where_it_reads np.read (set_to_read (is_set instant np.en) (option_map (is_set instant) np.mode))
      reads_same mode.Writer e = sym (ap (λ o. where_it_reads o (set_to_read (is_set instant np.en) (option_map (is_set instant) np.mode))) (of.no_read (ap may_read e)))
      reads_same mode.Reader e =
          let r = of.read (ap may_read e) in
          en_same ∙ sym (ap₂ (λ o m. where_it_reads o (set_to_read (is_set instant np.en) (option_map (is_set instant) m))) r.1 (of.no_mode (ap has_mode e)))
      reads_same mode.ReadWriter e =
          let r = of.read (ap may_read e) in
          let m = of.mode (ap has_mode e) in
          ap₂ (λ a b. a && not b) en_same (mode_same m.0 m.2)
          ∙ sym (ap₂ (λ o m. where_it_reads o (set_to_read (is_set instant np.en) (option_map (is_set instant) m))) r.1 m.1)

      writer : (md : PortMode) → port.mode ≡ md → asks_to_write shows port md ≡ true → may_write port.mode ≡ true
      writer mode.Reader e w = absurd (true≢false (sym w))
      writer mode.Writer e w = ap may_write e
      writer mode.ReadWriter e w = ap may_write e

      -- leaf k of the element
      listed_number : (name : ℕ) (numbers : List ℕ) → NameAll (all_leaves placed) p port.name name element numbers → (k : ℕ) (leaf : TypeLeaf) → slice_get (leaves element) k ≡ Some leaf
          → (x : ℕ) × (slice_get numbers k ≡ Some x) × Names (all_leaves placed) p (step.Field port.name ∷ step.Field name ∷ leaf.path) x
      listed_number name numbers all k leaf e =
          let x = item numbers k (subst (λ n. k < n) (sym all.counted) (below_length (leaves element) k leaf e)) in
          (x.0, x.1, all.each k x.0 leaf x.1 e)

      port_agrees : (k : ℕ) (leaf : TypeLeaf) → slice_get (leaves element) k ≡ Some leaf → Agrees leaf.path k (tree_ports.shown shows port) (cycle.shown instant np)
      port_agrees k leaf e = record {
        writes = writes_same port.mode refl;
        address = address_same;
        written = λ w.
            let writes = of.write (writer port.mode refl w) in
            let x = listed_number (written_field port.mode) writes.0.leaves writes.2 k leaf e in
            named (step.Field port.name ∷ step.Field (written_field port.mode) ∷ leaf.path) x.0 x.2
            ∙ sym (ap (λ o. integer_at instant (written_leaf o k)) writes.1 ∙ ap (integer_at instant) x.1);
        masked = λ w.
            let writes = of.write (writer port.mode refl w) in
            let x = listed_number (mask_field port.mode) writes.0.masks writes.3 k leaf e in
            set_at (step.Field port.name ∷ step.Field (mask_field port.mode) ∷ leaf.path) x.0 x.2
            ∙ sym (ap (λ o. is_set_at instant (mask_leaf o k)) writes.1 ∙ ap (is_set_at instant) x.1);
      }

    -- What the memory holds after the writes.
    after_same : (element : FirType) (nm : NetMemory) → IsMemoryOf texts placed p memory element nm → (k : ℕ) (leaf : TypeLeaf) → slice_get (leaves element) k ≡ Some leaf
        → (held : Contents (List PathStep)) (other : Contents ℕ) → ((at : ℕ) → held at leaf.path ≡ other at k)
        → (at : ℕ) → tree_ports.after_writes memory shows held at leaf.path ≡ cycle.next_of_memory instant (Some nm) other at k
    after_same element nm of k leaf e held other same at =
        after_all (depth_of memory) leaf.path k (tree_ports.shown shows) (cycle.shown instant) (memory_ports memory) nm.ports of.all_ports
        (λ q port np f g. port_agrees element port np (of.ports q port np f g) k leaf e) held other same at
        ∙ ap (λ d. after_ports d (cycle.shown instant) nm.ports other at k) (sym of.depth)

  -- Registers: they show what they hold.
  registers_next : ((x n : ℕ) → HasRole net x (role.Register n) → integer_of (rho x) ≡ t.registers n) → (x n : ℕ) (y : Standing) → slice_get (all_leaves placed) x ≡ Some y → HasRole net x (role.Register n)
      → (tree.next design s tree_rho).registers y.0.path y.0.c.declaration.name y.1.path ≡ (cycle.next net t instant).registers n
  registers_next shown x n y e held =
      let stands = (lists.stands x y e).0 in
      let place = located_is design y.0.path y.0.c.declaration.name y.0.m y.0.c stands.reached stands.declared in
      let before : ℤ = s.registers y.0.path y.0.c.declaration.name y.1.path in
      let register = well.registers x n held in
      let value : integer_of (rho register.0.leaf) ≡ t.registers n = ap (λ z. integer_of (rho z)) register.2 ∙ shown x n held in
      let same : before ≡ integer_of (rho register.0.leaf) = seen_is.states.registers x n y e held ∙ sym value in
      ap (where_located before (λ found. tree.next_of_register (scene_of found.0 y.0.path tree_rho) found.1 found.1.declaration.sort y.1.path before)) place
      ∙ (ap (tree.next_of_register (scene_of y.0.m y.0.path tree_rho) y.0.c y.0.c.declaration.sort y.1.path) same
      ∙ (is.registers n register.0 y s t rho register.1 (ap (slice_get (all_leaves placed)) register.2 ∙ e) seen_is
      ∙ ap₂ (cycle.next_of_register net instant) (sym register.1) value))

  -- Memories
  memory_placed : (m : ℕ) (p : Placed) (memory : Memory) → slice_get (all_memories placed) m ≡ Some (p, memory) → (k : ℕ) × (slice_get placed k ≡ Some p) × (p.c.declaration.sort ≡ A_memory memory)
  memory_placed m p memory e = from placed m e where
    head : (q : Placed) (rest : List Placed) (m : ℕ) (sort : Sort) → q.c.declaration.sort ≡ sort → slice_get (cons_option (memory_in q sort) (all_memories rest)) m ≡ Some (p, memory)
        → ((j : ℕ) → slice_get (all_memories rest) j ≡ Some (p, memory) → (k : ℕ) × (slice_get rest k ≡ Some p) × (p.c.declaration.sort ≡ A_memory memory))
        → (k : ℕ) × (slice_get (q ∷ rest) k ≡ Some p) × (p.c.declaration.sort ≡ A_memory memory)
    head q rest zero (A_memory held) sort e onward =
        let both = some_same e in
        (0, ap Some (ap (λ b. b.0) both), subst (λ r. r.c.declaration.sort ≡ A_memory memory) (ap (λ b. b.0) both) (sort ∙ ap A_memory (ap (λ b. b.1) both)))
    head q rest (suc m) (A_memory held) sort e onward = let r = onward m e in (suc r.0, r.1, r.2)
    head q rest m An_input sort e onward = let r = onward m e in (suc r.0, r.1, r.2)
    head q rest m An_output sort e onward = let r = onward m e in (suc r.0, r.1, r.2)
    head q rest m A_wire sort e onward = let r = onward m e in (suc r.0, r.1, r.2)
    head q rest m (A_register clock) sort e onward = let r = onward m e in (suc r.0, r.1, r.2)
    head q rest m (A_reset_register clock reset init) sort e onward = let r = onward m e in (suc r.0, r.1, r.2)
    head q rest m (An_instance target) sort e onward = let r = onward m e in (suc r.0, r.1, r.2)
    head q rest m (A_node expr) sort e onward = let r = onward m e in (suc r.0, r.1, r.2)

    from : (ps : List Placed) (m : ℕ) → slice_get (all_memories ps) m ≡ Some (p, memory) → (k : ℕ) × (slice_get ps k ≡ Some p) × (p.c.declaration.sort ≡ A_memory memory)
    from [] m e = none_some e
    from (q ∷ rest) m e = head q rest m q.c.declaration.sort refl e (from rest)

  net_memory : (m : ℕ) (p : Placed) (memory : Memory) → slice_get (all_memories placed) m ≡ Some (p, memory) → (nm : NetMemory) × (element : FirType) × (slice_get net.memories m ≡ Some nm) × (slice_get elements m ≡ Some element)
  net_memory m p memory e =
      let below = below_length (all_memories placed) m (p, memory) e in
      let nm = item net.memories m (subst (λ n. m < n) (sym is.all_memories_there) below) in
      let element = item elements m (subst (λ n. m < n) (sym is.all_elements_there) below) in
      (nm.0, element.0, nm.1, element.1)

  contents_next : (m at k : ℕ) (p : Placed) (memory : Memory) (typ : FirType) (leaf : TypeLeaf) → slice_get (all_memories placed) m ≡ Some (p, memory)
      → slice_get elements m ≡ Some typ → slice_get (leaves typ) k ≡ Some leaf
      → (tree.next design s tree_rho).contents p.path p.c.declaration.name at leaf.path ≡ (cycle.next net t instant).contents m at k
  contents_next m at k p memory typ leaf e f g =
      let in_list = memory_placed m p memory e in
      let there = lists.components in_list.0 p in_list.1 in
      let place = located_is design p.path p.c.declaration.name p.m p.c there.0 there.1 in
      let nm = net_memory m p memory e in
      let held : Contents (List PathStep) = s.contents p.path p.c.declaration.name in
      ap (λ o. where_located held (λ found. tree.next_of_memory (scene_of found.0 p.path tree_rho) found.1 found.1.declaration.sort held) o at leaf.path) place
      ∙ (ap (λ sort. tree.next_of_memory (scene_of p.m p.path tree_rho) p.c sort held at leaf.path) in_list.2
      ∙ (after_same p memory in_list.2 there.0 there.1 typ nm.0 (is.memories m p memory typ nm.0 e f nm.2) k leaf g held (t.contents m)
      (λ i. seen_is.states.contents m i k p memory typ leaf e f g) at
      ∙ sym (ap (λ o. cycle.next_of_memory instant o (t.contents m) at k) nm.2)))

  -- Captured reads
  read_same : (depth : ℕ) (way : List PathStep) (k : ℕ) (a : Shown (List PathStep)) (b : Shown ℕ) (held : Contents (List PathStep)) (other : Contents ℕ) → a.reads ≡ b.reads → a.address ≡ b.address
      → ((at : ℕ) → held at way ≡ other at k) → read_by_port depth held a way ≡ read_by_port depth other b k
  read_same depth way k a b held other reads address same =
      ap₂ (λ r x. if r && nat_lt x depth then held x way else pos 0) reads address ∙ ap (λ v. if b.reads && nat_lt b.address depth then v else pos 0) (same b.address)

  taken_same : (u : Under) (after : Bool) (before later : Contents (List PathStep)) (old new : Contents ℕ) (way : List PathStep) (k : ℕ) → after ≡ is_new u → ((at : ℕ) → before at way ≡ old at k)
      → ((at : ℕ) → later at way ≡ new at k) → (at : ℕ) → tree.taken u before later at way ≡ cycle.taken after old new at k
  taken_same under.New after before later old new way k e b l at = l at ∙ sym (ap (λ x. cycle.taken x old new at k) e)
  taken_same under.Old after before later old new way k e b l at = b at ∙ sym (ap (λ x. cycle.taken x old new at k) e)
  taken_same under.Undefined after before later old new way k e b l at = b at ∙ sym (ap (λ x. cycle.taken x old new at k) e)

  -- The port of a captured read, its memory, and the leaf that it reads.
  module _ (n : ℕ) (c : Capture) (listed : slice_get (captures net) n ≡ Some c) where
    abbrev from : ComesFrom net c
    from = capture_from net n c listed

    core : (p : Placed) (memory : Memory) (typ : FirType) (port : MemoryPort) (l : TypeLeaf) → slice_get (all_memories placed) c.number ≡ Some (p, memory) → slice_get elements c.number ≡ Some typ
        → (of : IsMemoryOf texts placed p memory typ c.memory) → slice_get (memory_ports memory) from.place ≡ Some port → slice_get (leaves typ) c.element ≡ Some l → c.after ≡ is_new (under_of memory)
        → (tree.next design s tree_rho).captured p.path p.c.declaration.name port.name l.path ≡ cycle.next_of_capture t instant (Some c)
    core p memory typ port l e f of at_port at_leaf after =
        let in_list = memory_placed c.number p memory e in
        let there = lists.components in_list.0 p in_list.1 in
        let place = located_is design p.path p.c.declaration.name p.m p.c there.0 there.1 in
        let held : Contents (List PathStep) = s.contents p.path p.c.declaration.name in
        let kept : ℕ → List PathStep → ℤ = s.captured p.path p.c.declaration.name in
        let port_of = of.ports from.place port c.port at_port from.listed in
        let contains : Contains (memory_ports memory) port = in_list_at (memory_ports memory) from.place port at_port in
        let first : port_named memory port.name ≡ Some port = typed.ports p.path p.m p.c memory port there.0 there.1 in_list.2 contains in
        let show : List PathStep → ℤ = shows p memory in_list.2 there.0 there.1 in
        let later : Contents (List PathStep) = tree.taken (under_of memory) held (tree_ports.after_writes memory show held) in
        ap (λ o. where_located kept (λ found. tree.next_of_port (scene_of found.0 p.path tree_rho) found.1 found.1.declaration.sort held) o port.name l.path) place
        ∙ (ap (λ sort. tree.next_of_port (scene_of p.m p.path tree_rho) p.c sort held port.name l.path) in_list.2
        ∙ (ap (λ o. tree_ports.read_of memory show later o l.path) first
        ∙ (read_same (depth_of memory) l.path c.element (tree_ports.shown show port) (cycle.shown instant c.port) later
        (cycle.taken c.after (t.contents c.number) (cycle.next_of_memory instant (Some c.memory) (t.contents c.number)))
        (reads_same p memory in_list.2 there.0 there.1 typ port c.port port_of port.mode refl) (address_same p memory in_list.2 there.0 there.1 typ port c.port port_of)
        (taken_same (under_of memory) c.after held (tree_ports.after_writes memory show held) (t.contents c.number) (cycle.next_of_memory instant (Some c.memory) (t.contents c.number)) l.path c.element after
        (λ i. seen_is.states.contents c.number i c.element p memory typ l e f at_leaf)
        (after_same p memory in_list.2 there.0 there.1 typ c.memory of c.element l at_leaf held (t.contents c.number) (λ i. seen_is.states.contents c.number i c.element p memory typ l e f at_leaf)))
        ∙ ap (λ d. read_by_port d (cycle.taken c.after (t.contents c.number) (cycle.next_of_memory instant (Some c.memory) (t.contents c.number))) (cycle.shown instant c.port) c.element) (sym of.depth))))

  reads_of : (p : Placed) (memory : Memory) (element : FirType) (port : MemoryPort) (np : NetPort) → IsPortOf (all_leaves placed) p memory element port np → (read : NetRead) → np.read ≡ Some read
      → NameAll (all_leaves placed) p port.name (read_field port.mode) element read.leaves × (read.after ≡ is_new (under_of memory))
  reads_of p memory element port np of read e = by (may_read port.mode) refl where
    by : (b : Bool) → may_read port.mode ≡ b → NameAll (all_leaves placed) p port.name (read_field port.mode) element read.leaves × (read.after ≡ is_new (under_of memory))
    by true q =
        let r = of.read q in
        let same : r.0 ≡ read = some_same (sym r.1 ∙ e) in
        (subst (λ (z : NetRead). NameAll (all_leaves placed) p port.name (read_field port.mode) element z.leaves) same r.2, ap (λ (z : NetRead). z.after) (sym same) ∙ r.4)
    by false q = none_some (sym (of.no_read q) ∙ e)

  captured_next : (x n : ℕ) (y : Standing) (port name : ℕ) (way : List PathStep) → slice_get (all_leaves placed) x ≡ Some y → HasRole net x (role.Captured n)
      → y.1.path ≡ step.Field port ∷ step.Field name ∷ way → (tree.next design s tree_rho).captured y.0.path y.0.c.declaration.name port way ≡ (cycle.next net t instant).captured n
  captured_next x n y port name way e held behind =
      let capture = well.captured x n held in
      let c : Capture = capture.0 in
      let comes = capture_from net n c capture.1 in
      let below : c.number < length (all_memories placed) = subst (λ m. c.number < m) is.all_memories_there (below_length net.memories c.number c.memory comes.there) in
      let both = item (all_memories placed) c.number below in
      let p : Placed = both.0.0 in
      let memory : Memory = both.0.1 in
      let typ = item elements c.number (subst (λ m. c.number < m) (sym is.all_elements_there) below) in
      let of = is.memories c.number p memory typ.0 c.memory both.1 typ.1 comes.there in
      let mport = item (memory_ports memory) comes.place (subst (λ m. comes.place < m) of.all_ports (below_length c.memory.ports comes.place c.port comes.listed)) in
      let port_of = of.ports comes.place mport.0 c.port mport.1 comes.listed in
      let r = reads_of p memory typ.0 mport.0 c.port port_of comes.read comes.reads in
      let l = item (leaves typ.0) c.element (subst (λ m. c.element < m) r.0.counted (below_length comes.read.leaves c.element c.leaf comes.leaf)) in
      let names = r.0.each c.element c.leaf l.0 comes.leaf l.1 in
      let same : (p, names.leaf) ≡ y = some_same (sym names.there ∙ (ap (slice_get (all_leaves placed)) capture.2 ∙ e)) in
      let path : step.Field mport.0.name ∷ step.Field (read_field mport.0.mode) ∷ l.0.path ≡ step.Field port ∷ step.Field name ∷ way =
      sym names.is ∙ (ap (λ z. z.1.path) same ∙ behind) in
      let after : c.after ≡ is_new (under_of memory) = comes.after ∙ r.1 in
      let is_core = core n c capture.1 p memory typ.0 mport.0 l.0 both.1 typ.1 of mport.1 l.1 after in
      ap (λ (q : Placed). (tree.next design s tree_rho).captured q.path q.c.declaration.name port way) (sym (ap (λ z. z.0) same))
      ∙ (ap₂ (λ i w. (tree.next design s tree_rho).captured p.path p.c.declaration.name i w) (first_step (sym path)) (behind_steps (sym path))
      ∙ (is_core ∙ sym (ap (cycle.next_of_capture t instant) capture.1)))
    where
      first_step : {a b c d : ℕ} {v w : List PathStep} → step.Field a ∷ step.Field b ∷ v ≡ step.Field c ∷ step.Field d ∷ w → a ≡ c
      first_step e = cc

      behind_steps : {a b c d : ℕ} {v w : List PathStep} → step.Field a ∷ step.Field b ∷ v ≡ step.Field c ∷ step.Field d ∷ w → v ≡ w
      behind_steps e = cc

  -- The states match behind the cycle, where registers show what they hold.
  pub next_matches : ((x n : ℕ) → HasRole net x (role.Register n) → integer_of (rho x) ≡ t.registers n)
      → MatchingState (all_leaves placed) (all_memories placed) elements net (tree.next design s tree_rho) (cycle.next net t instant)
  next_matches shown = record { registers = registers_next shown; contents = contents_next; captured = captured_next }
