-- The memories of the flat circuit are those of the circuit, one by one.
use Rattle.std.proofs.Common.{◌≡◌, ℕ, zero, suc, ◌+◌, ◌<◌, List, [], ◌∷◌, ◌++◌, map, take, length, Some, None, option_map, option_and_then, refl, sym, ap, ap₂, ◌∙◌, subst, arith, slice_index, ⊎_elim}
use Rattle.std.specs.Prelude.{Contains}
use Rattle.std.specs.List.{slice_get, flat_map, cons_option, sum_by}
use Rattle.std.proofs.lemmas.Grind.{common_steps}
use Rattle.std.proofs.lemmas.List.Concat.{flat_map-cons}
use Rattle.std.proofs.lemmas.List.Sums.{sum_by-cons}
use Rattle.fir_types.specs.declared.fir_type.FirType.{FirType}
use Rattle.fir_types.specs.declared.leaf.TypeLeaf.{TypeLeaf}
use Rattle.fir_types.specs.declared.leaf.PathStep.{PathStep}
use Rattle.fir_types.specs.declared.leaf.PathStep.TheVariants as step
use Rattle.fir_types.specs.declared.memory.Memory.{Memory}
use Rattle.fir_types.specs.Leaves.{leaves}
use Rattle.fir_types.specs.Memories.{depth_of}
use Rattle.fir_types.specs.Bundles.{addr_name, en_name, wmode_name}
use Rattle.fir_tree.specs.LeafNames.{text_of}
use Rattle.fir_meaning.specs.Components.{Component, Leaf, Sort, An_input, An_output, A_wire, A_register, A_reset_register, A_memory, An_instance, A_node, module_at, component_named, target_in, flat, flat_through}
use Rattle.fir_meaning.specs.MemoryPorts.{MemoryPort, written_field, mask_field}
use Rattle.fir_meaning.specs.States.{Stands, leaf_of}
use Rattle.fir_meaning.proofs.Settling.{flat_none}
use Rattle.ground_net.specs.declared.circuit.DrivenModule.{DrivenModule}
use Rattle.ground_net.specs.declared.circuit.GroundMemory.{GroundMemory}
use Rattle.ground_net.specs.declared.net.NetMemory.{NetMemory}
use Rattle.ground_net.specs.declared.net.NetPort.{NetPort}
use Rattle.ground_net.specs.Grounds.{Instant}
use Rattle.prim_ops.specs.Values.{lone}
use Rattle.net_of_circuit.specs.FlatOrder.{Placed, all_leaves, all_memories, memory_in, flat_of}
use Rattle.net_of_circuit.specs.NetOf.{Names, NameAll, IsPortOf, IsMemoryOf, path_text, read_field}
use Rattle.net_of_circuit.specs.Numbers.{ModuleLeaf, leaves_of, number_of}
use Rattle.net_of_circuit.specs.Lowering.{IsGroundMemory, IsGroundPort, AreOfField}
use Rattle.flatten_instances.specs.FlatOrder.{Spot}
use Rattle.flatten_instances.specs.Numbers.{AreNumbers, port_with, write_with, read_with}
use Rattle.memory_ports.specs.Placing.{without_word}
use Rattle.net_laws.proofs.Lists.{below_length, from_map_at, in_append, later, in_list}
use Rattle.lowering_laws.proofs.Heights.{some_same, none_some}
use Rattle.lowering_laws.proofs.Parts.{item}
use Rattle.lowering_laws.proofs.Matching.{two_back, two_counted, leads_known, memory_entry, memory_entries, map_counted}
use Rattle.lowering_laws.proofs.Seeing.{found_leaf, number_at}
use Rattle.lowering_laws.proofs.Whole.{Setting, spots, placed, Way, match, lists, prefix_is}
use Rattle.lowering_laws.proofs.Whole as whole

-- The entries of memories are the memories.

pub entries_are : (b : ℕ) (ps : List Placed) → map (λ e. (e.1, e.2)) (memory_entries b ps) ≡ all_memories ps
entries_are b [] = refl
entries_are b (p ∷ ps) = by p.c.declaration.sort (memory_entries (b + length (leaves p.c.typ)) ps) (all_memories ps) (entries_are (b + length (leaves p.c.typ)) ps) where
  by : (sort : Sort) (xs : List (ℕ × Placed × Memory)) (ys : List (Placed × Memory)) → map (λ e. (e.1, e.2)) xs ≡ ys → map (λ e. (e.1, e.2)) (cons_option (memory_entry b p sort) xs) ≡ cons_option (memory_in p sort) ys
  by (A_memory memory) xs ys e = ap (λ l. (p, memory) ∷ l) e
  by An_input xs ys e = e
  by An_output xs ys e = e
  by A_wire xs ys e = e
  by (A_register clock) xs ys e = e
  by (A_reset_register clock reset init) xs ys e = e
  by (An_instance target) xs ys e = e
  by (A_node expr) xs ys e = e

abbrev pub size_of : Placed → ℕ
size_of q = length (leaves q.c.typ)

-- where the component of an entry stands, and how many leaves stand before it
pub entry_place : (b : ℕ) (ps : List Placed) (k : ℕ) (e : ℕ × Placed × Memory) → slice_get (memory_entries b ps) k ≡ Some e → (at : ℕ) × (slice_get ps at ≡ Some e.1) × (e.0 ≡ b + sum_by size_of (take at ps))
entry_place b [] k e h = none_some h
entry_place b (p ∷ ps) k e h = by p.c.declaration.sort k h (λ j g. entry_place (b + size_of p) ps j e g) where
  further : (at : ℕ) → (slice_get ps at ≡ Some e.1) → e.0 ≡ b + size_of p + sum_by size_of (take at ps) → (at' : ℕ) × (slice_get (p ∷ ps) at' ≡ Some e.1) × (e.0 ≡ b + sum_by size_of (take at' (p ∷ ps)))
  further at there n =
      let s : sum_by size_of (take (suc at) (p ∷ ps)) ≡ size_of p + sum_by size_of (take at ps) = sum_by-cons size_of p (take at ps) in
      (suc at, there, grind (arith, common_steps, n, s))

  by : (sort : Sort) (k : ℕ) → slice_get (cons_option (memory_entry b p sort) (memory_entries (b + size_of p) ps)) k ≡ Some e
      → ((j : ℕ) → slice_get (memory_entries (b + size_of p) ps) j ≡ Some e → (at : ℕ) × (slice_get ps at ≡ Some e.1) × (e.0 ≡ b + size_of p + sum_by size_of (take at ps)))
      → (at : ℕ) × (slice_get (p ∷ ps) at ≡ Some e.1) × (e.0 ≡ b + sum_by size_of (take at (p ∷ ps)))
  by (A_memory memory) zero h onward =
      let same : (b, p, memory) ≡ e = some_same h in
      let none : sum_by size_of (take 0 (p ∷ ps)) ≡ 0 = grind (arith, common_steps) in
      let n : b ≡ b + sum_by size_of (take 0 (p ∷ ps)) = grind (arith, none) in
      (0, ap (λ x. Some x.1) same, sym (ap (λ x. x.0) same) ∙ n)
  by (A_memory memory) (suc k) h onward = let r = onward k h in further r.0 r.1 r.2
  by An_input k h onward = let r = onward k h in further r.0 r.1 r.2
  by An_output k h onward = let r = onward k h in further r.0 r.1 r.2
  by A_wire k h onward = let r = onward k h in further r.0 r.1 r.2
  by (A_register clock) k h onward = let r = onward k h in further r.0 r.1 r.2
  by (A_reset_register clock reset init) k h onward = let r = onward k h in further r.0 r.1 r.2
  by (An_instance target) k h onward = let r = onward k h in further r.0 r.1 r.2
  by (A_node expr) k h onward = let r = onward k h in further r.0 r.1 r.2

-- A leaf of a module is one of a component's.
pub leaf_among : (cs : List Component) (y : ℕ) (c : Component) (leaf : TypeLeaf) → slice_get (flat_map leaves_of cs) y ≡ Some (c, leaf) → Contains cs c × Contains (leaves c.typ) leaf
leaf_among [] y c leaf e = none_some e
leaf_among (b ∷ cs) y c leaf e = ⊎_elim
    (λ here.
    let q = from_map_at (λ x. (b, x)) (leaves b.typ) y (c, leaf) here in
    let same : b ≡ c = ap (λ (x : ModuleLeaf). x.0) q.2 in
    let leaf_same : q.0 ≡ leaf = ap (λ (x : ModuleLeaf). x.1) q.2 in
    ((0, omega arith, same), subst (λ (x : Component). Contains (leaves x.typ) leaf) same (subst (Contains (leaves b.typ)) leaf_same (in_list (leaves b.typ) y q.0 q.1))))
    (λ there. let r = leaf_among cs there.0 c leaf there.2 in (later b cs c r.0, r.1))
    (in_append (leaves_of b) (flat_map leaves_of cs) y (c, leaf) (subst (λ l. slice_get l y ≡ Some (c, leaf)) (flat_map-cons leaves_of b cs) e))

no_instant : Instant
no_instant = record { leaf = λ x. lone []; load = λ m k a. lone [] }

module _ (z : Setting) where
  -- A memory of the flat circuit is one of the circuit.
  pub record StoreAt (k : ℕ) (b : Placed × Memory) : Type 0 where
    pub at : ℕ
    pub stands : slice_get (placed z) at ≡ Some b.0
    pub s : Spot
    pub d : DrivenModule
    pub leads : Way z s.path s.within b.0.m d b.0.path
    pub sort : b.0.c.declaration.sort ≡ A_memory b.1
    pub place : ℕ
    pub own : GroundMemory
    pub is : IsGroundMemory (whole.texts z) b.0.m place b.0.c b.1 own
    pub numbers : List ℕ
    pub are : AreNumbers z.driven (spots z) s.path s.within numbers
    pub memory : GroundMemory
    pub there : slice_get z.flat.memories k ≡ Some memory
    pub name : memory.name ≡ path_text (whole.texts z) b.0.path ++ text_of (whole.texts z) b.0.c.declaration.name
    pub first : memory.first ≡ sum_by size_of (take at (placed z))
    pub depth : memory.depth ≡ depth_of b.1
    pub elements : memory.elements ≡ own.elements
    pub ports : memory.ports ≡ map (port_with numbers) own.ports

  pub memories_counted : length z.flat.memories ≡ length (all_memories (placed z))
  memories_counted =
      z.is_flat.is.memories.counted ∙ (two_counted (z.matched.memories_match 0) ∙ (sym (map_counted (λ (e : ℕ × Placed × Memory). (e.1, e.2)) (memory_entries 0 (placed z))) ∙ ap length (entries_are 0 (placed z))))

  pub store_at : (k : ℕ) (b : Placed × Memory) → slice_get (all_memories (placed z)) k ≡ Some b → StoreAt k b
  store_at k b e =
      let entry = from_map_at (λ (x : ℕ × Placed × Memory). (x.1, x.2)) (memory_entries 0 (placed z)) k b (ap (λ l. slice_get l k) (entries_are 0 (placed z)) ∙ e) in
      moved entry.0 entry.1 entry.2
    where
      made : (x : ℕ × Placed × Memory) → slice_get (memory_entries 0 (placed z)) k ≡ Some x → StoreAt k (x.1, x.2)
      made x there =
          let back = two_back (z.matched.memories_match 0) k x there in
          let it = back.2 in
          let K = leads_known z.fitted z.well z.lowered z.is z.driven z.expanded it.leads in
          let at = entry_place 0 (placed z) k x there in
          let memory = item z.flat.memories k (subst (λ n. k < n) (sym (z.is_flat.is.memories.counted ∙ two_counted (z.matched.memories_match 0))) (below_length (memory_entries 0 (placed z)) k x there)) in
          let of = z.is_flat.is.memories.each k back.0 memory.0 back.1 memory.1 in
          let same : of.m ≡ it.d = some_same (sym of.found ∙ K.driven_there) in
          let here : slice_get K.g.memories back.0.1.number ≡ Some of.memory = ap (λ l. slice_get l back.0.1.number) (sym (ap (λ (m : DrivenModule). m.memories) same ∙ K.driven_is.memories)) ∙ of.there in
          let own = K.ground_is.memories back.0.1.number (it.at, x.1.c, x.2) of.memory it.part here in
          let n : 0 + sum_by size_of (take at.0 (placed z)) ≡ sum_by size_of (take at.0 (placed z)) = omega arith in
          record {
            at = at.0;
            stands = at.1;
            s = back.0.1;
            d = it.d;
            leads = it.leads;
            sort = it.sort;
            place = it.at;
            own = of.memory;
            is = own;
            numbers = of.numbers;
            are = of.numbered;
            memory = memory.0;
            there = memory.1;
            name = of.name ∙ ap₂ (λ a c. a ++ c) (prefix_is z it.leads) own.name;
            first = of.first ∙ (it.before ∙ (at.2 ∙ n));
            depth = of.depth ∙ own.depth;
            elements = of.elements;
            ports = of.ports;
          }

      moved : (x : ℕ × Placed × Memory) → slice_get (memory_entries 0 (placed z)) k ≡ Some x → (x.1, x.2) ≡ b → StoreAt k b
      moved x there same = subst (StoreAt k) same (made x there)

  -- The leaves of a memory's ports

  module _ (k : ℕ) (b : Placed × Memory) (at : StoreAt k b) where
    abbrev p : Placed
    p = b.0

    there_is : (module_at (whole.design z) p.path ≡ Some p.m) × (component_named p.m p.c.declaration.name ≡ Some p.c)
    there_is = (lists z).components at.at p at.stands

    none : target_in p.c.declaration.sort ≡ None
    none = ap target_in at.sort

    own_flat : (way : List PathStep) → flat p.m p.path (record { component = p.c.declaration.name; way = way }) ≡ record { path = p.path; component = p.c.declaration.name; way = way }
    own_flat way =
        ap (λ o. flat_through p.path p.c.declaration.name o way) (ap (option_and_then (λ (x : Component). target_in x.declaration.sort)) there_is.1 ∙ none)
        ∙ flat_none p.path p.c.declaration.name way

    -- a leaf of the memory under its flat number
    named : (way : List PathStep) (y : ℕ) → number_of p.m (record { component = p.c.declaration.name; way = way }) ≡ Some y → Names (all_leaves (placed z)) p way (slice_index at.numbers y)
    named way y e =
        let l = found_leaf p.m (record { component = p.c.declaration.name; way = way }) y e in
        let x = number_at z.fitted z.well z.lowered z.is z.driven z.expanded (spots z) (placed z) (match z) (lists z) at.leads at.numbers at.are no_instant y l.0 l.1 in
        let among = leaf_among p.m.components y l.0.0 l.0.1 l.1 in
        let c_name : l.0.0.declaration.name ≡ p.c.declaration.name = ap (λ (f : Leaf). f.component) l.2 in
        let declared : component_named p.m l.0.0.declaration.name ≡ Some l.0.0 = z.well.bundles.names p.path p.m l.0.0 there_is.0 among.0 in
        let c_same : l.0.0 ≡ p.c = some_same (sym declared ∙ (ap (component_named p.m) c_name ∙ there_is.1)) in
        let stands : Stands (whole.design z) p.path p.m p.c l.0.1 = record { reached = there_is.0; declared = there_is.1; listed = subst (λ (c : Component). Contains (leaves c.typ) l.0.1) c_same among.1 } in
        let entry = (lists z).own p.path p.m p.c l.0.1 stands none in
        let way_same : l.0.1.path ≡ way = ap (λ (f : Leaf). f.way) l.2 in
        let flats : flat_of (p, l.0.1) ≡ flat_of x.3.e = sym (own_flat l.0.1.path) ∙ (ap (λ (c : Component). flat p.m p.path (leaf_of c l.0.1)) (sym c_same) ∙ sym x.3.is_flat) in
        let x_same : entry.0 ≡ x.0 = (lists z).once entry.0 x.0 (p, l.0.1) x.3.e entry.1 x.3.there flats in
        record { leaf = l.0.1; there = ap (slice_get (all_leaves (placed z))) (x.2 ∙ sym x_same) ∙ entry.1; is = way_same }

    named_all : (port field : ℕ) (element : FirType) (numbers : List ℕ) → AreOfField p.m p.c port field element numbers → NameAll (all_leaves (placed z)) p port field element (map (slice_index at.numbers) numbers)
    named_all port field element numbers all = record {
      counted = map_counted (slice_index at.numbers) numbers ∙ all.counted;
      each = λ j x leaf e f.
          let y = from_map_at (slice_index at.numbers) numbers j x e in
          subst (Names (all_leaves (placed z)) p (step.Field port ∷ step.Field field ∷ leaf.path)) y.2 (named (step.Field port ∷ step.Field field ∷ leaf.path) y.0 (all.each j y.0 leaf y.1 f));
    }

    port_is : (port : MemoryPort) (np : NetPort) → IsGroundPort p.m p.c b.1 at.is.element port np → IsPortOf (all_leaves (placed z)) p b.1 at.is.element port (port_with at.numbers np)
    port_is port np g = record {
      addr = named (step.Field port.name ∷ step.Field addr_name ∷ []) np.addr g.addr;
      en = named (step.Field port.name ∷ step.Field en_name ∷ []) np.en g.en;
      no_mode = λ h. ap (option_map (slice_index at.numbers)) (g.no_mode h);
      mode = λ h. let m = g.mode h in (slice_index at.numbers m.0, ap (option_map (slice_index at.numbers)) m.1, named (step.Field port.name ∷ step.Field wmode_name ∷ []) m.0 m.2);
      no_write = λ h. ap (option_map (write_with at.numbers)) (g.no_write h);
      write = λ h.
          let w = g.write h in (
            write_with at.numbers w.0,
            ap (option_map (write_with at.numbers)) w.1,
            named_all port.name (written_field port.mode) at.is.element w.0.leaves w.2,
            named_all port.name (mask_field port.mode) at.is.element w.0.masks w.3,
          );
      no_read = λ h. ap (option_map (read_with at.numbers)) (g.no_read h);
      read = λ h.
          let r = g.read h in
          (read_with at.numbers r.0, ap (option_map (read_with at.numbers)) r.1, named_all port.name (read_field port.mode) at.is.element r.0.leaves r.2, r.3, r.4);
    }

    -- The memory of the net that is the flat circuit's is the circuit's.
    pub memory_is : (nm : NetMemory) → without_word nm ≡ at.memory → IsMemoryOf (whole.texts z) (placed z) p b.1 at.is.element nm
    memory_is nm same = record {
      name = ap (λ (g : GroundMemory). g.name) same ∙ at.name;
      at = at.at;
      stands = at.stands;
      before = ap (λ (g : GroundMemory). g.first) same ∙ at.first;
      depth = ap (λ (g : GroundMemory). g.depth) same ∙ at.depth;
      is_element = at.is.is_element;
      counted = ap length elements_same ∙ at.is.counted;
      elements = λ j leaf kept e f. at.is.elements j leaf kept e (ap (λ l. slice_get l j) (sym elements_same) ∙ f);
      all_ports = ap length ports_same ∙ (map_counted (port_with at.numbers) at.own.ports ∙ at.is.all_ports);
      ports = λ q port np e f.
          let own = from_map_at (port_with at.numbers) at.own.ports q np (ap (λ l. slice_get l q) (sym ports_same) ∙ f) in
          subst (IsPortOf (all_leaves (placed z)) p b.1 at.is.element port) own.2 (port_is port own.0 (at.is.ports q port own.0 e own.1));
    } where
      elements_same : nm.elements ≡ at.own.elements
      elements_same = ap (λ (g : GroundMemory). g.elements) same ∙ at.elements

      ports_same : nm.ports ≡ map (port_with at.numbers) at.own.ports
      ports_same = ap (λ (g : GroundMemory). g.ports) same ∙ at.ports

  -- All memories

  pub tabulate : {A B : Type 0} (xs : List A) → ((k : ℕ) (x : A) → slice_get xs k ≡ Some x → B) → List B
  tabulate [] f = []
  tabulate (x ∷ xs) f = f 0 x refl ∷ tabulate xs (λ k y e. f (suc k) y e)

  tabulate_counted : {A B : Type 0} (xs : List A) (f : (k : ℕ) (x : A) → slice_get xs k ≡ Some x → B) → length (tabulate xs f) ≡ length xs
  unfolding tabulate
  tabulate_counted [] f = refl
  tabulate_counted (x ∷ xs) f = ap suc (tabulate_counted xs (λ k y e. f (suc k) y e))

  tabulate_at : {A B : Type 0} (xs : List A) (f : (k : ℕ) (x : A) → slice_get xs k ≡ Some x → B) (k : ℕ) (y : B) → slice_get (tabulate xs f) k ≡ Some y → (x : A) × (e : slice_get xs k ≡ Some x) × (f k x e ≡ y)
  unfolding tabulate
  tabulate_at [] f k y e = none_some e
  tabulate_at (x ∷ xs) f zero y e = (x, refl, some_same e)
  tabulate_at (x ∷ xs) f (suc k) y e = tabulate_at xs (λ j w h. f (suc j) w h) k y e

  abbrev element_at : (k : ℕ) (b : Placed × Memory) → slice_get (all_memories (placed z)) k ≡ Some b → FirType
  element_at k b e = (store_at k b e).is.element

  -- the types of the memories' elements
  abbrev pub elements : List FirType
  elements = tabulate (all_memories (placed z)) element_at

  pub elements_counted : length elements ≡ length (all_memories (placed z))
  elements_counted = tabulate_counted (all_memories (placed z)) element_at

  -- A memory of a net that is the flat circuit's is the circuit's.
  pub memories_are : (k : ℕ) (p : Placed) (memory : Memory) (element : FirType) (held : GroundMemory) (nm : NetMemory) → slice_get (all_memories (placed z)) k ≡ Some (p, memory)
      → slice_get elements k ≡ Some element → slice_get z.flat.memories k ≡ Some held → without_word nm ≡ held → IsMemoryOf (whole.texts z) (placed z) p memory element nm
  memories_are k q memory element held nm there at_element at_memory same =
      let t = tabulate_at (all_memories (placed z)) element_at k element at_element in
      let both : t.0 ≡ (q, memory) = some_same (sym t.1 ∙ there) in
      let store = store_at k t.0 t.1 in
      let kept : without_word nm ≡ store.memory = same ∙ some_same (sym at_memory ∙ store.there) in
      subst (λ (b : Placed × Memory). IsMemoryOf (whole.texts z) (placed z) b.0 b.1 element nm) both (subst (λ typ. IsMemoryOf (whole.texts z) (placed z) t.0.0 t.0.1 typ nm) t.2 (memory_is k t.0 store nm kept))
