-- The memories of a module are those of its ground module.
use Rattle.std.proofs.Common.{◌≡◌, ℕ, zero, suc, ◌+◌, ◌≤◌, min, List, [], ◌∷◌, map, length, Option, Some, None, refl, sym, ap, ◌∙◌, subst, arith}
use Rattle.std.specs.Prelude.{Contains}
use Rattle.std.specs.List.{slice_get}
use Rattle.std.proofs.lemmas.Grind.{common_steps}
use Rattle.std.proofs.lemmas.List.{length-map}
use Rattle.fir_types.specs.declared.fir_type.FirType.{FirType}
use Rattle.fir_types.specs.declared.leaf.TypeLeaf.{TypeLeaf}
use Rattle.fir_types.specs.declared.memory.Memory.{Memory}
use Rattle.fir_types.specs.declared.memory.PortMode.{PortMode}
use Rattle.fir_types.specs.Leaves.{leaves}
use Rattle.fir_types.specs.Memories.{element_of}
use Rattle.fir_tree.specs.declared.circuit.Module.{Module}
use Rattle.fir_tree.specs.LeafNames.{Texts}
use Rattle.fir_meaning.specs.Components.{TypedModule, Component, A_memory, ports_bundle, width_of_leaf}
use Rattle.fir_meaning.specs.Elements.{IsElement}
use Rattle.fir_meaning.specs.MemoryPorts.{MemoryPort, memory_ports}
use Rattle.fir_meaning.specs.States.{leaf_of}
use Rattle.fir_meaning.specs.WellTyped.{HasTypes}
use Rattle.ground_net.specs.declared.circuit.GroundMemory.{GroundMemory}
use Rattle.ground_net.specs.declared.net.ElementLeaf.{ElementLeaf}
use Rattle.net_of_circuit.specs.Numbers.{number_of, leaves_before, memory_parts}
use Rattle.net_of_circuit.specs.Lowering.{IsGroundMemory}
use Rattle.lower_aggregates.specs.Parts.{component_part, parts_of}
use Rattle.lower_aggregates.specs.declared.memories.HowRead.{HowRead}
use Rattle.lower_aggregates.specs.Elements.{ElementRow, element_row, own_row}
use Rattle.lower_aggregates.specs.Memories.{MemoryRow, port_leaves, memory_row, memory_by, memories_in, mode_of_first, first_mode_of, stored, stored_by, ports_from, reading_of}
use Rattle.lower_aggregates.proofs.PartLists.{memory_there}
use Rattle.lower_aggregates.proofs.PortLeaves.{ways, all_ways, memory_ways}
use Rattle.lower_aggregates.proofs.PortNumbers.{ports_are}
use Rattle.lower_aggregates.proofs.Stored.{stored_is, stored_among}

some_same : {A : Type 0} {x y : A} → Some x ≡ Some y → x ≡ y
some_same {A} {x} e = ap (or_first x) e
  where
    or_first : A → Option A → A
    or_first d (Some z) = z
    or_first d None = d

none_some : {A : Type 0} {B : Type 0} {x : A} → None ≡ Some x → B
none_some e = absurd cc

map_at : {A B : Type 0} (h : A → B) (xs : List A) (k : ℕ) (x : A) → slice_get xs k ≡ Some x → slice_get (map h xs) k ≡ Some (h x)
map_at h [] k x e = none_some e
map_at h (a ∷ xs) zero x e = ap Some (ap h (some_same e))
map_at h (a ∷ xs) (suc k) x e = map_at h xs k x e

in_list : {A : Type 0} (xs : List A) (k : ℕ) (x : A) → slice_get xs k ≡ Some x → Contains xs x
in_list [] k x e = none_some e
in_list (a ∷ xs) zero x e = (0, omega arith, some_same e)
in_list (a ∷ xs) (suc k) x e = let rest = in_list xs k x e in (suc rest.0, omega arith, rest.2)

no_leaves : (ls : List TypeLeaf) → ways ls ≡ [] → ls ≡ []
no_leaves [] e = refl
no_leaves (l ∷ ls) e = absurd cc

no_ports : (ports : List MemoryPort) → mode_of_first ports ≡ None → ports ≡ []
no_ports [] e = refl
no_ports (p ∷ ps) e = absurd cc

ports_counted : (first count : ℕ) (how : HowRead) (ports : List MemoryPort) → length (ports_from first count how ports) ≡ length ports
ports_counted first count how [] = refl
ports_counted first count how (p ∷ ps) = ap suc (ports_counted (first + port_leaves p.mode count) count how ps)

-- a memory whose elements have the leaves of this type
module _ (texts : Texts) (m : TypedModule) (at : ℕ) (c : Component) (memory : Memory) (element : FirType) (g : GroundMemory) (e : memory_row g ≡ memory_by texts (component_part (leaves_before m at) c) memory)
    (is : IsElement c memory element) (shows : stored texts memory (leaves c.typ) ≡ map (own_row texts) (leaves element)) (narrow : (leaf : TypeLeaf) → Contains (leaves element) leaf → width_of_leaf leaf ≤ 128)
    (numbers : (j : ℕ) (leaf : TypeLeaf) → slice_get (leaves c.typ) j ≡ Some leaf → number_of m (leaf_of c leaf) ≡ Some (leaves_before m at + j)) where
  rows : map element_row g.elements ≡ map (own_row texts) (leaves element)
  rows = ap (λ (r : MemoryRow). r.elements) e ∙ shows

  count_is : length (stored texts memory (leaves c.typ)) ≡ length (leaves element)
  count_is = ap length shows ∙ length-map (leaves element) (own_row texts)

  ports_is : g.ports ≡ ports_from (leaves_before m at) (length (leaves element)) (reading_of memory) (memory_ports memory)
  ports_is = ap (λ (r : MemoryRow). r.ports) e ∙ ap (λ n. ports_from (leaves_before m at) n (reading_of memory) (memory_ports memory)) count_is

  row_at_place : (k : ℕ) (leaf : TypeLeaf) (kept : ElementLeaf) → slice_get (leaves element) k ≡ Some leaf → slice_get g.elements k ≡ Some kept → element_row kept ≡ own_row texts leaf
  row_at_place k leaf kept a b = some_same (sym (map_at element_row g.elements k kept b) ∙ ap (λ l. slice_get l k) rows ∙ map_at (own_row texts) (leaves element) k leaf a)

  pub ground_memory : IsGroundMemory texts m at c memory g
  ground_memory = record {
    name = ap (λ (r : MemoryRow). r.name) e;
    first = ap (λ (r : MemoryRow). r.first) e;
    depth = ap (λ (r : MemoryRow). r.depth) e;
    element = element;
    is_element = is;
    counted = sym (length-map g.elements element_row) ∙ ap length rows ∙ length-map (leaves element) (own_row texts);
    elements = λ k leaf kept a b.
        let r = row_at_place k leaf kept a b in
        let w = narrow leaf (in_list (leaves element) k leaf a) in
        let n : min (width_of_leaf leaf) 128 ≡ width_of_leaf leaf = grind (arith, common_steps, w) in
        (ap (λ (x : ElementRow). x.kind) r, ap (λ (x : ElementRow). x.width) r ∙ n, ap (λ (x : ElementRow). x.path) r);
    all_ports = ap length ports_is ∙ ports_counted (leaves_before m at) (length (leaves element)) (reading_of memory) (memory_ports memory);
    ports = λ q port np s t. ports_are m c memory element (leaves_before m at) is.bundle numbers q port np s (ap (λ l. slice_get l q) (sym ports_is) ∙ t);
  }

nothing_in : (memory : Memory) (el : FirType) → memory_ports memory ≡ [] → leaves (ports_bundle memory el) ≡ []
nothing_in memory el none = no_leaves (leaves (ports_bundle memory el)) (memory_ways memory el ∙ ap (all_ways (ways (leaves el))) none)

zero_plus : (n : ℕ) → 0 + n ≡ n
zero_plus n = omega arith

module _ (texts : Texts) (holder : Module) (m : TypedModule) (has : HasTypes holder m)
    (bundles : (c : Component) (memory : Memory) → Contains m.components c → c.declaration.sort ≡ A_memory memory → (element : FirType) × (leaves c.typ ≡ leaves (ports_bundle memory element)))
    (numbers : (k j : ℕ) (c : Component) (leaf : TypeLeaf) → slice_get m.components k ≡ Some c → slice_get (leaves c.typ) j ≡ Some leaf → number_of m (leaf_of c leaf) ≡ Some (leaves_before m k + j)) where
  one_memory : (at : ℕ) (c : Component) (memory : Memory) (g : GroundMemory) → slice_get m.components at ≡ Some c → c.declaration.sort ≡ A_memory memory → memory_row g ≡ memory_by texts (component_part (leaves_before m at) c) memory
      → IsGroundMemory texts m at c memory g
  one_memory at c memory g s q e = by (first_mode_of memory.lines) refl
    where
      among : Contains m.components c
      among = in_list m.components at c s

      by : (o : Option PortMode) → first_mode_of memory.lines ≡ o → IsGroundMemory texts m at c memory g
      by (Some md) o =
          let b = bundles c memory among q in
          ground_memory texts m at c memory b.0 g e
          (record { bundle = b.1; unported = λ none. none_some (sym (ap mode_of_first none) ∙ o) })
          (stored_is texts memory b.0 (leaves c.typ) md b.1 o)
          (λ leaf h. let r = stored_among memory b.0 (leaves c.typ) md b.1 o leaf h in subst (λ w. w ≤ 128) r.2 (has.narrow c r.0 among r.1))
          (λ j leaf f. numbers at j c leaf s f)
      by None o =
          let b = bundles c memory among q in
          let none = no_ports (memory_ports memory) o in
          ground_memory texts m at c memory (element_of memory) g e
          (record { bundle = b.1 ∙ nothing_in memory b.0 none ∙ sym (nothing_in memory (element_of memory) none); unported = λ h. refl })
          (ap (λ p. stored_by texts memory p (leaves c.typ)) o)
          (λ leaf h. has.elements c memory leaf among q none h)
          (λ j leaf f. numbers at j c leaf s f)

  -- Each memory of the module is one of the ground module's.
  pub memories_are : (made : List GroundMemory) → map memory_row made ≡ memories_in texts (parts_of m) → (k : ℕ) (part : ℕ × Component × Memory) (g : GroundMemory) → slice_get (memory_parts m.components) k ≡ Some part
      → slice_get made k ≡ Some g → IsGroundMemory texts m part.0 part.1 part.2 g
  memories_are made e k part g f h =
      let row : slice_get (memories_in texts (parts_of m)) k ≡ Some (memory_row g) = ap (λ l. slice_get l k) (sym e) ∙ map_at memory_row made k g h in
      let t = memory_there texts 0 0 m.components k part (memory_row g) f row in
      let p : t.j ≡ part.0 = (let q = t.place in omega (arith, q)) in
      let r : memory_row g ≡ memory_by texts (component_part (leaves_before m part.0) part.1) part.2 = t.row_is ∙ ap (λ n. memory_by texts (component_part n part.1) part.2) (zero_plus (leaves_before m t.j) ∙ ap (leaves_before m) p) in
      one_memory part.0 part.1 part.2 g (ap (slice_get m.components) (sym p) ∙ t.stands) t.sort r
