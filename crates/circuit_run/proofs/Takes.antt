-- What the edge takes are leaves of the run.
use Rattle.std.proofs.Common.{◌≡◌, ℕ, zero, suc, ◌<◌, ◌==◌, Bool, true, false, not, List, [], ◌∷◌, map, length, Some, None, option_and_then, refl, sym, ap, ◌∙◌, subst, arith, true≢false, if◌then◌else◌, slice_get}
use Rattle.std.specs.Prelude.{Contains, filter_map}
use Rattle.std.proofs.lemmas.Grind.{common_steps}
use Rattle.place_text.specs.declared.place.Place.{Place}
use Rattle.fir_types.specs.declared.fir_type.FirType.{FirType, the_lemmas as type_lemmas}
use Rattle.fir_types.specs.declared.fir_type.Field.{Field}
use Rattle.fir_types.specs.declared.leaf.TypeLeaf.{TypeLeaf}
use Rattle.fir_types.specs.declared.leaf.PathStep.{PathStep}
use Rattle.fir_types.specs.declared.leaf.PathStep.TheVariants as step
use Rattle.fir_types.specs.declared.memory.Memory.{Memory}
use Rattle.fir_types.specs.declared.memory.MemLine.{MemLine}
use Rattle.fir_types.specs.declared.memory.MemLine.TheVariants as line
use Rattle.fir_types.specs.declared.memory.PortMode.{PortMode}
use Rattle.fir_types.specs.declared.memory.PortMode.TheVariants as mode
use Rattle.fir_types.specs.Leaves.{leaves, under, way_of}
use Rattle.fir_types.specs.Memories.{depth_of}
use Rattle.fir_types.specs.Bundles.{nowhere, addr_name, en_name, clk_name, wmode_name, plain_field, uint_at, clock_at, address_bits, fields_of_mode, port_type, port_field, mask_of}
use Rattle.fir_types.proofs.Masks.{masked}
use Rattle.fir_tree.specs.LeafNames.{Texts}
use Rattle.fir_meaning.specs.Components.{Design, TypedModule, Component, FlatLeaf, A_memory, flat, flat_through, target_in, ports_bundle}
use Rattle.fir_meaning.specs.MemoryPorts.{MemoryPort, memory_ports, port_named, written_field, mask_field}
use Rattle.fir_meaning.specs.States.{Stands, IsLeafOf, leaf_of, is_register}
use Rattle.fir_meaning.specs.Loops.{TakesFrom, by_live_connect, by_reset, by_init, by_write, by_read, TakesLeaves, IsRead, read_goes_by, write_goes_by}
use Rattle.fir_meaning.proofs.Ports.{from_map, from_flat_map, from_filter_map, bundle_leaves, found}
use Rattle.fir_meaning.proofs.Tracking.{Contains-map}
use Rattle.fir_meaning.proofs.Settling.{get_there, flat_none}
use Rattle.ground_net.specs.declared.net.Net.{Net}
use Rattle.ground_net.specs.declared.net.NetMemory.{NetMemory}
use Rattle.ground_net.specs.declared.net.NetPort.{NetPort}
use Rattle.ground_net.specs.declared.net.Role.{Role}
use Rattle.ground_net.specs.declared.net.Role.TheVariants as role
use Rattle.net_of_circuit.specs.FlatOrder.{Placed, Standing, all_leaves, all_memories, flat_of, memory_in}
use Rattle.net_of_circuit.specs.NetOf.{Held, part_of, part_of_role, is_input_of_main, is_late_read, Names, NameAll, IsPortOf, IsMemoryOf, has_mode, may_write}
use Rattle.net_laws.specs.Serves.{Serves}
use Rattle.net_laws.proofs.Numbers.{below_length}
use Rattle.net_laws.proofs.Seen.{part_is, own_flat, register_target}
use Rattle.circuit_run.proofs.Lists.{some_same, none_some, get_item, filter_map_at}
use Rattle.circuit_run.proofs.Parts.{of_component}

-- The ways of a memory's read data

abbrev field_part : Field → List TypeLeaf
field_part f = map (under (step.Field f.name.id ∷ []) f.flip) (leaves f.typ)

abbrev port_fields : FirType → ℕ → PortMode → Place → List Field
port_fields element depth m place =
    plain_field place addr_name (uint_at place (address_bits depth)) ∷ plain_field place en_name (uint_at place 1) ∷ plain_field place clk_name (clock_at place) ∷ fields_of_mode place element m

-- no leaf is flipped
abbrev IsStraight : FirType → Type 0
IsStraight typ = (l : TypeLeaf) → Contains (leaves typ) l → l.flip ≡ false

alone : (ls : List TypeLeaf) (x l : TypeLeaf) → ls ≡ x ∷ [] → Contains ls l → x ≡ l
alone ls x l e c = by (subst (λ z. Contains z l) e c) where
  by : Contains (x ∷ []) l → x ≡ l
  by (zero, below, is) = is
  by (suc k, below, is) = absurd (omega arith)

uint_straight : (place : Place) (width : ℕ) → IsStraight (uint_at place width)
uint_straight place width l c =
    let one : leaves (uint_at place width) ≡ record { path = []; flip = false; typ = uint_at place width } ∷ [] = grind (arith, common_steps, type_lemmas) in
    ap (λ (z : TypeLeaf). z.flip) (sym (alone (leaves (uint_at place width)) (record { path = []; flip = false; typ = uint_at place width }) l one c))

clock_straight : (place : Place) → IsStraight (clock_at place)
clock_straight place l c =
    let one : leaves (clock_at place) ≡ record { path = []; flip = false; typ = clock_at place } ∷ [] = grind (arith, common_steps, type_lemmas) in
    ap (λ (z : TypeLeaf). z.flip) (sym (alone (leaves (clock_at place)) (record { path = []; flip = false; typ = clock_at place }) l one c))

module _ (element : FirType) (part : TypeLeaf) (turned : part.flip ≡ true) (depth : ℕ) (place : Place) where
  -- it is a leaf of the element behind a field
  abbrev IsBehind : Type 0
  IsBehind = (n : ℕ) × (l : TypeLeaf) × Contains (leaves element) l × (part.path ≡ step.Field n ∷ l.path)

  plain : (f : Field) → IsStraight f.typ → f.flip ≡ false → Contains (field_part f) part → IsBehind
  plain f of_typ unflipped h =
      let l = from_map (under (step.Field f.name.id ∷ []) f.flip) (leaves f.typ) part h in
      absurd (true≢false (sym turned ∙ (sym (ap (λ (z : TypeLeaf). z.flip) l.2) ∙ (ap (λ b. if b then not l.0.flip else l.0.flip) unflipped ∙ of_typ l.0 l.1))))

  of_data : (f : Field) → f.typ ≡ element → Contains (field_part f) part → IsBehind
  of_data f e h =
      let l = from_map (under (step.Field f.name.id ∷ []) f.flip) (leaves f.typ) part h in
      (f.name.id, l.0, subst (λ t. Contains (leaves t) l.0) e l.1, sym (ap (λ (z : TypeLeaf). z.path) l.2))

  of_mask : (f : Field) → f.typ ≡ mask_of element → Contains (field_part f) part → IsBehind
  of_mask f e h =
      let l = from_map (under (step.Field f.name.id ∷ []) f.flip) (leaves f.typ) part h in
      let there : Contains (map way_of (leaves element)) (way_of l.0) =
      subst (λ ws. Contains ws (way_of l.0)) (masked element).same (Contains-map way_of (leaves (mask_of element)) l.0 (subst (λ t. Contains (leaves t) l.0) e l.1)) in
      let of = from_map way_of (leaves element) (way_of l.0) there in
      (f.name.id, of.0, of.1, sym (ap (λ (z : TypeLeaf). z.path) l.2) ∙ ap (λ w. step.Field f.name.id ∷ w.0) (sym of.2))

  of_mode : (md : PortMode) (f : Field) → Contains (fields_of_mode place element md) f → Contains (field_part f) part → IsBehind
  of_mode mode.Reader f (zero, below, is) h = of_data f (sym (ap (λ (g : Field). g.typ) is)) h
  of_mode mode.Reader f (suc k, below, is) h = absurd (omega arith)
  of_mode mode.Writer f (zero, below, is) h = of_data f (sym (ap (λ (g : Field). g.typ) is)) h
  of_mode mode.Writer f (suc zero, below, is) h = of_mask f (sym (ap (λ (g : Field). g.typ) is)) h
  of_mode mode.Writer f (suc (suc k), below, is) h = absurd (omega arith)
  of_mode mode.ReadWriter f (zero, below, is) h = of_data f (sym (ap (λ (g : Field). g.typ) is)) h
  of_mode mode.ReadWriter f (suc zero, below, is) h = plain (plain_field place wmode_name (uint_at place 1)) (uint_straight place 1) refl (subst (λ g. Contains (field_part g) part) (sym is) h)
  of_mode mode.ReadWriter f (suc (suc zero), below, is) h = of_data f (sym (ap (λ (g : Field). g.typ) is)) h
  of_mode mode.ReadWriter f (suc (suc (suc zero)), below, is) h = of_mask f (sym (ap (λ (g : Field). g.typ) is)) h
  of_mode mode.ReadWriter f (suc (suc (suc (suc k))), below, is) h = absurd (omega arith)

  of_port : (md : PortMode) (f : Field) → Contains (port_fields element depth md place) f → Contains (field_part f) part → IsBehind
  of_port md f (zero, below, is) h = plain (plain_field place addr_name (uint_at place (address_bits depth))) (uint_straight place (address_bits depth)) refl (subst (λ g. Contains (field_part g) part) (sym is) h)
  of_port md f (suc zero, below, is) h = plain (plain_field place en_name (uint_at place 1)) (uint_straight place 1) refl (subst (λ g. Contains (field_part g) part) (sym is) h)
  of_port md f (suc (suc zero), below, is) h = plain (plain_field place clk_name (clock_at place)) (clock_straight place) refl (subst (λ g. Contains (field_part g) part) (sym is) h)
  of_port md f (suc (suc (suc k)), below, is) h = of_mode md f (k, omega arith, is) h

  behind : (md : PortMode) → Contains (leaves (port_type element depth md place)) part → IsBehind
  behind md c =
      let f = from_flat_map field_part (port_fields element depth md place) part (subst (λ l. Contains l part) (bundle_leaves place (port_fields element depth md place)) c) in
      of_port md f.0 f.1 f.2

line_of_field : (element : FirType) (depth : ℕ) (l : MemLine) (f : Field) → port_field element depth l ≡ Some f → (md : PortMode) × (place : Place) × (f.flip ≡ true) × (f.typ ≡ port_type element depth md place)
line_of_field element depth (line.MemPort at m name) f e = let same = some_same e in (m, name.place, ap (λ (g : Field). g.flip) (sym same), ap (λ (g : Field). g.typ) (sym same))
line_of_field element depth (line.Element at t) f e = none_some e
line_of_field element depth (line.Depth at n) f e = none_some e
line_of_field element depth (line.ReadLatency at n) f e = none_some e
line_of_field element depth (line.WriteLatency at n) f e = none_some e
line_of_field element depth (line.ReadUnder at u) f e = none_some e

not_false : (b : Bool) → not b ≡ false → b ≡ true
not_false true e = refl
not_false false e = absurd (true≢false e)

behind_steps : {a b c d : ℕ} {v w : List PathStep} → step.Field a ∷ step.Field b ∷ v ≡ step.Field c ∷ step.Field d ∷ w → v ≡ w
behind_steps e = cc

-- the way of a leaf that isn't flipped, behind its port and its field, is that of a leaf of the element
element_way : (memory : Memory) (element : FirType) (leaf : TypeLeaf) (port field : ℕ) (way : List PathStep) → Contains (leaves (ports_bundle memory element)) leaf → leaf.flip ≡ false → leaf.path ≡ step.Field port ∷ step.Field field ∷ way
    → (l : TypeLeaf) × Contains (leaves element) l × (l.path ≡ way)
element_way memory element leaf port field way c unflipped is =
    let fields : List Field = filter_map (port_field element (depth_of memory)) memory.lines in
    let outer = from_flat_map field_part fields leaf (subst (λ l. Contains l leaf) (bundle_leaves nowhere fields) c) in
    let from = from_filter_map (port_field element (depth_of memory)) memory.lines outer.0 outer.1 in
    let of = line_of_field element (depth_of memory) from.0 outer.0 from.2 in
    let part = from_map (under (step.Field outer.0.name.id ∷ []) outer.0.flip) (leaves outer.0.typ) leaf outer.2 in
    let turned : part.0.flip ≡ true = not_false part.0.flip (ap (λ b. if b then not part.0.flip else part.0.flip) (sym of.2) ∙ (ap (λ (z : TypeLeaf). z.flip) part.2 ∙ unflipped)) in
    let inner = behind element part.0 turned (depth_of memory) of.1 of.0 (subst (λ t. Contains (leaves t) part.0) of.3 part.1) in
    (inner.1, inner.2, behind_steps (ap (λ w. step.Field outer.0.name.id ∷ w) (sym inner.3) ∙ (ap (λ (z : TypeLeaf). z.path) part.2 ∙ is)))

-- Ports by name

same_number : (a b : ℕ) → (a == b) ≡ true → a ≡ b
same_number a b e = grind (arith, common_steps)

as_held : (r : Role) → part_of_role r ≡ Held → (n : ℕ) × (r ≡ role.Register n)
as_held (role.Input n) e = absurd cc
as_held role.Clock e = absurd cc
as_held role.Assigned e = absurd cc
as_held (role.Register n) e = (n, refl)
as_held (role.Captured n) e = absurd cc

module _ (texts : Texts) (design : Design) (net : Net) (serves : Serves texts design net) where
  abbrev placed : List Placed
  placed = serves.of.placed

  abbrev named_leaf : Placed → List PathStep → FlatLeaf
  named_leaf p way = record { path = p.path; component = p.c.declaration.name; way = way }

  entry_stands : (z : ℕ) (w : Standing) → slice_get (all_leaves placed) z ≡ Some w → IsLeafOf design (flat_of w)
  entry_stands z w e =
      let stands = serves.lists.stands z w e in
      record {
        path = w.0.path;
        m = w.0.m;
        c = w.0.c;
        leaf = w.1;
        stands = stands.0;
        is = own_flat texts design placed serves.of.elements net serves.of.is serves.of.well_formed serves.lists serves.has serves.typed w.0.path w.0.m w.0.c w.1 stands.0.declared stands.1;
      }

  names_stand : (p : Placed) (way : List PathStep) (x : ℕ) → Names (all_leaves placed) p way x → IsLeafOf design (named_leaf p way)
  names_stand p way x n = subst (λ w. IsLeafOf design (named_leaf p w)) n.is (entry_stands x (p, n.leaf) n.there)

  -- What a register takes.
  of_register : (path : List ℕ) (m : TypedModule) (c : Component) (leaf : TypeLeaf) (f : FlatLeaf) → Stands design path m c leaf → is_register c.declaration.sort ≡ true
      → TakesFrom design (flat m path (leaf_of c leaf)) f → IsLeafOf design f
  of_register path m c leaf f stands register takes =
      let of = serves.of in
      let none = register_target c.declaration.sort register in
      let entry = serves.lists.own path m c leaf stands none in
      let p : Placed = record { path = path; m = m; c = c } in
      let y : Standing = (p, leaf) in
      let there = get_item net.leaves entry.0 (subst (λ n. entry.0 < n) (sym of.is.counted) (below_length (all_leaves placed) entry.0 y entry.1)) in
      let part : part_of y ≡ Held = part_is y false true (is_input_of_main path c leaf) (is_late_read c.declaration.sort leaf) (serves.typed.registers path m c leaf stands register) register refl refl in
      let held = as_held there.0.role ((of.is.leaves_are entry.0 y there.0 entry.1 there.1).part ∙ part) in
      let kept = of.well_formed.registers entry.0 held.0 (record { leaf = there.0; there = there.1; is = held.1 }) in
      let own = own_flat texts design placed of.elements net of.is of.well_formed serves.lists serves.has serves.typed path m c leaf stands.declared none in
      let taken = of.is.all_takes held.0 kept.0 y f kept.1 (ap (slice_get (all_leaves placed)) kept.2 ∙ entry.1) (subst (λ x. TakesFrom design x f) own takes) in
      subst (IsLeafOf design) taken.3 (entry_stands taken.0 taken.1 taken.2)

  -- What a memory takes.
  module _ (p : Placed) (memory : Memory) (sort : p.c.declaration.sort ≡ A_memory memory) (leaf : TypeLeaf) (stands : Stands design p.path p.m p.c leaf) where
    none : target_in p.c.declaration.sort ≡ None
    none = ap target_in sort

    -- it is in the net
    memory_there : (element : FirType) × (nm : NetMemory) × IsMemoryOf texts placed p memory element nm
    memory_there =
        let is = serves.of.is in
        let entry = serves.lists.own p.path p.m p.c leaf stands none in
        let at = of_component placed entry.0 (p, leaf) entry.1 in
        let k = filter_map_at (λ (q : Placed). memory_in q q.c.declaration.sort) placed at.0 p (p, memory) at.1 (ap (memory_in p) sort) in
        let below : k.0 < length (all_memories placed) = below_length (all_memories placed) k.0 (p, memory) k.1 in
        let nm = get_item net.memories k.0 (subst (λ n. k.0 < n) (sym is.all_memories_there) below) in
        let element = get_item serves.of.elements k.0 (subst (λ n. k.0 < n) (sym is.all_elements_there) below) in
        (element.0, nm.0, is.memories k.0 p memory element.0 nm.0 k.1 element.1 nm.1)

    -- a leaf of the memory as the statements of its module see it
    plain_flat : (way : List PathStep) → flat p.m p.path (record { component = p.c.declaration.name; way = way }) ≡ named_leaf p way
    plain_flat way =
        ap (λ o. flat_through p.path p.c.declaration.name o way) (ap (option_and_then (λ (x : Component). target_in x.declaration.sort)) stands.declared ∙ none)
        ∙ flat_none p.path p.c.declaration.name way

    port_there : (port : MemoryPort) → Contains (memory_ports memory) port → (np : NetPort) × IsPortOf (all_leaves placed) p memory memory_there.0 port np
    port_there port among =
        let of = memory_there.2 in
        let at = get_there (memory_ports memory) port among in
        let np = get_item memory_there.1.ports among.0 (subst (λ n. among.0 < n) (sym of.all_ports) (below_length (memory_ports memory) among.0 port at)) in
        (np.0, of.ports among.0 port np.0 at np.1)

    module _ (port : MemoryPort) (np : NetPort) (of : IsPortOf (all_leaves placed) p memory memory_there.0 port np) where
      abbrev Shown : List PathStep → Type 0
      Shown by = IsLeafOf design (named_leaf p (step.Field port.name ∷ by))

      shown_addr : Shown (step.Field addr_name ∷ [])
      shown_addr = names_stand p _ np.addr of.addr

      shown_en : Shown (step.Field en_name ∷ [])
      shown_en = names_stand p _ np.en of.en

      shown_mode : has_mode port.mode ≡ true → Shown (step.Field wmode_name ∷ [])
      shown_mode e = let m = of.mode e in names_stand p _ m.0 m.2

      read_shown : (md : PortMode) → port.mode ≡ md → (by : ℕ) → Contains (read_goes_by md) by → Shown (step.Field by ∷ [])
      read_shown mode.Reader e by (zero, below, is) = subst (λ b. Shown (step.Field b ∷ [])) is shown_addr
      read_shown mode.Reader e by (suc zero, below, is) = subst (λ b. Shown (step.Field b ∷ [])) is shown_en
      read_shown mode.Reader e by (suc (suc k), below, is) = absurd (omega arith)
      read_shown mode.Writer e by (zero, below, is) = subst (λ b. Shown (step.Field b ∷ [])) is shown_addr
      read_shown mode.Writer e by (suc zero, below, is) = subst (λ b. Shown (step.Field b ∷ [])) is shown_en
      read_shown mode.Writer e by (suc (suc k), below, is) = absurd (omega arith)
      read_shown mode.ReadWriter e by (zero, below, is) = subst (λ b. Shown (step.Field b ∷ [])) is shown_addr
      read_shown mode.ReadWriter e by (suc zero, below, is) = subst (λ b. Shown (step.Field b ∷ [])) is shown_en
      read_shown mode.ReadWriter e by (suc (suc zero), below, is) = subst (λ b. Shown (step.Field b ∷ [])) is (shown_mode (ap has_mode e))
      read_shown mode.ReadWriter e by (suc (suc (suc k)), below, is) = absurd (omega arith)

      module _ (l : TypeLeaf) (inside : Contains (leaves memory_there.0) l) where
        all_shown : (field : ℕ) (numbers : List ℕ) → NameAll (all_leaves placed) p port.name field memory_there.0 numbers → Shown (step.Field field ∷ l.path)
        all_shown field numbers all =
            let at = get_there (leaves memory_there.0) l inside in
            let x = get_item numbers inside.0 (subst (λ n. inside.0 < n) (sym all.counted) (below_length (leaves memory_there.0) inside.0 l at)) in
            names_stand p _ x.0 (all.each inside.0 x.0 l x.1 at)

        data_shown : may_write port.mode ≡ true → Shown (step.Field (written_field port.mode) ∷ l.path)
        data_shown e = let w = of.write e in all_shown (written_field port.mode) w.0.leaves w.2

        masks_shown : may_write port.mode ≡ true → Shown (step.Field (mask_field port.mode) ∷ l.path)
        masks_shown e = let w = of.write e in all_shown (mask_field port.mode) w.0.masks w.3

        write_shown : (md : PortMode) → port.mode ≡ md → (by : List PathStep) → Contains (write_goes_by md l.path) by → Shown by
        write_shown mode.Reader e by (k, below, is) = absurd (omega arith)
        write_shown mode.Writer e by (zero, below, is) = subst Shown is shown_en
        write_shown mode.Writer e by (suc zero, below, is) = subst Shown is shown_addr
        write_shown mode.Writer e by (suc (suc zero), below, is) = subst Shown (ap (λ m. step.Field (written_field m) ∷ l.path) e ∙ is) (data_shown (ap may_write e))
        write_shown mode.Writer e by (suc (suc (suc zero)), below, is) = subst Shown (ap (λ m. step.Field (mask_field m) ∷ l.path) e ∙ is) (masks_shown (ap may_write e))
        write_shown mode.Writer e by (suc (suc (suc (suc k))), below, is) = absurd (omega arith)
        write_shown mode.ReadWriter e by (zero, below, is) = subst Shown is shown_en
        write_shown mode.ReadWriter e by (suc zero, below, is) = subst Shown is shown_addr
        write_shown mode.ReadWriter e by (suc (suc zero), below, is) = subst Shown (ap (λ m. step.Field (written_field m) ∷ l.path) e ∙ is) (data_shown (ap may_write e))
        write_shown mode.ReadWriter e by (suc (suc (suc zero)), below, is) = subst Shown (ap (λ m. step.Field (mask_field m) ∷ l.path) e ∙ is) (masks_shown (ap may_write e))
        write_shown mode.ReadWriter e by (suc (suc (suc (suc zero))), below, is) = subst Shown is (shown_mode (ap has_mode e))
        write_shown mode.ReadWriter e by (suc (suc (suc (suc (suc k)))), below, is) = absurd (omega arith)

    of_write : (port : ℕ) (way : List PathStep) (writer : MemoryPort) (by : List PathStep) → IsRead p.c leaf memory port way → Contains (memory_ports memory) writer → Contains (write_goes_by writer.mode way) by
        → IsLeafOf design (flat p.m p.path (record { component = p.c.declaration.name; way = step.Field writer.name ∷ by }))
    of_write port way writer by read among goes =
        let bundle = memory_there.2.is_element.bundle in
        let l = element_way memory memory_there.0 leaf port read.field way (subst (λ ls. Contains ls leaf) bundle stands.listed) read.source read.is in
        let np = port_there writer among in
        subst (IsLeafOf design) (sym (plain_flat (step.Field writer.name ∷ by)))
        (write_shown writer np.0 np.1 l.0 l.1 writer.mode refl by (subst (λ w. Contains (write_goes_by writer.mode w) by) (sym l.2) goes))

    of_read : (name : ℕ) (port : MemoryPort) (by : ℕ) → port_named memory name ≡ Some port → Contains (read_goes_by port.mode) by
        → IsLeafOf design (flat p.m p.path (record { component = p.c.declaration.name; way = step.Field name ∷ step.Field by ∷ [] }))
    of_read name port by named goes =
        let f = found (λ q. q.name == name) (memory_ports memory) port named in
        let np = port_there port f.1 in
        subst (IsLeafOf design) (sym (plain_flat (step.Field name ∷ step.Field by ∷ [])))
        (subst (λ n. IsLeafOf design (named_leaf p (step.Field n ∷ step.Field by ∷ []))) (same_number port.name name f.0) (read_shown port np.0 np.1 port.mode refl by goes))

  taken : (x y : FlatLeaf) → TakesFrom design x y → IsLeafOf design y
  taken x y (by_live_connect path m c leaf z stands register mentioned) = of_register path m c leaf (flat m path z) stands register (by_live_connect path m c leaf z stands register mentioned)
  taken x y (by_reset path m c leaf clock reset init z stands sort mentioned) = of_register path m c leaf (flat m path z) stands (ap is_register sort) (by_reset path m c leaf clock reset init z stands sort mentioned)
  taken x y (by_init path m c leaf clock reset init z stands sort mentioned) = of_register path m c leaf (flat m path z) stands (ap is_register sort) (by_init path m c leaf clock reset init z stands sort mentioned)
  taken x y (by_write path m c leaf memory port way writer by stands read among goes) = of_write (record { path = path; m = m; c = c }) memory read.sort leaf stands port way writer by read among goes
  taken x y (by_read path m c leaf memory name way port by stands read late named goes) = of_read (record { path = path; m = m; c = c }) memory read.sort leaf stands name port by named goes

  pub takes_leaves : TakesLeaves design
  takes_leaves = record { closed = taken }
