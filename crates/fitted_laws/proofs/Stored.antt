-- The slots of memories and of instances.
use Rattle.std.proofs.Common.{◌≡◌, ℕ, ◌+◌, ◌==◌, ◌≤◌, Bool, true, false, cond, List, [], ◌∷◌, ◌++◌, map, length, Some, refl, sym, ap, ap₂, ◌∙◌, subst, arith, length-append}
use Rattle.std.specs.Prelude.{Contains, find, option_map}
use Rattle.std.specs.List.{flat_map, filter_map}
use Rattle.std.proofs.lemmas.List.{length-map}
use Rattle.place_text.specs.declared.place.Place.{Place}
use Rattle.fir_types.specs.declared.fir_type.FirType.{FirType}
use Rattle.fir_types.specs.declared.fir_type.Field.{Field}
use Rattle.fir_types.specs.declared.memory.Memory.{Memory}
use Rattle.fir_types.specs.declared.memory.MemLine.{MemLine}
use Rattle.fir_types.specs.declared.memory.MemLine.TheVariants as line
use Rattle.fir_types.specs.declared.memory.PortMode.{PortMode}
use Rattle.fir_types.specs.declared.memory.PortMode.TheVariants as mode
use Rattle.fir_types.specs.declared.port.Port.{Port}
use Rattle.fir_types.specs.declared.name.Name.{Name}
use Rattle.fir_types.specs.Memories.{element_of, depth_of}
use Rattle.fir_types.specs.Bundles.{instance_of, instance_field, memory_of, port_field, port_type, address_bits, mask_of, plain_field, uint_at, clock_at, flipped_field, fields_of_mode, addr_name, en_name, clk_name, data_name, mask_name, rdata_name, wmode_name, wdata_name, wmask_name}
use Rattle.fir_tree.specs.declared.circuit.Module.{Module}
use Rattle.fir_tree.specs.declared.part.Part.{Part}
use Rattle.fir_tree.specs.declared.part.Flow.TheVariants.{Source}
use Rattle.fir_tree.specs.Parts.{source_of}
use Rattle.fir_tree.specs.Parts as parts
use Rattle.type_check.specs.Texts.{twice_in}
use Rattle.type_check.specs.Memories.{memory_faults}
use Rattle.width_rules.specs.declared.component.Component.{Component}
use Rattle.width_rules.specs.declared.slot.Slot.{Slot}
use Rattle.width_rules.specs.declared.slot.Slot.TheVariants as slot
use Rattle.width_rules.specs.Places.{Spot, spots, size, slots_from, open_spots, node_spots}
use Rattle.width_rules.specs.Layers.{field_spots, node_field_spots}
use Rattle.width_rules.specs.Sources.{formula_of, component_or_none}
use Rattle.width_rules.specs.Circuits.{ports_from, open_ports, modules_from, all_open, instance_in, instance_component, memory_slots, line_slots, mode_slots, mask_slots}
use Rattle.width_rules.proofs.Bounds.{Each}
use Rattle.width_rules.proofs.Spots.{node-bundle}
use Rattle.fir_names.proofs.Graphs.{some_same}
use Rattle.circuit_laws.specs.Names.{Every}
use Rattle.circuit_laws.proofs.Scoping.{Distinct}
use Rattle.fir_types.specs.Equivalence.{a_uint}
use Rattle.fitted_laws.proofs.Asyncs.{OneSlots, one_spots, slots_one, fixed_one, with_field, last_field, unsigned_node, node-clock}
use Rattle.fitted_laws.proofs.Filling.{size-bundle, size-fields, size-unsigned, size-clock}
use Rattle.fitted_laws.proofs.Steps.{IsGood}
use Rattle.fitted_laws.proofs.Once.{instance_once, memory_once}
use Rattle.fitted_laws.proofs.Known.{Marks, Marked}
use Rattle.fitted_laws.proofs.Walking.{Begins}
use Rattle.fitted_laws.proofs.Ruling.{IsFree, free_placed, slots_free, length-slots}
use Rattle.fir_names.proofs.Members.{Contains-first, Contains-later}

abbrev pub AreFree : Marks → List Slot → Type 0
AreFree ms slots = Each (IsFree ms) (map formula_of slots)

free_append : (ms : Marks) (xs ys : List Slot) → AreFree ms xs → AreFree ms ys → AreFree ms (xs ++ ys)
free_append ms [] ys h k = k
free_append ms (x ∷ xs) ys h k = (h.0, free_append ms xs ys h.1 k)

fixed_free : (ms : Marks) (n : ℕ) → IsFree ms (formula_of (slot.Fixed n))
fixed_free ms n x e = absurd cc

-- Memories

masks_free : (ms : Marks) (ss : List Spot) → AreFree ms (map (λ (spot : Spot). slot.Fixed 1) ss)
masks_free ms [] = tt
masks_free ms (s ∷ ss) = (fixed_free ms 1, masks_free ms ss)

line_free : (ms : Marks) (memory : Memory) (element : List Slot) → AreFree ms element → (l : MemLine) → AreFree ms (line_slots memory element l)
line_free ms memory element h (line.MemPort at mode.Reader name) = (fixed_free ms _, (fixed_free ms 1, h))
line_free ms memory element h (line.MemPort at mode.Writer name) = (fixed_free ms _, (fixed_free ms 1, free_append ms element (mask_slots memory) h (masks_free ms _)))
line_free ms memory element h (line.MemPort at mode.ReadWriter name) =
    (fixed_free ms _, (fixed_free ms 1, free_append ms element (slot.Fixed 1 ∷ (element ++ mask_slots memory)) h (fixed_free ms 1, free_append ms element (mask_slots memory) h (masks_free ms _))))
line_free ms memory element h (line.Element at typ) = tt
line_free ms memory element h (line.Depth at n) = tt
line_free ms memory element h (line.ReadLatency at n) = tt
line_free ms memory element h (line.WriteLatency at n) = tt
line_free ms memory element h (line.ReadUnder at u) = tt

lines_free : (ms : Marks) (memory : Memory) (element : List Slot) → AreFree ms element → (ls : List MemLine) → AreFree ms (flat_map (line_slots memory element) ls)
lines_free ms memory element h [] = tt
lines_free ms memory element h (l ∷ ls) = free_append ms (line_slots memory element l) _ (line_free ms memory element h l) (lines_free ms memory element h ls)

abbrev total : List ℕ → ℕ
total [] = 0
total (n ∷ ns) = n + total ns

fields_total : (fs : List Field) → length (flat_map field_spots fs) ≡ total (map (λ (f : Field). size f.typ) fs)
fields_total [] = refl
fields_total (f ∷ fs) = size-fields f fs ∙ ap (λ n. size f.typ + n) (fields_total fs)

abbrev fields_of_port : FirType → ℕ → PortMode → Place → List Field
fields_of_port element depth m place =
    plain_field place addr_name (uint_at place (address_bits depth)) ∷ plain_field place en_name (uint_at place 1) ∷ plain_field place clk_name (clock_at place) ∷ fields_of_mode place element m

mode_size : (memory : Memory) (element : List Slot) (place : Place) (m : PortMode) → length element ≡ size (element_of memory)
    → size (port_type (element_of memory) (depth_of memory) m place) ≡ length (line_slots memory element (line.MemPort place m (record { id = 0; place = place })))
mode_size memory element place m h =
    size-bundle (port_type (element_of memory) (depth_of memory) m place) (fields_of_port (element_of memory) (depth_of memory) m place) refl
    ∙ fields_total (fields_of_port (element_of memory) (depth_of memory) m place) ∙ by m
  where
    a : size (uint_at place (address_bits (depth_of memory))) ≡ 1
    a = size-unsigned (uint_at place (address_bits (depth_of memory))) (Some (address_bits (depth_of memory))) refl

    b : size (uint_at place 1) ≡ 1
    b = size-unsigned (uint_at place 1) (Some 1) refl

    c : size (clock_at place) ≡ 0
    c = size-clock (clock_at place) refl

    k : length (mask_slots memory) ≡ size (mask_of (element_of memory))
    k = length-map (spots (mask_of (element_of memory))) (λ (spot : Spot). slot.Fixed 1)

    by : (m : PortMode) → total (map (λ (f : Field). size f.typ) (fields_of_port (element_of memory) (depth_of memory) m place))
        ≡ length (line_slots memory element (line.MemPort place m (record { id = 0; place = place })))
    by mode.Reader = omega (arith, a, b, c, h)
    by mode.Writer = omega (arith, a, b, c, h, k, length-append element (mask_slots memory))
    by mode.ReadWriter = omega (arith, a, b, c, h, k, length-append element (slot.Fixed 1 ∷ (element ++ mask_slots memory)), length-append element (mask_slots memory))

-- the line of a port has a slot for each place of the port
pub line_size : (memory : Memory) (element : List Slot) (at : Place) (m : PortMode) (name : Name) → length element ≡ size (element_of memory)
    → length (line_slots memory element (line.MemPort at m name)) ≡ size (port_type (element_of memory) (depth_of memory) m name.place)
line_size memory element at m name h = same m ∙ sym (mode_size memory element name.place m h) where
  same : (m : PortMode) → length (line_slots memory element (line.MemPort at m name)) ≡ length (line_slots memory element (line.MemPort name.place m (record { id = 0; place = name.place })))
  same mode.Reader = refl
  same mode.Writer = refl
  same mode.ReadWriter = refl

abbrev fields_of : Memory → List MemLine → List Field
fields_of memory lines = filter_map (port_field (element_of memory) (depth_of memory)) lines

lines_counted : (memory : Memory) (element : List Slot) → length element ≡ size (element_of memory) → (lines : List MemLine)
    → length (flat_map (line_slots memory element) lines) ≡ length (flat_map field_spots (fields_of memory lines))
lines_counted memory element h [] = refl
lines_counted memory element h (line.MemPort at m name ∷ lines) =
    length-append (line_slots memory element (line.MemPort at m name)) (flat_map (line_slots memory element) lines)
    ∙ ap₂ (λ x y. x + y) (line_size memory element at m name h) (lines_counted memory element h lines)
    ∙ sym (size-fields (record { flip = true; name = name; typ = port_type (element_of memory) (depth_of memory) m name.place }) (fields_of memory lines))
lines_counted memory element h (line.Element at typ ∷ lines) = lines_counted memory element h lines
lines_counted memory element h (line.Depth at n ∷ lines) = lines_counted memory element h lines
lines_counted memory element h (line.ReadLatency at n ∷ lines) = lines_counted memory element h lines
lines_counted memory element h (line.WriteLatency at n ∷ lines) = lines_counted memory element h lines
lines_counted memory element h (line.ReadUnder at u ∷ lines) = lines_counted memory element h lines

-- the ports of a memory are AsyncResets where its elements are

module _ (memory : Memory) (element : List Slot) (ones : OneSlots (node_spots (element_of memory)) element) where
  abbrev e : FirType
  e = element_of memory

  uint_one : (place : Place) (n : ℕ) (x : Slot) → OneSlots (node_spots (uint_at place n)) (x ∷ [])
  uint_one place n x = subst (λ ss. OneSlots ss (x ∷ [])) (sym (unsigned_node {t = uint_at place n} (a_uint (Some n) refl))) (tt, tt)

  clock_one : (place : Place) → OneSlots (node_spots (clock_at place)) []
  clock_one place = subst (λ ss. OneSlots ss []) (sym (node-clock (clock_at place) refl)) tt

  mask_one : OneSlots (node_spots (mask_of e)) (mask_slots memory)
  mask_one = fixed_one (node_spots (mask_of e)) (spots (mask_of e)) (spots (mask_of e)) (one_spots (mask_of e)) refl

  mode_one : (place : Place) (m : PortMode) → OneSlots (flat_map node_field_spots (fields_of_mode place e m)) (mode_slots memory element m)
  mode_one place mode.Reader = last_field (flipped_field place data_name e) element ones
  mode_one place mode.Writer =
      with_field (plain_field place data_name e) (plain_field place mask_name (mask_of e) ∷ []) element (mask_slots memory) ones
      (last_field (plain_field place mask_name (mask_of e)) (mask_slots memory) mask_one)
  mode_one place mode.ReadWriter =
      let masks : List Field = plain_field place wmask_name (mask_of e) ∷ [] in
      let data' : List Field = plain_field place wdata_name e ∷ masks in
      with_field (flipped_field place rdata_name e) (plain_field place wmode_name (uint_at place 1) ∷ data') element (slot.Fixed 1 ∷ (element ++ mask_slots memory)) ones
      (with_field (plain_field place wmode_name (uint_at place 1)) data' (slot.Fixed 1 ∷ []) (element ++ mask_slots memory) (uint_one place 1 (slot.Fixed 1))
      (with_field (plain_field place wdata_name e) masks element (mask_slots memory) ones (last_field (plain_field place wmask_name (mask_of e)) (mask_slots memory) mask_one)))

  port_one : (at : Place) (m : PortMode) (name : Name) → OneSlots (node_spots (port_type e (depth_of memory) m name.place)) (line_slots memory element (line.MemPort at m name))
  port_one at m name =
      let place : Place = name.place in
      let d : ℕ = depth_of memory in
      let clks : List Field = plain_field place clk_name (clock_at place) ∷ fields_of_mode place e m in
      let ens : List Field = plain_field place en_name (uint_at place 1) ∷ clks in
      let a : Slot = slot.Fixed (address_bits d) in
      let own : List Slot = mode_slots memory element m in
      subst (λ ss. OneSlots ss (a ∷ (slot.Fixed 1 ∷ own))) (sym (node-bundle (port_type e d m place) (fields_of_port e d m place) refl))
      (with_field (plain_field place addr_name (uint_at place (address_bits d))) ens (a ∷ []) (slot.Fixed 1 ∷ own) (uint_one place (address_bits d) a)
      (with_field (plain_field place en_name (uint_at place 1)) clks (slot.Fixed 1 ∷ []) own (uint_one place 1 (slot.Fixed 1))
      (with_field (plain_field place clk_name (clock_at place)) (fields_of_mode place e m) [] own (clock_one place) (mode_one place m))))

  lines_one : (lines : List MemLine) → OneSlots (flat_map node_field_spots (fields_of memory lines)) (flat_map (line_slots memory element) lines)
  lines_one [] = tt
  lines_one (line.MemPort at m name ∷ lines) =
      with_field (record { flip = true; name = name; typ = port_type e (depth_of memory) m name.place }) (fields_of memory lines) (line_slots memory element (line.MemPort at m name))
      (flat_map (line_slots memory element) lines) (port_one at m name) (lines_one lines)
  lines_one (line.Element at typ ∷ lines) = lines_one lines
  lines_one (line.Depth at n ∷ lines) = lines_one lines
  lines_one (line.ReadLatency at n ∷ lines) = lines_one lines
  lines_one (line.WriteLatency at n ∷ lines) = lines_one lines
  lines_one (line.ReadUnder at u ∷ lines) = lines_one lines

  memory_one : OneSlots (node_spots (memory_of memory)) (memory_slots memory element)
  memory_one = subst (λ ss. OneSlots ss (memory_slots memory element)) (sym (node-bundle (memory_of memory) (fields_of memory memory.lines) refl)) (lines_one memory.lines)

pub memory_good : (ms : Marks) (memory : Memory) (element : List Slot) → memory_faults memory ≡ [] → length element ≡ size (element_of memory)
    → OneSlots (node_spots (element_of memory)) element → AreFree ms element
    → IsGood (Marked ms) (record { part = source_of (memory_of memory); slots = memory_slots memory element })
memory_good ms memory element e h ones f = record {
  counted = lines_counted memory element h memory.lines ∙ sym (size-bundle (memory_of memory) (fields_of memory memory.lines) refl);
  once = memory_once memory e;
  placed = free_placed ms Source (spots (memory_of memory)) (map formula_of (memory_slots memory element)) (lines_free ms memory element f memory.lines);
  ones = memory_one memory element ones;
}

-- Instances

-- the ports of a module have different names, and each bundle in them different fields
pub record HasGoodPorts (m : Module) : Type 0 where
  pub names : Distinct (map (λ (p : Port). p.name) m.ports)
  pub once : Every Port (λ p. twice_in p.typ ≡ []) m.ports

pub record IsInstance (ms : List Module) (name n count : ℕ) (part : Part) (sized : Component) : Type 0 where
  pub holder : Module
  pub among : Contains ms holder
  pub part_is : parts.instance_part holder ≡ part
  pub from : ℕ
  pub sized_is : sized ≡ instance_component (record { holder = holder; ports = ports_from from holder.ports })
  pub within : from + open_ports holder.ports ≤ count

pub instance_there : (modules : List Module) (name n : ℕ) (part : Part) → parts.instance_in modules name ≡ Some part
    → IsInstance modules name n (n + all_open modules) part (instance_in (modules_from n modules) name)
instance_there [] name n part e = cc
instance_there (m ∷ modules) name n part e = by (m.name.id == name) refl (instance_there modules name (n + open_ports m.ports) part) where
  by : (b : Bool) → (m.name.id == name) ≡ b
      → (parts.instance_in modules name ≡ Some part → IsInstance modules name (n + open_ports m.ports) ((n + open_ports m.ports) + all_open modules) part (instance_in (modules_from (n + open_ports m.ports) modules) name))
      → IsInstance (m ∷ modules) name n (n + all_open (m ∷ modules)) part (instance_in (modules_from n (m ∷ modules)) name)
  by true q rest =
      let is : parts.instance_part m ≡ part = some_same (subst (λ b. option_map parts.instance_part (cond b (Some m) (find (λ x. x.name.id == name) modules)) ≡ Some part) q e) in
      record {
        holder = m;
        among = Contains-first modules;
        part_is = is;
        from = n;
        sized_is = ap (λ b. component_or_none (option_map instance_component (cond b (Some (record { holder = m; ports = ports_from n m.ports })) (find (λ x. x.holder.name.id == name) (modules_from (n + open_ports m.ports) modules))))) q;
        within = omega arith;
      }
  by false q rest =
      let r = rest (subst (λ b. option_map parts.instance_part (cond b (Some m) (find (λ x. x.name.id == name) modules)) ≡ Some part) q e) in
      record {
        holder = r.holder;
        among = Contains-later m modules r.among;
        part_is = r.part_is;
        from = r.from;
        sized_is = ap (λ b. component_or_none (option_map instance_component (cond b (Some (record { holder = m; ports = ports_from n m.ports })) (find (λ x. x.holder.name.id == name) (modules_from (n + open_ports m.ports) modules))))) q ∙ r.sized_is;
        within = omega (arith, r.within);
      }

ports_counted : (n : ℕ) (ports : List Port) → length (flat_map (λ (slots : List Slot). slots) (ports_from n ports)) ≡ length (flat_map field_spots (map instance_field ports))
ports_counted n [] = refl
ports_counted n (p ∷ ps) =
    length-append (slots_from n (spots p.typ)) _ ∙ ap₂ (λ x y. x + y) (length-slots n (spots p.typ)) (ports_counted (n + open_spots (spots p.typ)) ps) ∙ sym (size-fields (instance_field p) (map instance_field ps))

ports_one : (n : ℕ) (ports : List Port) → OneSlots (flat_map node_field_spots (map instance_field ports)) (flat_map (λ (slots : List Slot). slots) (ports_from n ports))
ports_one n [] = tt
ports_one n (p ∷ ps) = with_field (instance_field p) (map instance_field ps) (slots_from n (spots p.typ)) _ (slots_one n p.typ) (ports_one (n + open_spots (spots p.typ)) ps)

pub ports_free : (ms : Marks) (count n : ℕ) → Begins count ms → (ports : List Port) → n + open_ports ports ≤ count → AreFree ms (flat_map (λ (slots : List Slot). slots) (ports_from n ports))
ports_free ms count n b [] h = tt
ports_free ms count n b (p ∷ ps) h =
    free_append ms (slots_from n (spots p.typ)) _ (slots_free ms n (spots p.typ) (λ x lo hi. b x (omega (arith, hi, h)))) (ports_free ms count (n + open_spots (spots p.typ)) b ps (omega (arith, h)))

pub instance_good : (ms : Marks) (count from : ℕ) (m : Module) → HasGoodPorts m → Begins count ms → from + open_ports m.ports ≤ count
    → IsGood (Marked ms) (instance_component (record { holder = m; ports = ports_from from m.ports }))
instance_good ms count from m g b h = record {
  counted = ports_counted from m.ports ∙ sym (size-bundle (instance_of m.ports) (map instance_field m.ports) refl);
  once = instance_once m.ports g.names g.once;
  placed = free_placed ms Source (spots (instance_of m.ports)) _ (ports_free ms count from b m.ports h);
  ones = subst (λ ss. OneSlots ss (flat_map (λ (slots : List Slot). slots) (ports_from from m.ports))) (sym (node-bundle (instance_of m.ports) (map instance_field m.ports) refl)) (ports_one from m.ports);
}
