-- The slots of memories and of instances: as many as places, and which of them are numbers.
use Rattle.std.proofs.Common.{◌≡◌, ℕ, suc, ◌+◌, ◌==◌, Bool, true, false, cond, List, [], ◌∷◌, ◌++◌, map, length, Option, Some, refl, sym, ap, ap₂, ◌∙◌, arith, length-append}
use Rattle.std.specs.Prelude.{find, option_map}
use Rattle.std.specs.List.{flat_map, filter_map}
use Rattle.std.proofs.lemmas.Grind.{common_steps}
use Rattle.std.proofs.lemmas.List.{length-map}
use Rattle.place_text.specs.declared.place.Place.{Place}
use Rattle.fir_types.specs.declared.fir_type.FirType.{FirType, the_lemmas}
use Rattle.fir_types.specs.declared.fir_type.Field.{Field}
use Rattle.fir_types.specs.declared.fir_type.Shape.TheVariants as shape
use Rattle.fir_types.specs.declared.memory.Memory.{Memory}
use Rattle.fir_types.specs.declared.memory.MemLine.{MemLine}
use Rattle.fir_types.specs.declared.memory.MemLine.TheVariants as line
use Rattle.fir_types.specs.declared.memory.PortMode.{PortMode}
use Rattle.fir_types.specs.declared.memory.PortMode.TheVariants as mode
use Rattle.fir_types.specs.declared.port.Port.{Port}
use Rattle.fir_types.specs.declared.name.Name.{Name}
use Rattle.fir_types.specs.Memories.{element_of, depth_of}
use Rattle.fir_types.specs.Bundles.{instance_of, instance_field, memory_of, port_field, port_type, address_bits, mask_of, plain_field, uint_at, clock_at, fields_of_mode, addr_name, en_name, clk_name}
use Rattle.fir_tree.specs.declared.circuit.Module.{Module}
use Rattle.fir_tree.specs.Parts as parts
use Rattle.width_rules.specs.declared.slot.Slot.{Slot}
use Rattle.width_rules.specs.declared.slot.Slot.TheVariants as slot
use Rattle.width_rules.specs.Places.{Spot, spots, size, turned, slots_from, is_open, open_spots}
use Rattle.width_rules.specs.Layers.{field_spots}
use Rattle.width_rules.specs.Sources.{component_or_none}
use Rattle.width_rules.specs.Circuits.{ports_from, open_ports, modules_from, instance_in, instance_component, memory_slots, line_slots, mask_slots}
use Rattle.width_rules.proofs.Spots.{spots-bundle, spots-field}

-- Sizes

size-unsigned : (t : FirType) (w : Option ℕ) → t.shape ≡ shape.Unsigned w → size t ≡ 1
size-unsigned t w e = grind (arith, common_steps, the_lemmas)

size-clock : (t : FirType) → t.shape ≡ shape.Clock → size t ≡ 0
size-clock t e = grind (arith, common_steps, the_lemmas)

size-bundle : (t : FirType) (fs : List Field) → t.shape ≡ shape.Bundle fs → size t ≡ length (flat_map field_spots fs)
size-bundle t fs e = ap length (spots-bundle t fs e)

size-fields : (f : Field) (fs : List Field) → length (flat_map field_spots (f ∷ fs)) ≡ size f.typ + length (flat_map field_spots fs)
size-fields f fs = length-append (field_spots f) (flat_map field_spots fs)
    ∙ ap (λ n. n + length (flat_map field_spots fs)) (ap length (spots-field f) ∙ length-map (spots f.typ) (turned f.flip))

pub length-slots : (n : ℕ) (ss : List Spot) → length (slots_from n ss) ≡ length ss
length-slots n [] = refl
length-slots n (s ∷ ss) = ap suc (length-slots (n + is_open s.width) ss)

-- Memories

abbrev total : List ℕ → ℕ
total [] = 0
total (n ∷ ns) = n + total ns

fields_total : (fs : List Field) → length (flat_map field_spots fs) ≡ total (map (λ (f : Field). size f.typ) fs)
fields_total [] = refl
fields_total (f ∷ fs) = size-fields f fs ∙ ap (λ n. size f.typ + n) (fields_total fs)

abbrev fields_of_port : FirType → ℕ → PortMode → Place → List Field
fields_of_port element depth m place =
    plain_field place addr_name (uint_at place (address_bits depth)) ∷ plain_field place en_name (uint_at place 1) ∷ plain_field place clk_name (clock_at place) ∷ fields_of_mode place element m

module _ (memory : Memory) (element : List Slot) (counted : length element ≡ size (element_of memory)) where
  line_size : (at : Place) (m : PortMode) (name : Name) → length (line_slots memory element (line.MemPort at m name)) ≡ size (port_type (element_of memory) (depth_of memory) m name.place)
  line_size at m name = by m ∙ sym (size-bundle (port_type (element_of memory) (depth_of memory) m name.place) (fields_of_port (element_of memory) (depth_of memory) m name.place) refl
      ∙ fields_total (fields_of_port (element_of memory) (depth_of memory) m name.place))
    where
      a : size (uint_at name.place (address_bits (depth_of memory))) ≡ 1
      a = size-unsigned (uint_at name.place (address_bits (depth_of memory))) (Some (address_bits (depth_of memory))) refl

      b : size (uint_at name.place 1) ≡ 1
      b = size-unsigned (uint_at name.place 1) (Some 1) refl

      c : size (clock_at name.place) ≡ 0
      c = size-clock (clock_at name.place) refl

      k : length (mask_slots memory) ≡ size (mask_of (element_of memory))
      k = length-map (spots (mask_of (element_of memory))) (λ (spot : Spot). slot.Fixed 1)

      by : (m : PortMode) → length (line_slots memory element (line.MemPort at m name)) ≡ total (map (λ (f : Field). size f.typ) (fields_of_port (element_of memory) (depth_of memory) m name.place))
      by mode.Reader = omega (arith, a, b, c, counted)
      by mode.Writer = omega (arith, a, b, c, counted, k, length-append element (mask_slots memory))
      by mode.ReadWriter = omega (arith, a, b, c, counted, k, length-append element (slot.Fixed 1 ∷ (element ++ mask_slots memory)), length-append element (mask_slots memory))

  lines_counted : (lines : List MemLine) → length (flat_map (line_slots memory element) lines) ≡ length (flat_map field_spots (filter_map (port_field (element_of memory) (depth_of memory)) lines))
  lines_counted [] = refl
  lines_counted (line.MemPort at m name ∷ lines) =
      length-append (line_slots memory element (line.MemPort at m name)) (flat_map (line_slots memory element) lines)
      ∙ ap₂ (λ x y. x + y) (line_size at m name) (lines_counted lines)
      ∙ sym (size-fields (record { flip = true; name = name; typ = port_type (element_of memory) (depth_of memory) m name.place }) (filter_map (port_field (element_of memory) (depth_of memory)) lines))
  lines_counted (line.Element at typ ∷ lines) = lines_counted lines
  lines_counted (line.Depth at n ∷ lines) = lines_counted lines
  lines_counted (line.ReadLatency at n ∷ lines) = lines_counted lines
  lines_counted (line.WriteLatency at n ∷ lines) = lines_counted lines
  lines_counted (line.ReadUnder at u ∷ lines) = lines_counted lines

  -- a memory has a slot for each place of its ports
  pub memory_counted : length (memory_slots memory element) ≡ size (memory_of memory)
  memory_counted = lines_counted memory.lines ∙ sym (size-bundle (memory_of memory) (filter_map (port_field (element_of memory) (depth_of memory)) memory.lines) refl)

-- Instances

ports_counted : (n : ℕ) (ports : List Port) → length (flat_map (λ (slots : List Slot). slots) (ports_from n ports)) ≡ length (flat_map field_spots (map instance_field ports))
ports_counted n [] = refl
ports_counted n (p ∷ ps) =
    length-append (slots_from n (spots p.typ)) _ ∙ ap₂ (λ x y. x + y) (length-slots n (spots p.typ)) (ports_counted (n + open_spots (spots p.typ)) ps) ∙ sym (size-fields (instance_field p) (map instance_field ps))

-- an instance has a slot for each place of its ports
pub instance_counted : (n : ℕ) (modules : List Module) (name : ℕ) → length (instance_in (modules_from n modules) name).slots ≡ size (instance_in (modules_from n modules) name).part.typ
instance_counted n [] name = sym (size-bundle (parts.no_part).typ [] refl)
instance_counted n (m ∷ modules) name = by (m.name.id == name) (instance_counted (n + open_ports m.ports) modules name) where
  by : (b : Bool) → length (instance_in (modules_from (n + open_ports m.ports) modules) name).slots ≡ size (instance_in (modules_from (n + open_ports m.ports) modules) name).part.typ
      → length (component_or_none (option_map instance_component (cond b (Some (record { holder = m; ports = ports_from n m.ports })) (find (λ x. x.holder.name.id == name) (modules_from (n + open_ports m.ports) modules))))).slots
      ≡ size (component_or_none (option_map instance_component (cond b (Some (record { holder = m; ports = ports_from n m.ports })) (find (λ x. x.holder.name.id == name) (modules_from (n + open_ports m.ports) modules))))).part.typ
  by true rest = ports_counted n m.ports ∙ sym (size-bundle (instance_of m.ports) (map instance_field m.ports) refl)
  by false rest = rest

-- and the part that its module makes
pub instance_is : (n : ℕ) (modules : List Module) (name : ℕ) → parts.part_or_none (parts.instance_in modules name) ≡ (instance_in (modules_from n modules) name).part
instance_is n [] name = refl
instance_is n (m ∷ modules) name = by (m.name.id == name) (instance_is (n + open_ports m.ports) modules name) where
  by : (b : Bool) → parts.part_or_none (parts.instance_in modules name) ≡ (instance_in (modules_from (n + open_ports m.ports) modules) name).part
      → parts.part_or_none (option_map parts.instance_part (cond b (Some m) (find (λ x. x.name.id == name) modules)))
      ≡ (component_or_none (option_map instance_component (cond b (Some (record { holder = m; ports = ports_from n m.ports })) (find (λ x. x.holder.name.id == name) (modules_from (n + open_ports m.ports) modules))))).part
  by true rest = refl
  by false rest = rest
