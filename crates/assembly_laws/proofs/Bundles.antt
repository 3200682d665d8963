-- The leaves of a memory: port by port, field by field, and leaf by leaf.
use Rattle.std.proofs.Common.{◌≡◌, ℕ, zero, suc, ◌+◌, Bool, true, false, List, [], ◌∷◌, ◌++◌, map, filter_map, Some, refl, sym, ap, ap₂, ◌∙◌, subst, arith, true≢false}
use Rattle.std.specs.List.{slice_get, flat_map, AllByRecursion}
use Rattle.std.proofs.lemmas.Grind.{common_steps}
use Rattle.std.proofs.lemmas.List.{map-append}
use Rattle.std.proofs.lemmas.List.Concat.{flat_map-cons}
use Rattle.place_text.specs.declared.place.Place.{Place}
use Rattle.bit_words.specs.declared.value.Kind.TheVariants.{Unsigned}
use Rattle.fir_types.specs.declared.fir_type.FirType.{FirType, the_lemmas}
use Rattle.fir_types.specs.declared.fir_type.Shape.TheVariants as shape
use Rattle.fir_types.specs.declared.fir_type.Field.{Field}
use Rattle.fir_types.specs.declared.leaf.TypeLeaf.{TypeLeaf}
use Rattle.fir_types.specs.declared.leaf.PathStep.{PathStep}
use Rattle.fir_types.specs.declared.leaf.PathStep.TheVariants as step
use Rattle.fir_types.specs.declared.memory.Memory.{Memory}
use Rattle.fir_types.specs.declared.memory.MemLine.{MemLine}
use Rattle.fir_types.specs.declared.memory.MemLine.TheVariants as line
use Rattle.fir_types.specs.declared.memory.PortMode.{PortMode}
use Rattle.fir_types.specs.declared.memory.PortMode.TheVariants as mode
use Rattle.fir_types.specs.Leaves.{leaves, field_leaves, under, way_of}
use Rattle.fir_types.specs.Memories.{depth_of}
use Rattle.fir_types.specs.Bundles.{port_field, port_type, fields_of_mode, plain_field, flipped_field, uint_at, clock_at, mask_of, address_bits, addr_name, en_name, clk_name, wmode_name}
use Rattle.fir_types.proofs.Layers.{leaves-bundle, leaves-field}
use Rattle.fir_types.proofs.Masks.{masked}
use Rattle.prim_ops.specs.Shapes.{shaped}
use Rattle.fir_meaning.specs.Components.{ports_bundle}
use Rattle.fir_meaning.specs.MemoryPorts.{MemoryPort, port_in, memory_ports, written_field, mask_field}
use Rattle.fir_meaning.specs.WellTyped.{leaf_shape}
use Rattle.net_of_circuit.specs.NetOf.{may_write, may_read, has_mode, read_field}
use Rattle.net_laws.proofs.Lists.{map_at, from_map_at}
use Rattle.lowering_laws.proofs.Heights.{some_same, none_some}
use Rattle.assembly_laws.proofs.ListPlaces.{off, off_at}

-- the fields of a port
abbrev pub fields_of : FirType → ℕ → MemoryPort → List Field
fields_of element depth port =
    plain_field port.place addr_name (uint_at port.place (address_bits depth)) ∷ plain_field port.place en_name (uint_at port.place 1)
    ∷ plain_field port.place clk_name (clock_at port.place) ∷ fields_of_mode port.place element port.mode

-- a leaf of a field as one of the memory
abbrev pub twice : ℕ → Field → TypeLeaf → TypeLeaf
twice name f l = under (step.Field name ∷ []) true (under (step.Field f.name.id ∷ []) f.flip l)

abbrev pub part_leaves : ℕ → Field → List TypeLeaf
part_leaves name f = map (twice name f) (leaves f.typ)

abbrev pub port_leaves : FirType → ℕ → MemoryPort → List TypeLeaf
port_leaves element depth port = flat_map (part_leaves port.name) (fields_of element depth port)

map_map : {A B C : Type 0} (f : B → C) (g : A → B) (xs : List A) → map f (map g xs) ≡ map (λ x. f (g x)) xs
map_map f g [] = refl
map_map f g (x ∷ xs) = ap (λ l. f (g x) ∷ l) (map_map f g xs)

fields_under : (name : ℕ) (fs : List Field) → map (under (step.Field name ∷ []) true) (flat_map field_leaves fs) ≡ flat_map (part_leaves name) fs
fields_under name [] = refl
fields_under name (f ∷ fs) =
    let g : TypeLeaf → TypeLeaf = under (step.Field name ∷ []) true in
    ap (map g) (flat_map-cons field_leaves f fs)
    ∙ (map-append g (field_leaves f) (flat_map field_leaves fs)
    ∙ (ap₂ (λ a b. a ++ b) (ap (map g) (leaves-field f) ∙ map_map g (under (step.Field f.name.id ∷ []) f.flip) (leaves f.typ)) (fields_under name fs)
    ∙ sym (flat_map-cons (part_leaves name) f fs)))

one_port : (element : FirType) (depth : ℕ) (port : MemoryPort) → (f : Field) → f.flip ≡ true → f.name.id ≡ port.name → f.typ ≡ port_type element depth port.mode port.place → field_leaves f ≡ port_leaves element depth port
one_port element depth port f flip name typ =
    leaves-field f
    ∙ (ap₂ (λ n b. map (under (step.Field n ∷ []) b) (leaves f.typ)) name flip
    ∙ (ap (map (under (step.Field port.name ∷ []) true)) (ap leaves typ ∙ leaves-bundle (port_type element depth port.mode port.place) (fields_of element depth port) refl)
    ∙ fields_under port.name (fields_of element depth port)))

by_lines : (element : FirType) (depth : ℕ) (lines : List MemLine) → flat_map field_leaves (filter_map (port_field element depth) lines) ≡ flat_map (port_leaves element depth) (filter_map port_in lines)
by_lines element depth [] = refl
by_lines element depth (line.MemPort at m name ∷ lines) =
    let port : MemoryPort = record { name = name.id; place = name.place; mode = m } in
    let f : Field = record { flip = true; name = name; typ = port_type element depth m name.place } in
    flat_map-cons field_leaves f (filter_map (port_field element depth) lines)
    ∙ (ap₂ (λ a b. a ++ b) (one_port element depth port f refl refl refl) (by_lines element depth lines) ∙ sym (flat_map-cons (port_leaves element depth) port (filter_map port_in lines)))
by_lines element depth (line.Element at typ ∷ lines) = by_lines element depth lines
by_lines element depth (line.Depth at n ∷ lines) = by_lines element depth lines
by_lines element depth (line.ReadLatency at n ∷ lines) = by_lines element depth lines
by_lines element depth (line.WriteLatency at n ∷ lines) = by_lines element depth lines
by_lines element depth (line.ReadUnder at u ∷ lines) = by_lines element depth lines

-- The leaves of a memory's bundle stand port by port.
pub bundle_is : (memory : Memory) (element : FirType) → leaves (ports_bundle memory element) ≡ flat_map (port_leaves element (depth_of memory)) (memory_ports memory)
bundle_is memory element =
    leaves-bundle (ports_bundle memory element) (filter_map (port_field element (depth_of memory)) memory.lines) refl ∙ by_lines element (depth_of memory) memory.lines

-- where leaf k of field i of port q stands
abbrev pub place_in : Memory → FirType → MemoryPort → ℕ → ℕ → ℕ → ℕ
place_in memory element port q i k =
    off (port_leaves element (depth_of memory)) (memory_ports memory) q + (off (part_leaves port.name) (fields_of element (depth_of memory) port) i + k)

pub place_is : (memory : Memory) (element : FirType) (ls : List TypeLeaf) → ls ≡ leaves (ports_bundle memory element) → (q i k : ℕ) (port : MemoryPort) (f : Field) (l : TypeLeaf) → slice_get (memory_ports memory) q ≡ Some port
    → slice_get (fields_of element (depth_of memory) port) i ≡ Some f → slice_get (leaves f.typ) k ≡ Some l → slice_get ls (place_in memory element port q i k) ≡ Some (twice port.name f l)
place_is memory element ls is q i k port f l a b c =
    ap (λ ls. slice_get ls (place_in memory element port q i k)) (is ∙ bundle_is memory element)
    ∙ off_at (port_leaves element (depth_of memory)) (memory_ports memory) q (off (part_leaves port.name) (fields_of element (depth_of memory) port) i + k) port (twice port.name f l) a
    (off_at (part_leaves port.name) (fields_of element (depth_of memory) port) i k f (twice port.name f l) b (map_at (twice port.name f) (leaves f.typ) k l c))

-- Types of fields

pub uint_leaves : (place : Place) (width : ℕ) → leaves (uint_at place width) ≡ record { path = []; flip = false; typ = uint_at place width } ∷ []
uint_leaves place width = grind (arith, common_steps, the_lemmas)

pub clock_leaves : (place : Place) → leaves (clock_at place) ≡ record { path = []; flip = false; typ = clock_at place } ∷ []
clock_leaves place = grind (arith, common_steps, the_lemmas)

pub uint_shape : (l : TypeLeaf) (width : ℕ) → l.typ.shape ≡ shape.Unsigned (Some width) → leaf_shape l ≡ shaped Unsigned width
uint_shape l width e = grind (arith, common_steps, the_lemmas, e)

all_at : (P : TypeLeaf → Type 0) (ls : List TypeLeaf) (k : ℕ) (l : TypeLeaf) → AllByRecursion P ls → slice_get ls k ≡ Some l → P l
all_at P [] k l a e = none_some e
all_at P (x ∷ xs) zero l a e = subst P (some_same e) a.0
all_at P (x ∷ xs) (suc k) l a e = all_at P xs k l a.1 e

-- leaf k of a mask is one bit, at the way of leaf k of the data
pub record MaskLeaf (element : FirType) (k : ℕ) (l : TypeLeaf) : Type 0 where
  pub mask : TypeLeaf
  pub there : slice_get (leaves (mask_of element)) k ≡ Some mask
  pub way : mask.path ≡ l.path
  pub flip : mask.flip ≡ l.flip
  pub bit : mask.typ.shape ≡ shape.Unsigned (Some 1)

pub mask_leaf : (element : FirType) (k : ℕ) (l : TypeLeaf) → slice_get (leaves element) k ≡ Some l → MaskLeaf element k l
mask_leaf element k l e =
    let m = masked element in
    let w = from_map_at way_of (leaves (mask_of element)) k (way_of l) (ap (λ ws. slice_get ws k) m.same ∙ map_at way_of (leaves element) k l e) in
    record { mask = w.0; there = w.1; way = ap (λ (p : List PathStep × Bool). p.0) w.2; flip = ap (λ (p : List PathStep × Bool). p.1) w.2; bit = all_at (λ l. l.typ.shape ≡ shape.Unsigned (Some 1)) (leaves (mask_of element)) k w.0 m.bits w.1 }

pub data_leaf : (element : FirType) (k : ℕ) (l : TypeLeaf) → slice_get (leaves (mask_of element)) k ≡ Some l → (d : TypeLeaf) × (slice_get (leaves element) k ≡ Some d) × (d.flip ≡ l.flip)
data_leaf element k l e =
    let m = masked element in
    let w = from_map_at way_of (leaves element) k (way_of l) (ap (λ ws. slice_get ws k) (sym m.same) ∙ map_at way_of (leaves (mask_of element)) k l e) in
    (w.0, w.1, ap (λ (p : List PathStep × Bool). p.1) w.2)

-- Fields by the mode of a port

-- the field of what a port reads is its fourth
pub read_there : (element : FirType) (depth : ℕ) (port : MemoryPort) (md : PortMode) → port.mode ≡ md → may_read md ≡ true → slice_get (fields_of element depth port) 3 ≡ Some (flipped_field port.place (read_field md) element)
read_there element depth port mode.Reader q e = ap (λ m. slice_get (fields_of_mode port.place element m) 0) q
read_there element depth port mode.Writer q e = absurd (true≢false (sym e))
read_there element depth port mode.ReadWriter q e = ap (λ m. slice_get (fields_of_mode port.place element m) 0) q

pub written_there : (element : FirType) (depth : ℕ) (port : MemoryPort) (md : PortMode) → port.mode ≡ md → may_write md ≡ true → (i : ℕ) × (slice_get (fields_of element depth port) i ≡ Some (plain_field port.place (written_field md) element))
written_there element depth port mode.Reader q e = absurd (true≢false (sym e))
written_there element depth port mode.Writer q e = (3, ap (λ m. slice_get (fields_of_mode port.place element m) 0) q)
written_there element depth port mode.ReadWriter q e = (5, ap (λ m. slice_get (fields_of_mode port.place element m) 2) q)

pub mask_there : (element : FirType) (depth : ℕ) (port : MemoryPort) (md : PortMode) → port.mode ≡ md → may_write md ≡ true → (i : ℕ) × (slice_get (fields_of element depth port) i ≡ Some (plain_field port.place (mask_field md) (mask_of element)))
mask_there element depth port mode.Reader q e = absurd (true≢false (sym e))
mask_there element depth port mode.Writer q e = (4, ap (λ m. slice_get (fields_of_mode port.place element m) 1) q)
mask_there element depth port mode.ReadWriter q e = (6, ap (λ m. slice_get (fields_of_mode port.place element m) 3) q)

pub mode_there : (element : FirType) (depth : ℕ) (port : MemoryPort) (md : PortMode) → port.mode ≡ md → has_mode md ≡ true → slice_get (fields_of element depth port) 4 ≡ Some (plain_field port.place wmode_name (uint_at port.place 1))
mode_there element depth port mode.Reader q e = absurd (true≢false (sym e))
mode_there element depth port mode.Writer q e = absurd (true≢false (sym e))
mode_there element depth port mode.ReadWriter q e = ap (λ m. slice_get (fields_of_mode port.place element m) 1) q

-- what a field of a port is
pub data FieldSort (element : FirType) (port : MemoryPort) (f : Field) : Type 0 where
  a_uint : (width : ℕ) → f.flip ≡ false → f.typ ≡ uint_at port.place width → FieldSort element port f
  the_clock : f.flip ≡ false → f.typ ≡ clock_at port.place → FieldSort element port f
  read_data : may_read port.mode ≡ true → f ≡ flipped_field port.place (read_field port.mode) element → FieldSort element port f
  written_data : f.flip ≡ false → f.typ ≡ element → FieldSort element port f
  a_mask : f.flip ≡ false → f.typ ≡ mask_of element → FieldSort element port f

pub field_sort : (element : FirType) (depth : ℕ) (port : MemoryPort) (i : ℕ) (f : Field) → slice_get (fields_of element depth port) i ≡ Some f → FieldSort element port f
field_sort element depth port zero f e = a_uint (address_bits depth) (ap (λ (g : Field). g.flip) (sym (some_same e))) (ap (λ (g : Field). g.typ) (sym (some_same e)))
field_sort element depth port (suc zero) f e = a_uint 1 (ap (λ (g : Field). g.flip) (sym (some_same e))) (ap (λ (g : Field). g.typ) (sym (some_same e)))
field_sort element depth port (suc (suc zero)) f e = the_clock (ap (λ (g : Field). g.flip) (sym (some_same e))) (ap (λ (g : Field). g.typ) (sym (some_same e)))
field_sort element depth port (suc (suc (suc i))) f e = by port.mode refl i e where
  by : (md : PortMode) → port.mode ≡ md → (i : ℕ) → slice_get (fields_of_mode port.place element md) i ≡ Some f → FieldSort element port f
  by mode.Reader q zero e = read_data (ap may_read q) (sym (some_same e) ∙ ap (λ m. flipped_field port.place (read_field m) element) (sym q))
  by mode.Reader q (suc i) e = none_some e
  by mode.Writer q zero e = written_data (ap (λ (g : Field). g.flip) (sym (some_same e))) (ap (λ (g : Field). g.typ) (sym (some_same e)))
  by mode.Writer q (suc zero) e = a_mask (ap (λ (g : Field). g.flip) (sym (some_same e))) (ap (λ (g : Field). g.typ) (sym (some_same e)))
  by mode.Writer q (suc (suc i)) e = none_some e
  by mode.ReadWriter q zero e = read_data (ap may_read q) (sym (some_same e) ∙ ap (λ m. flipped_field port.place (read_field m) element) (sym q))
  by mode.ReadWriter q (suc zero) e = a_uint 1 (ap (λ (g : Field). g.flip) (sym (some_same e))) (ap (λ (g : Field). g.typ) (sym (some_same e)))
  by mode.ReadWriter q (suc (suc zero)) e = written_data (ap (λ (g : Field). g.flip) (sym (some_same e))) (ap (λ (g : Field). g.typ) (sym (some_same e)))
  by mode.ReadWriter q (suc (suc (suc zero))) e = a_mask (ap (λ (g : Field). g.flip) (sym (some_same e))) (ap (λ (g : Field). g.typ) (sym (some_same e)))
  by mode.ReadWriter q (suc (suc (suc (suc i)))) e = none_some e
