-- The leaves by which a memory's port reads, and by which it writes.
use Rattle.std.proofs.Common.{◌≡◌, ℕ, zero, suc, Bool, true, false, List, [], ◌∷◌, map, filter_map, Option, Some, None, refl, sym, ap, ◌∙◌, subst, arith}
use Rattle.std.specs.Prelude.{Contains}
use Rattle.std.specs.List.{flat_map, cons_option}
use Rattle.std.proofs.lemmas.Grind.{common_steps}
use Rattle.place_text.specs.declared.place.Place.{Place}
use Rattle.fir_types.specs.declared.fir_type.FirType.{FirType, the_lemmas}
use Rattle.fir_types.specs.declared.fir_type.Field.{Field}
use Rattle.fir_types.specs.declared.leaf.TypeLeaf.{TypeLeaf}
use Rattle.fir_types.specs.declared.leaf.PathStep.{PathStep}
use Rattle.fir_types.specs.declared.leaf.PathStep.TheVariants as step
use Rattle.fir_types.specs.declared.memory.Memory.{Memory}
use Rattle.fir_types.specs.declared.memory.MemLine.{MemLine}
use Rattle.fir_types.specs.declared.memory.MemLine.TheVariants as line
use Rattle.fir_types.specs.declared.memory.PortMode.{PortMode}
use Rattle.fir_types.specs.declared.memory.PortMode.TheVariants as mode
use Rattle.fir_types.specs.Leaves.{leaves, under, way_of}
use Rattle.fir_types.specs.Memories.{depth_of}
use Rattle.fir_types.specs.Bundles.{port_field, port_type, fields_of_mode, plain_field, flipped_field, uint_at, clock_at, address_bits, mask_of, addr_name, en_name, clk_name, data_name, mask_name, wmode_name, wdata_name, wmask_name}
use Rattle.fir_types.proofs.Masks.{masked}
use Rattle.fir_meaning.specs.Components.{ports_bundle}
use Rattle.fir_meaning.specs.MemoryPorts.{MemoryPort, port_in, memory_ports, written_field}
use Rattle.fir_meaning.specs.Loops.{read_goes_by, write_goes_by}
use Rattle.fir_meaning.proofs.Ports.{bundle_leaves, from_map, from_filter_map, one_later}
use Rattle.fir_meaning.proofs.Tracking.{none_some, some_same, Contains-map, Contains-flat_map}

pub uint_leaves : (place : Place) (width : ℕ) → leaves (uint_at place width) ≡ record { path = []; flip = false; typ = uint_at place width } ∷ []
uint_leaves place width = grind (arith, common_steps, the_lemmas)

abbrev pub in_field : Field → List TypeLeaf
in_field f = map (under (step.Field f.name.id ∷ []) f.flip) (leaves f.typ)

-- the fields of a port
abbrev pub fields_of : FirType → ℕ → PortMode → Place → List Field
fields_of element depth m place =
    plain_field place addr_name (uint_at place (address_bits depth)) ∷ plain_field place en_name (uint_at place 1) ∷ plain_field place clk_name (clock_at place) ∷ fields_of_mode place element m

-- A field of one UInt is one leaf.
number_leaf : (fields : List Field) (place : Place) (name width : ℕ) → Contains fields (plain_field place name (uint_at place width))
    → (leaf : TypeLeaf) × Contains (flat_map in_field fields) leaf × (leaf.path ≡ step.Field name ∷ [])
number_leaf fields place name width c =
    let f : Field = plain_field place name (uint_at place width) in
    let whole : TypeLeaf = record { path = []; flip = false; typ = uint_at place width } in
    let there : Contains (leaves (uint_at place width)) whole = subst (λ ls. Contains ls whole) (sym (uint_leaves place width)) (0, omega arith, refl) in
    let leaf = under (step.Field name ∷ []) false whole in
    (leaf, Contains-flat_map in_field fields f leaf c (Contains-map (under (step.Field name ∷ []) false) (leaves (uint_at place width)) whole there), refl)

-- A field has each leaf of its type behind its name.
part_leaf : (fields : List Field) (f : Field) (l : TypeLeaf) → Contains fields f → Contains (leaves f.typ) l
    → (leaf : TypeLeaf) × Contains (flat_map in_field fields) leaf × (leaf.path ≡ step.Field f.name.id ∷ l.path)
part_leaf fields f l c there =
    let leaf = under (step.Field f.name.id ∷ []) f.flip l in
    (leaf, Contains-flat_map in_field fields f leaf c (Contains-map (under (step.Field f.name.id ∷ []) f.flip) (leaves f.typ) l there), refl)

-- A mask has the ways of what it masks.
mask_leaf : (element : FirType) (l : TypeLeaf) → Contains (leaves element) l → (bit : TypeLeaf) × Contains (leaves (mask_of element)) bit × (bit.path ≡ l.path)
mask_leaf element l c =
    let there : Contains (map way_of (leaves (mask_of element))) (way_of l) = subst (λ ws. Contains ws (way_of l)) (sym (masked element).same) (Contains-map way_of (leaves element) l c) in
    let bit = from_map way_of (leaves (mask_of element)) (way_of l) there in
    (bit.0, bit.1, ap (λ (w : List PathStep × Bool). w.0) bit.2)

module _ (element : FirType) (depth : ℕ) (place : Place) where
  -- a port has a leaf at this way
  abbrev Found : PortMode → List PathStep → Type 0
  Found m way = (leaf : TypeLeaf) × Contains (flat_map in_field (fields_of element depth m place)) leaf × (leaf.path ≡ way)

  abbrev FoundAt : PortMode → ℕ → Type 0
  FoundAt m by = Found m (step.Field by ∷ [])

  addr : (m : PortMode) → FoundAt m addr_name
  addr m = number_leaf (fields_of element depth m place) place addr_name (address_bits depth) (0, omega arith, refl)

  en : (m : PortMode) → FoundAt m en_name
  en m = number_leaf (fields_of element depth m place) place en_name 1 (1, omega arith, refl)

  wmode : FoundAt mode.ReadWriter wmode_name
  wmode = number_leaf (fields_of element depth mode.ReadWriter place) place wmode_name 1 (4, omega arith, refl)

  read_found : (m : PortMode) (by : ℕ) → Contains (read_goes_by m) by → FoundAt m by
  read_found mode.Reader by (zero, below, is) = subst (FoundAt mode.Reader) is (addr mode.Reader)
  read_found mode.Reader by (suc zero, below, is) = subst (FoundAt mode.Reader) is (en mode.Reader)
  read_found mode.Reader by (suc (suc k), below, is) = absurd (omega arith)
  read_found mode.Writer by (zero, below, is) = subst (FoundAt mode.Writer) is (addr mode.Writer)
  read_found mode.Writer by (suc zero, below, is) = subst (FoundAt mode.Writer) is (en mode.Writer)
  read_found mode.Writer by (suc (suc k), below, is) = absurd (omega arith)
  read_found mode.ReadWriter by (zero, below, is) = subst (FoundAt mode.ReadWriter) is (addr mode.ReadWriter)
  read_found mode.ReadWriter by (suc zero, below, is) = subst (FoundAt mode.ReadWriter) is (en mode.ReadWriter)
  read_found mode.ReadWriter by (suc (suc zero), below, is) = subst (FoundAt mode.ReadWriter) is wmode
  read_found mode.ReadWriter by (suc (suc (suc k)), below, is) = absurd (omega arith)

  module _ (l : TypeLeaf) (inside : Contains (leaves element) l) where
    data_of : (m : PortMode) (name : ℕ) → Contains (fields_of element depth m place) (plain_field place name element) → Found m (step.Field name ∷ l.path)
    data_of m name c = part_leaf (fields_of element depth m place) (plain_field place name element) l c inside

    mask_of_it : (m : PortMode) (name : ℕ) → Contains (fields_of element depth m place) (plain_field place name (mask_of element)) → Found m (step.Field name ∷ l.path)
    mask_of_it m name c =
        let bit = mask_leaf element l inside in
        subst (λ w. Found m (step.Field name ∷ w)) bit.2 (part_leaf (fields_of element depth m place) (plain_field place name (mask_of element)) bit.0 c bit.1)

    write_found : (m : PortMode) (by : List PathStep) → Contains (write_goes_by m l.path) by → Found m by
    write_found mode.Reader by (k, below, is) = absurd (omega arith)
    write_found mode.Writer by (zero, below, is) = subst (Found mode.Writer) is (en mode.Writer)
    write_found mode.Writer by (suc zero, below, is) = subst (Found mode.Writer) is (addr mode.Writer)
    write_found mode.Writer by (suc (suc zero), below, is) = subst (Found mode.Writer) is (data_of mode.Writer data_name (3, omega arith, refl))
    write_found mode.Writer by (suc (suc (suc zero)), below, is) = subst (Found mode.Writer) is (mask_of_it mode.Writer mask_name (4, omega arith, refl))
    write_found mode.Writer by (suc (suc (suc (suc k))), below, is) = absurd (omega arith)
    write_found mode.ReadWriter by (zero, below, is) = subst (Found mode.ReadWriter) is (en mode.ReadWriter)
    write_found mode.ReadWriter by (suc zero, below, is) = subst (Found mode.ReadWriter) is (addr mode.ReadWriter)
    write_found mode.ReadWriter by (suc (suc zero), below, is) = subst (Found mode.ReadWriter) is (data_of mode.ReadWriter wdata_name (5, omega arith, refl))
    write_found mode.ReadWriter by (suc (suc (suc zero)), below, is) = subst (Found mode.ReadWriter) is (mask_of_it mode.ReadWriter wmask_name (6, omega arith, refl))
    write_found mode.ReadWriter by (suc (suc (suc (suc zero))), below, is) = subst (Found mode.ReadWriter) is wmode
    write_found mode.ReadWriter by (suc (suc (suc (suc (suc k)))), below, is) = absurd (omega arith)

in_cons : {A : Type 0} (o : Option A) (xs : List A) (x : A) → Contains xs x → Contains (cons_option o xs) x
in_cons (Some z) xs x c = one_later z xs x c
in_cons None xs x c = c

pub in_filter_map : {A B : Type 0} (h : A → Option B) (xs : List A) (x : A) (y : B) → Contains xs x → h x ≡ Some y → Contains (filter_map h xs) y
in_filter_map h [] x y (k, below, is) e = absurd (omega arith)
in_filter_map h (z ∷ xs) x y (zero, below, is) e = subst (λ o. Contains (cons_option o (filter_map h xs)) y) (sym (ap h is ∙ e)) (0, omega arith, refl)
in_filter_map h (z ∷ xs) x y (suc k, below, is) e = in_cons (h z) (filter_map h xs) y (in_filter_map h xs x y (k, omega (arith, below), is) e)

-- the line of a port
line_of : (element : FirType) (depth : ℕ) (l : MemLine) (port : MemoryPort) → port_in l ≡ Some port
    → (f : Field) × (port_field element depth l ≡ Some f) × (f.name.id ≡ port.name) × (f.typ ≡ port_type element depth port.mode port.place)
line_of element depth (line.MemPort at m name) port e =
    let is = some_same _ port e in
    (record { flip = true; name = name; typ = port_type element depth m name.place }, refl, ap (λ (p : MemoryPort). p.name) is, ap (λ (p : MemoryPort). port_type element depth p.mode p.place) is)
line_of element depth (line.Element at t) port e = absurd (none_some e)
line_of element depth (line.Depth at n) port e = absurd (none_some e)
line_of element depth (line.ReadLatency at n) port e = absurd (none_some e)
line_of element depth (line.WriteLatency at n) port e = absurd (none_some e)
line_of element depth (line.ReadUnder at u) port e = absurd (none_some e)

-- A leaf of a port is a leaf of its memory.
port_leaf : (memory : Memory) (element : FirType) (port : MemoryPort) (way : List PathStep) → Contains (memory_ports memory) port → Found element (depth_of memory) port.place port.mode way
    → (leaf : TypeLeaf) × Contains (leaves (ports_bundle memory element)) leaf × (leaf.path ≡ step.Field port.name ∷ way)
port_leaf memory element port way among inner =
    let l = from_filter_map port_in memory.lines port among in
    let at = line_of element (depth_of memory) l.0 port l.2 in
    let fields : List Field = filter_map (port_field element (depth_of memory)) memory.lines in
    let there : Contains (leaves (port_type element (depth_of memory) port.mode port.place)) inner.0 =
    subst (λ ls. Contains ls inner.0) (sym (bundle_leaves port.place (fields_of element (depth_of memory) port.mode port.place))) inner.1 in
    let leaf = under (step.Field at.0.name.id ∷ []) at.0.flip inner.0 in (
      leaf,
      subst (λ ls. Contains ls leaf) (sym (bundle_leaves _ fields))
          (Contains-flat_map in_field fields at.0 leaf (in_filter_map (port_field element (depth_of memory)) memory.lines l.0 at.0 l.1 at.1)
          (Contains-map (under (step.Field at.0.name.id ∷ []) at.0.flip) (leaves at.0.typ) inner.0 (subst (λ t. Contains (leaves t) inner.0) (sym at.3) there))),
      ap (λ n. step.Field n ∷ inner.0.path) at.2 ∙ ap (λ p. step.Field port.name ∷ p) inner.2,
    )

-- The leaves that a port's read goes by are leaves of its memory.
pub read_leaf : (memory : Memory) (element : FirType) (port : MemoryPort) (by : ℕ) → Contains (memory_ports memory) port → Contains (read_goes_by port.mode) by
    → (leaf : TypeLeaf) × Contains (leaves (ports_bundle memory element)) leaf × (leaf.path ≡ step.Field port.name ∷ step.Field by ∷ [])
read_leaf memory element port by among goes = port_leaf memory element port (step.Field by ∷ []) among (read_found element (depth_of memory) port.place port.mode by goes)

-- So are those that its write to a leaf of the element goes by.
pub write_leaf : (memory : Memory) (element : FirType) (port : MemoryPort) (l : TypeLeaf) → Contains (leaves element) l → (by : List PathStep) → Contains (memory_ports memory) port
    → Contains (write_goes_by port.mode l.path) by → (leaf : TypeLeaf) × Contains (leaves (ports_bundle memory element)) leaf × (leaf.path ≡ step.Field port.name ∷ by)
write_leaf memory element port l inside by among goes = port_leaf memory element port by among (write_found element (depth_of memory) port.place l inside port.mode by goes)

-- Whatever a port does, it has a field of data with each leaf of the element.
data_found : (element : FirType) (depth : ℕ) (place : Place) (l : TypeLeaf) → Contains (leaves element) l → (m : PortMode) → Found element depth place m (step.Field (written_field m) ∷ l.path)
data_found element depth place l inside mode.Reader = part_leaf (fields_of element depth mode.Reader place) (flipped_field place data_name element) l (3, omega arith, refl) inside
data_found element depth place l inside mode.Writer = data_of element depth place l inside mode.Writer data_name (3, omega arith, refl)
data_found element depth place l inside mode.ReadWriter = data_of element depth place l inside mode.ReadWriter wdata_name (5, omega arith, refl)

pub data_leaf : (memory : Memory) (element : FirType) (port : MemoryPort) (l : TypeLeaf) → Contains (leaves element) l → Contains (memory_ports memory) port
    → (leaf : TypeLeaf) × Contains (leaves (ports_bundle memory element)) leaf × (leaf.path ≡ step.Field port.name ∷ (step.Field (written_field port.mode) ∷ l.path))
data_leaf memory element port l inside among =
    port_leaf memory element port (step.Field (written_field port.mode) ∷ l.path) among (data_found element (depth_of memory) port.place l inside port.mode)
