-- The leaves of a memory's ports: which of them show what a port reads.
use Rattle.std.proofs.Common.{◌≡◌, ℕ, zero, suc, Bool, true, false, not, List, [], ◌∷◌, map, filter_map, Option, Some, None, refl, sym, ap, ap₂, ◌∙◌, subst, arith, true≢false, if◌then◌else◌}
use Rattle.std.specs.Prelude.{Contains}
use Rattle.std.specs.List.{flat_map, cons_option}
use Rattle.std.proofs.lemmas.Grind.{common_steps}
use Rattle.place_text.specs.declared.place.Place.{Place}
use Rattle.fir_types.specs.declared.fir_type.FirType.{FirType, the_lemmas as type_lemmas}
use Rattle.fir_types.specs.declared.fir_type.Field.{Field}
use Rattle.fir_types.specs.declared.leaf.TypeLeaf.{TypeLeaf}
use Rattle.fir_types.specs.declared.leaf.PathStep.TheVariants as step
use Rattle.fir_types.specs.declared.memory.Memory.{Memory}
use Rattle.fir_types.specs.declared.memory.MemLine.{MemLine}
use Rattle.fir_types.specs.declared.memory.MemLine.TheVariants as line
use Rattle.fir_types.specs.declared.memory.PortMode.{PortMode}
use Rattle.fir_types.specs.declared.memory.PortMode.TheVariants as mode
use Rattle.fir_types.specs.Leaves.{leaves, under, way_of}
use Rattle.fir_types.specs.Memories.{depth_of}
use Rattle.fir_types.specs.Bundles.{nowhere, addr_name, en_name, clk_name, data_name, mask_name, rdata_name, wmode_name, wdata_name, wmask_name, plain_field, flipped_field, uint_at, clock_at, address_bits, fields_of_mode, port_type, port_field, mask_of}
use Rattle.fir_types.proofs.Masks.{masked}
use Rattle.fir_meaning.specs.Components.{ports_bundle}
use Rattle.fir_meaning.specs.MemoryPorts.{MemoryPort, port_in, memory_ports}
use Rattle.fir_meaning.proofs.Ports.{one_later, from_map, from_flat_map, from_filter_map, bundle_leaves}
use Rattle.fir_meaning.proofs.Tracking.{Contains-map, Contains-flat_map}
use Rattle.net_of_circuit.specs.NetOf.{may_read, read_field}
use Rattle.net_laws.proofs.Numbers.{some_same, none_some}

-- Lists

in_cons_option : {B : Type 0} (o : Option B) (ys : List B) (y : B) → Contains ys y → Contains (cons_option o ys) y
in_cons_option None ys y c = c
in_cons_option (Some z) ys y c = one_later z ys y c

pub in_filter_map : {A B : Type 0} (h : A → Option B) (xs : List A) (x : A) (y : B) → Contains xs x → h x ≡ Some y → Contains (filter_map h xs) y
in_filter_map h [] x y (k, below, is) e = absurd (omega arith)
in_filter_map h (z ∷ zs) x y (zero, below, is) e =
    subst (λ o. Contains (cons_option o (filter_map h zs)) y) (sym (ap h is ∙ e)) (0, omega arith, refl)
in_filter_map h (z ∷ zs) x y (suc k, below, is) e = in_cons_option (h z) (filter_map h zs) y (in_filter_map h zs x y (k, omega arith, is) e)

-- The line of a port

record PortLine (element : FirType) (depth : ℕ) (l : MemLine) (f : Field) (port : MemoryPort) : Type 0 where
  declares : port_in l ≡ Some port
  makes : port_field element depth l ≡ Some f
  name : f.name.id ≡ port.name
  flip : f.flip ≡ true
  place : Place
  typ : f.typ ≡ port_type element depth port.mode place

line_of_port : (element : FirType) (depth : ℕ) (l : MemLine) (port : MemoryPort) → port_in l ≡ Some port → (f : Field) × PortLine element depth l f port
line_of_port element depth (line.MemPort at m name) port e =
    let same = some_same e in (
      record { flip = true; name = name; typ = port_type element depth m name.place },
      record { declares = e; makes = refl; name = ap (λ (p : MemoryPort). p.name) same; flip = refl; place = name.place; typ = ap (λ (p : MemoryPort). port_type element depth p.mode name.place) same },
    )
line_of_port element depth (line.Element at t) port e = none_some e
line_of_port element depth (line.Depth at n) port e = none_some e
line_of_port element depth (line.ReadLatency at n) port e = none_some e
line_of_port element depth (line.WriteLatency at n) port e = none_some e
line_of_port element depth (line.ReadUnder at u) port e = none_some e

line_of_field : (element : FirType) (depth : ℕ) (l : MemLine) (f : Field) → port_field element depth l ≡ Some f → (port : MemoryPort) × PortLine element depth l f port
line_of_field element depth (line.MemPort at m name) f e =
    let same = some_same e in (
      record { name = name.id; place = name.place; mode = m },
      record { declares = refl; makes = e; name = ap (λ (g : Field). g.name.id) (sym same); flip = ap (λ (g : Field). g.flip) (sym same); place = name.place; typ = ap (λ (g : Field). g.typ) (sym same) },
    )
line_of_field element depth (line.Element at t) f e = none_some e
line_of_field element depth (line.Depth at n) f e = none_some e
line_of_field element depth (line.ReadLatency at n) f e = none_some e
line_of_field element depth (line.WriteLatency at n) f e = none_some e
line_of_field element depth (line.ReadUnder at u) f e = none_some e

-- The fields of a port

abbrev field_part : Field → List TypeLeaf
field_part f = map (under (step.Field f.name.id ∷ []) f.flip) (leaves f.typ)

abbrev port_fields : FirType → ℕ → PortMode → Place → List Field
port_fields element depth m place =
    plain_field place addr_name (uint_at place (address_bits depth)) ∷ plain_field place en_name (uint_at place 1) ∷ plain_field place clk_name (clock_at place) ∷ fields_of_mode place element m

-- no leaf is flipped
abbrev IsStraight : FirType → Type 0
IsStraight typ = (l : TypeLeaf) → Contains (leaves typ) l → l.flip ≡ false

alone : (ls : List TypeLeaf) (x l : TypeLeaf) → ls ≡ x ∷ [] → Contains ls l → x ≡ l
alone ls x l e c = by (subst (λ z. Contains z l) e c) where
  by : Contains (x ∷ []) l → x ≡ l
  by (zero, below, is) = is
  by (suc k, below, is) = absurd (omega arith)

uint_straight : (place : Place) (width : ℕ) → IsStraight (uint_at place width)
uint_straight place width l c =
    let one : leaves (uint_at place width) ≡ record { path = []; flip = false; typ = uint_at place width } ∷ [] = grind (arith, common_steps, type_lemmas) in
    ap (λ (z : TypeLeaf). z.flip) (sym (alone (leaves (uint_at place width)) (record { path = []; flip = false; typ = uint_at place width }) l one c))

clock_straight : (place : Place) → IsStraight (clock_at place)
clock_straight place l c =
    let one : leaves (clock_at place) ≡ record { path = []; flip = false; typ = clock_at place } ∷ [] = grind (arith, common_steps, type_lemmas) in
    ap (λ (z : TypeLeaf). z.flip) (sym (alone (leaves (clock_at place)) (record { path = []; flip = false; typ = clock_at place }) l one c))

mask_straight : (element : FirType) → IsStraight element → IsStraight (mask_of element)
mask_straight element straight l c =
    let there : Contains (map way_of (leaves element)) (way_of l) = subst (λ ws. Contains ws (way_of l)) (masked element).same (Contains-map way_of (leaves (mask_of element)) l c) in
    let of = from_map way_of (leaves element) (way_of l) there in
    sym (ap (λ w. w.1) of.2) ∙ straight of.0 of.1

-- Data that a port reads are a leaf of the memory

-- leaf of an element, as what a port reads in a field
abbrev pub data_leaf : ℕ → ℕ → TypeLeaf → TypeLeaf
data_leaf port field leaf = under (step.Field port ∷ []) true (under (step.Field field ∷ []) true leaf)

data_there : (element : FirType) (depth : ℕ) (m : PortMode) (place : Place) (leaf : TypeLeaf) → may_read m ≡ true → Contains (leaves element) leaf
    → Contains (leaves (port_type element depth m place)) (under (step.Field (read_field m) ∷ []) true leaf)
data_there element depth m place leaf reads inside = subst (λ ls. Contains ls (under (step.Field (read_field m) ∷ []) true leaf)) (sym (bundle_leaves place (port_fields element depth m place))) (by m reads) where
  by : (md : PortMode) → may_read md ≡ true → Contains (flat_map field_part (port_fields element depth md place)) (under (step.Field (read_field md) ∷ []) true leaf)
  by mode.Reader e =
      Contains-flat_map field_part (port_fields element depth mode.Reader place) (flipped_field place data_name element) (under (step.Field data_name ∷ []) true leaf) (3, omega arith, refl)
      (Contains-map (under (step.Field data_name ∷ []) true) (leaves element) leaf inside)
  by mode.Writer e = absurd (true≢false (sym e))
  by mode.ReadWriter e =
      Contains-flat_map field_part (port_fields element depth mode.ReadWriter place) (flipped_field place rdata_name element) (under (step.Field rdata_name ∷ []) true leaf) (3, omega arith, refl)
      (Contains-map (under (step.Field rdata_name ∷ []) true) (leaves element) leaf inside)

pub read_leaf_there : (memory : Memory) (element : FirType) (port : MemoryPort) (leaf : TypeLeaf) → Contains (memory_ports memory) port → may_read port.mode ≡ true → Contains (leaves element) leaf
    → Contains (leaves (ports_bundle memory element)) (data_leaf port.name (read_field port.mode) leaf)
read_leaf_there memory element port leaf among reads inside =
    let fields : List Field = filter_map (port_field element (depth_of memory)) memory.lines in
    let from = from_filter_map port_in memory.lines port among in
    let of = line_of_port element (depth_of memory) from.0 port from.2 in
    let f : Field = of.0 in
    let in_fields : Contains fields f = in_filter_map (port_field element (depth_of memory)) memory.lines from.0 f from.1 of.1.makes in
    let part : TypeLeaf = under (step.Field (read_field port.mode) ∷ []) true leaf in
    let inner : Contains (leaves f.typ) part = subst (λ t. Contains (leaves t) part) (sym of.1.typ) (data_there element (depth_of memory) port.mode of.1.place leaf reads inside) in
    let own : Contains (field_part f) (under (step.Field f.name.id ∷ []) f.flip part) = Contains-map (under (step.Field f.name.id ∷ []) f.flip) (leaves f.typ) part inner in
    let named : Contains (field_part f) (under (step.Field port.name ∷ []) true part) =
    subst (λ n. Contains (field_part f) (under (step.Field n ∷ []) true part)) of.1.name (subst (λ b. Contains (field_part f) (under (step.Field f.name.id ∷ []) b part)) of.1.flip own) in
    subst (λ ls. Contains ls (data_leaf port.name (read_field port.mode) leaf)) (sym (bundle_leaves nowhere fields)) (Contains-flat_map field_part fields f (data_leaf port.name (read_field port.mode) leaf) in_fields named)

-- A leaf of the memory that is not flipped is data that a port reads

record IsData (element : FirType) (m : PortMode) (part : TypeLeaf) : Type 0 where
  reads : may_read m ≡ true
  inner : TypeLeaf
  inside : Contains (leaves element) inner
  way : part.path ≡ step.Field (read_field m) ∷ inner.path

module _ (element : FirType) (straight : IsStraight element) (part : TypeLeaf) (turned : part.flip ≡ true) (depth : ℕ) (place : Place) where
  plain : {B : Type 0} (f : Field) → IsStraight f.typ → f.flip ≡ false → Contains (field_part f) part → B
  plain f of_typ unflipped h =
      let l = from_map (under (step.Field f.name.id ∷ []) f.flip) (leaves f.typ) part h in
      absurd (true≢false (sym turned ∙ (sym (ap (λ (z : TypeLeaf). z.flip) l.2) ∙ (ap (λ b. if b then not l.0.flip else l.0.flip) unflipped ∙ of_typ l.0 l.1))))

  read_part : (md : PortMode) (name : ℕ) → may_read md ≡ true → read_field md ≡ name → Contains (field_part (flipped_field place name element)) part → IsData element md part
  read_part md name reads is h =
      let l = from_map (under (step.Field name ∷ []) true) (leaves element) part h in
      record { reads = reads; inner = l.0; inside = l.1; way = sym (ap (λ (z : TypeLeaf). z.path) l.2) ∙ ap (λ n. step.Field n ∷ l.0.path) (sym is) }

  of_mode : (md : PortMode) (f : Field) → Contains (fields_of_mode place element md) f → Contains (field_part f) part → IsData element md part
  of_mode mode.Reader f (zero, below, is) h = read_part mode.Reader data_name refl refl (subst (λ g. Contains (field_part g) part) (sym is) h)
  of_mode mode.Reader f (suc k, below, is) h = absurd (omega arith)
  of_mode mode.Writer f (zero, below, is) h = plain (plain_field place data_name element) straight refl (subst (λ g. Contains (field_part g) part) (sym is) h)
  of_mode mode.Writer f (suc zero, below, is) h = plain (plain_field place mask_name (mask_of element)) (mask_straight element straight) refl (subst (λ g. Contains (field_part g) part) (sym is) h)
  of_mode mode.Writer f (suc (suc k), below, is) h = absurd (omega arith)
  of_mode mode.ReadWriter f (zero, below, is) h = read_part mode.ReadWriter rdata_name refl refl (subst (λ g. Contains (field_part g) part) (sym is) h)
  of_mode mode.ReadWriter f (suc zero, below, is) h = plain (plain_field place wmode_name (uint_at place 1)) (uint_straight place 1) refl (subst (λ g. Contains (field_part g) part) (sym is) h)
  of_mode mode.ReadWriter f (suc (suc zero), below, is) h = plain (plain_field place wdata_name element) straight refl (subst (λ g. Contains (field_part g) part) (sym is) h)
  of_mode mode.ReadWriter f (suc (suc (suc zero)), below, is) h = plain (plain_field place wmask_name (mask_of element)) (mask_straight element straight) refl (subst (λ g. Contains (field_part g) part) (sym is) h)
  of_mode mode.ReadWriter f (suc (suc (suc (suc k))), below, is) h = absurd (omega arith)

  of_port : (md : PortMode) (f : Field) → Contains (port_fields element depth md place) f → Contains (field_part f) part → IsData element md part
  of_port md f (zero, below, is) h = plain (plain_field place addr_name (uint_at place (address_bits depth))) (uint_straight place (address_bits depth)) refl (subst (λ g. Contains (field_part g) part) (sym is) h)
  of_port md f (suc zero, below, is) h = plain (plain_field place en_name (uint_at place 1)) (uint_straight place 1) refl (subst (λ g. Contains (field_part g) part) (sym is) h)
  of_port md f (suc (suc zero), below, is) h = plain (plain_field place clk_name (clock_at place)) (clock_straight place) refl (subst (λ g. Contains (field_part g) part) (sym is) h)
  of_port md f (suc (suc (suc k)), below, is) h = of_mode md f (k, omega arith, is) h

  data_is : (md : PortMode) → Contains (leaves (port_type element depth md place)) part → IsData element md part
  data_is md c =
      let f = from_flat_map field_part (port_fields element depth md place) part (subst (λ l. Contains l part) (bundle_leaves place (port_fields element depth md place)) c) in
      of_port md f.0 f.1 f.2

pub record ReadLeaf (memory : Memory) (element : FirType) (leaf : TypeLeaf) : Type 0 where
  pub port : MemoryPort
  pub among : Contains (memory_ports memory) port
  pub reads : may_read port.mode ≡ true
  pub inner : TypeLeaf
  pub inside : Contains (leaves element) inner
  pub way : leaf.path ≡ step.Field port.name ∷ step.Field (read_field port.mode) ∷ inner.path

not_false : (b : Bool) → not b ≡ false → b ≡ true
not_false true e = refl
not_false false e = absurd (true≢false e)

pub read_leaf_is : (memory : Memory) (element : FirType) (leaf : TypeLeaf) → ((l : TypeLeaf) → Contains (leaves element) l → l.flip ≡ false) → Contains (leaves (ports_bundle memory element)) leaf → leaf.flip ≡ false → ReadLeaf memory element leaf
read_leaf_is memory element leaf straight c turned =
    let fields : List Field = filter_map (port_field element (depth_of memory)) memory.lines in
    let outer = from_flat_map field_part fields leaf (subst (λ l. Contains l leaf) (bundle_leaves nowhere fields) c) in
    let f : Field = outer.0 in
    let from = from_filter_map (port_field element (depth_of memory)) memory.lines f outer.1 in
    let of = line_of_field element (depth_of memory) from.0 f from.2 in
    let part = from_map (under (step.Field f.name.id ∷ []) f.flip) (leaves f.typ) leaf outer.2 in
    let there : Contains (leaves (port_type element (depth_of memory) of.0.mode of.1.place)) part.0 = subst (λ t. Contains (leaves t) part.0) of.1.typ part.1 in
    let flipped : part.0.flip ≡ true = not_false part.0.flip (sym (ap (λ b. if b then not part.0.flip else part.0.flip) of.1.flip) ∙ (ap (λ (z : TypeLeaf). z.flip) part.2 ∙ turned)) in
    let d = data_is element straight part.0 flipped (depth_of memory) of.1.place of.0.mode there in
    record {
      port = of.0;
      among = in_filter_map port_in memory.lines from.0 of.0 from.1 of.1.declares;
      reads = d.reads;
      inner = d.inner;
      inside = d.inside;
      way = sym (ap (λ (z : TypeLeaf). z.path) part.2) ∙ ap₂ (λ n w. step.Field n ∷ w) of.1.name d.way;
    }
