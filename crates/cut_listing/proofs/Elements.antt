-- The ways of the leaves of a memory's element, in the bundle of its ports.
use Rattle.std.proofs.Common.{◌≡◌, ◌≢◌, ℕ, zero, suc, List, [], ◌∷◌, map, Some, sym, ap, ◌∙◌, subst, arith}
use Rattle.std.specs.Prelude.{Contains, filter_map}
use Rattle.place_text.specs.declared.place.Place.{Place}
use Rattle.fir_types.specs.declared.fir_type.FirType.{FirType}
use Rattle.fir_types.specs.declared.fir_type.Field.{Field}
use Rattle.fir_types.specs.declared.leaf.TypeLeaf.{TypeLeaf}
use Rattle.fir_types.specs.declared.leaf.PathStep.{PathStep}
use Rattle.fir_types.specs.declared.leaf.PathStep.TheVariants as step
use Rattle.fir_types.specs.declared.memory.Memory.{Memory}
use Rattle.fir_types.specs.declared.memory.MemLine.{MemLine}
use Rattle.fir_types.specs.declared.memory.MemLine.TheVariants as line
use Rattle.fir_types.specs.declared.memory.PortMode.{PortMode}
use Rattle.fir_types.specs.declared.memory.PortMode.TheVariants as mode
use Rattle.fir_types.specs.Leaves.{leaves, under, way_of}
use Rattle.fir_types.specs.Memories.{depth_of}
use Rattle.fir_types.specs.Bundles.{nowhere, addr_name, en_name, clk_name, wmode_name, plain_field, uint_at, clock_at, address_bits, fields_of_mode, port_type, port_field, mask_of}
use Rattle.fir_types.proofs.Masks.{masked}
use Rattle.fir_meaning.specs.Components.{ports_bundle}
use Rattle.fir_meaning.proofs.Ports.{from_map, from_flat_map, from_filter_map, bundle_leaves}
use Rattle.fir_meaning.proofs.Tracking.{Contains-map}
use Rattle.net_laws.proofs.Numbers.{some_same, none_some}

abbrev field_part : Field → List TypeLeaf
field_part f = map (under (step.Field f.name.id ∷ []) f.flip) (leaves f.typ)

abbrev port_fields : FirType → ℕ → PortMode → Place → List Field
port_fields element depth m place =
    plain_field place addr_name (uint_at place (address_bits depth)) ∷ plain_field place en_name (uint_at place 1) ∷ plain_field place clk_name (clock_at place) ∷ fields_of_mode place element m

first_step : (a b : ℕ) (v w : List PathStep) → step.Field a ∷ v ≡ step.Field b ∷ w → a ≡ b
first_step a b v w e = cc

later_steps : (a b : ℕ) (v w : List PathStep) → step.Field a ∷ v ≡ step.Field b ∷ w → v ≡ w
later_steps a b v w e = cc

-- a field of an element's data or masks, which has none of the other names
pub record IsWide (field : ℕ) : Type 0 where
  pub addr : field ≢ addr_name
  pub en : field ≢ en_name
  pub clk : field ≢ clk_name
  pub wmode : field ≢ wmode_name

module _ (element : FirType) (part : TypeLeaf) (field : ℕ) (way : List PathStep) (wide : IsWide field) (is : part.path ≡ step.Field field ∷ way) (depth : ℕ) (place : Place) where
  -- the way is that of a leaf of the element
  abbrev IsOf : Type 0
  IsOf = (l : TypeLeaf) × Contains (leaves element) l × (l.path ≡ way)

  plain : (f : Field) → field ≢ f.name.id → Contains (field_part f) part → IsOf
  plain f n h =
      let l = from_map (under (step.Field f.name.id ∷ []) f.flip) (leaves f.typ) part h in
      absurd (n (sym (first_step f.name.id field l.0.path way (ap (λ (z : TypeLeaf). z.path) l.2 ∙ is))))

  of_data : (f : Field) → f.typ ≡ element → Contains (field_part f) part → IsOf
  of_data f e h =
      let l = from_map (under (step.Field f.name.id ∷ []) f.flip) (leaves f.typ) part h in
      (l.0, subst (λ t. Contains (leaves t) l.0) e l.1, later_steps f.name.id field l.0.path way (ap (λ (z : TypeLeaf). z.path) l.2 ∙ is))

  of_mask : (f : Field) → f.typ ≡ mask_of element → Contains (field_part f) part → IsOf
  of_mask f e h =
      let l = from_map (under (step.Field f.name.id ∷ []) f.flip) (leaves f.typ) part h in
      let there : Contains (map way_of (leaves element)) (way_of l.0) =
      subst (λ ws. Contains ws (way_of l.0)) (masked element).same (Contains-map way_of (leaves (mask_of element)) l.0 (subst (λ t. Contains (leaves t) l.0) e l.1)) in
      let of = from_map way_of (leaves element) (way_of l.0) there in
      (of.0, of.1, ap (λ w. w.0) of.2 ∙ later_steps f.name.id field l.0.path way (ap (λ (z : TypeLeaf). z.path) l.2 ∙ is))

  of_mode : (md : PortMode) (f : Field) → Contains (fields_of_mode place element md) f → Contains (field_part f) part → IsOf
  of_mode mode.Reader f (zero, below, here) h = of_data f (sym (ap (λ (g : Field). g.typ) here)) h
  of_mode mode.Reader f (suc k, below, here) h = absurd (omega arith)
  of_mode mode.Writer f (zero, below, here) h = of_data f (sym (ap (λ (g : Field). g.typ) here)) h
  of_mode mode.Writer f (suc zero, below, here) h = of_mask f (sym (ap (λ (g : Field). g.typ) here)) h
  of_mode mode.Writer f (suc (suc k), below, here) h = absurd (omega arith)
  of_mode mode.ReadWriter f (zero, below, here) h = of_data f (sym (ap (λ (g : Field). g.typ) here)) h
  of_mode mode.ReadWriter f (suc zero, below, here) h = plain (plain_field place wmode_name (uint_at place 1)) wide.wmode (subst (λ g. Contains (field_part g) part) (sym here) h)
  of_mode mode.ReadWriter f (suc (suc zero), below, here) h = of_data f (sym (ap (λ (g : Field). g.typ) here)) h
  of_mode mode.ReadWriter f (suc (suc (suc zero)), below, here) h = of_mask f (sym (ap (λ (g : Field). g.typ) here)) h
  of_mode mode.ReadWriter f (suc (suc (suc (suc k))), below, here) h = absurd (omega arith)

  of_port : (md : PortMode) (f : Field) → Contains (port_fields element depth md place) f → Contains (field_part f) part → IsOf
  of_port md f (zero, below, here) h = plain (plain_field place addr_name (uint_at place (address_bits depth))) wide.addr (subst (λ g. Contains (field_part g) part) (sym here) h)
  of_port md f (suc zero, below, here) h = plain (plain_field place en_name (uint_at place 1)) wide.en (subst (λ g. Contains (field_part g) part) (sym here) h)
  of_port md f (suc (suc zero), below, here) h = plain (plain_field place clk_name (clock_at place)) wide.clk (subst (λ g. Contains (field_part g) part) (sym here) h)
  of_port md f (suc (suc (suc k)), below, here) h = of_mode md f (k, omega arith, here) h

  within : (md : PortMode) → Contains (leaves (port_type element depth md place)) part → IsOf
  within md c =
      let f = from_flat_map field_part (port_fields element depth md place) part (subst (λ l. Contains l part) (bundle_leaves place (port_fields element depth md place)) c) in
      of_port md f.0 f.1 f.2

line_of_field : (element : FirType) (depth : ℕ) (l : MemLine) (f : Field) → port_field element depth l ≡ Some f → (md : PortMode) × (place : Place) × (f.typ ≡ port_type element depth md place)
line_of_field element depth (line.MemPort at m name) f e = let same = some_same e in (m, name.place, ap (λ (g : Field). g.typ) (sym same))
line_of_field element depth (line.Element at t) f e = none_some e
line_of_field element depth (line.Depth at n) f e = none_some e
line_of_field element depth (line.ReadLatency at n) f e = none_some e
line_of_field element depth (line.WriteLatency at n) f e = none_some e
line_of_field element depth (line.ReadUnder at u) f e = none_some e

-- The way of a leaf of a memory, behind its port and a field of data or masks, is that of a leaf of the element.
pub element_way : (memory : Memory) (element : FirType) (leaf : TypeLeaf) (port field : ℕ) (way : List PathStep) → IsWide field → Contains (leaves (ports_bundle memory element)) leaf
    → leaf.path ≡ step.Field port ∷ step.Field field ∷ way → (l : TypeLeaf) × Contains (leaves element) l × (l.path ≡ way)
element_way memory element leaf port field way wide c is =
    let fields : List Field = filter_map (port_field element (depth_of memory)) memory.lines in
    let outer = from_flat_map field_part fields leaf (subst (λ l. Contains l leaf) (bundle_leaves nowhere fields) c) in
    let from = from_filter_map (port_field element (depth_of memory)) memory.lines outer.0 outer.1 in
    let of = line_of_field element (depth_of memory) from.0 outer.0 from.2 in
    let part = from_map (under (step.Field outer.0.name.id ∷ []) outer.0.flip) (leaves outer.0.typ) leaf outer.2 in
    let behind = later_steps outer.0.name.id port part.0.path (step.Field field ∷ way) (ap (λ (z : TypeLeaf). z.path) part.2 ∙ is) in
    within element part.0 field way wide behind (depth_of memory) of.1 of.0 (subst (λ t. Contains (leaves t) part.0) of.2 part.1)
