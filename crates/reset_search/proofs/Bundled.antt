-- The types of instances and memories without an AsyncReset.
use Rattle.std.proofs.Common.{arith, ◌≡◌, ℕ, Bool, true, false, ◌||◌, List, [], ◌∷◌, map, Option, Some, None, refl, sym, ap, ◌∙◌, subst}
use Rattle.std.proofs.lemmas.Grind.{common_steps}
use Rattle.std.specs.Prelude.{filter_map}
use Rattle.std.specs.List.{list_any}
use Rattle.place_text.specs.declared.place.Place.{Place}
use Rattle.fir_types.specs.declared.fir_type.FirType.{FirType, ind-FirType, the_lemmas}
use Rattle.fir_types.specs.declared.fir_type.Shape.{Shape, fold-Shape}
use Rattle.fir_types.specs.declared.fir_type.Shape.TheOpen.{Shape-F, Field-F, FirType-F}
use Rattle.fir_types.specs.declared.fir_type.Shape.TheFolds.{map-Shape, map-Field, map-FirType}
use Rattle.fir_types.specs.declared.fir_type.Shape.TheViews.{roll-Shape, roll-Field, roll-FirType}
use Rattle.fir_types.specs.declared.fir_type.Field.{Field}
use Rattle.fir_types.specs.declared.port.Port.{Port}
use Rattle.fir_types.specs.declared.memory.Memory.{Memory}
use Rattle.fir_types.specs.declared.memory.MemLine.{MemLine}
use Rattle.fir_types.specs.declared.memory.MemLine.TheVariants as line
use Rattle.fir_types.specs.declared.memory.PortMode.{PortMode}
use Rattle.fir_types.specs.declared.memory.PortMode.TheVariants as mode
use Rattle.fir_types.specs.Memories.{element_of, depth_of}
use Rattle.fir_types.specs.Bundles.{instance_of, instance_field, memory_of, mask_of, mask_of_shape, mask_of_field, address_bits, uint_at, clock_at, plain_field, flipped_field, fields_of_mode, port_type, port_field}
use Rattle.reset_search.specs.Sources as source
use Rattle.reset_search.specs.Sources.{any_of, holds_async, port_source}
use Rattle.reset_search.proofs.Sourceless.{or_both, or_left, or_right, field_holds, holds_bundle, holds_field, holds_uint, holds_clock}

abbrev shape_holds : Shape → Bool
shape_holds = fold-Shape Bool Bool Bool source.of_shape (λ f. f.typ) (λ t. t.shape)

-- a mask has none
abbrev ShapeMask : Shape → Type 0
ShapeMask s = shape_holds (mask_of_shape s) ≡ false

abbrev FieldMask : Field → Type 0
FieldMask f = field_holds (mask_of_field f) ≡ false

abbrev TypeMask : FirType → Type 0
TypeMask t = holds_async (mask_of t) ≡ false

fields_mask : (ps : List ((f : Field) × FieldMask f)) → any_of (map field_holds (map mask_of_field (map (λ e. e.0) ps))) ≡ false
fields_mask [] = refl
fields_mask (p ∷ ps) = or_both (field_holds (mask_of_field p.0)) _ p.1 (fields_mask ps)

shape_step : (y : Shape-F ((s : Shape) × ShapeMask s) ((f : Field) × FieldMask f) ((t : FirType) × TypeMask t))
    → ShapeMask (roll-Shape (map-Shape _ _ _ Shape Field FirType (λ e. e.0) (λ e. e.0) (λ e. e.0) y))
shape_step (Shape-F.Unsigned w) = grind (arith, common_steps, the_lemmas)
shape_step (Shape-F.Signed w) = grind (arith, common_steps, the_lemmas)
shape_step Shape-F.Clock = grind (arith, common_steps, the_lemmas)
shape_step Shape-F.Reset = grind (arith, common_steps, the_lemmas)
shape_step Shape-F.AsyncReset = grind (arith, common_steps, the_lemmas)
shape_step (Shape-F.Bundle fields) = grind (arith, common_steps, the_lemmas, fields_mask fields)
shape_step (Shape-F.Vector element n) = grind (arith, common_steps, the_lemmas, element.1)

field_step : (y : Field-F ((s : Shape) × ShapeMask s) ((f : Field) × FieldMask f) ((t : FirType) × TypeMask t))
    → FieldMask (roll-Field (map-Field _ _ _ Shape Field FirType (λ e. e.0) (λ e. e.0) (λ e. e.0) y))
field_step y = grind (arith, common_steps, the_lemmas, y.typ.1)

type_step : (y : FirType-F ((s : Shape) × ShapeMask s) ((f : Field) × FieldMask f) ((t : FirType) × TypeMask t))
    → TypeMask (roll-FirType (map-FirType _ _ _ Shape Field FirType (λ e. e.0) (λ e. e.0) (λ e. e.0) y))
type_step y = grind (arith, common_steps, the_lemmas, y.shape.1)

pub mask_plain : (t : FirType) → TypeMask t
mask_plain = ind-FirType ShapeMask FieldMask TypeMask
    (λ x y is. subst (λ z. ShapeMask (roll-Shape z)) is (shape_step y))
    (λ x y is. subst (λ z. FieldMask (roll-Field z)) is (field_step y))
    (λ x y is. subst (λ z. TypeMask (roll-FirType z)) is (type_step y))

-- fields of which none has one
abbrev Fine : List Field → Type 0
Fine fields = any_of (map field_holds fields) ≡ false

fine_one : (f : Field) (fields : List Field) → holds_async f.typ ≡ false → Fine fields → Fine (f ∷ fields)
fine_one f fields e h = or_both (field_holds f) _ (holds_field f ∙ e) h

fine_uint : (place : Place) (width : ℕ) → holds_async (uint_at place width) ≡ false
fine_uint place width = holds_uint (uint_at place width) (Some width) refl

fine_mode : (place : Place) (element : FirType) (m : PortMode) → holds_async element ≡ false → Fine (fields_of_mode place element m)
fine_mode place element mode.Reader e = fine_one (flipped_field place 3 element) [] e refl
fine_mode place element mode.Writer e =
    fine_one (plain_field place 3 element) (plain_field place 4 (mask_of element) ∷ []) e (fine_one (plain_field place 4 (mask_of element)) [] (mask_plain element) refl)
fine_mode place element mode.ReadWriter e =
    fine_one (flipped_field place 5 element) (plain_field place 6 (uint_at place 1) ∷ plain_field place 7 element ∷ plain_field place 8 (mask_of element) ∷ []) e
    (fine_one (plain_field place 6 (uint_at place 1)) (plain_field place 7 element ∷ plain_field place 8 (mask_of element) ∷ []) (fine_uint place 1)
    (fine_one (plain_field place 7 element) (plain_field place 8 (mask_of element) ∷ []) e (fine_one (plain_field place 8 (mask_of element)) [] (mask_plain element) refl)))

fine_port : (element : FirType) (depth : ℕ) (m : PortMode) (place : Place) → holds_async element ≡ false → holds_async (port_type element depth m place) ≡ false
fine_port element depth m place e =
    let behind : List Field = fields_of_mode place element m in
    let bits : Field = plain_field place 0 (uint_at place (address_bits depth)) in
    let en : Field = plain_field place 1 (uint_at place 1) in
    let clk : Field = plain_field place 2 (clock_at place) in
    holds_bundle (port_type element depth m place) (bits ∷ en ∷ clk ∷ behind) refl
    ∙ fine_one bits (en ∷ clk ∷ behind) (fine_uint place (address_bits depth))
    (fine_one en (clk ∷ behind) (fine_uint place 1) (fine_one clk behind (holds_clock (clock_at place) refl) (fine_mode place element m e)))

fine_lines : (element : FirType) (depth : ℕ) (lines : List MemLine) → holds_async element ≡ false → Fine (filter_map (port_field element depth) lines)
fine_lines element depth [] e = refl
fine_lines element depth (line.MemPort at m name ∷ lines) e =
    fine_one (record { flip = true; name = name; typ = port_type element depth m name.place }) (filter_map (port_field element depth) lines)
    (fine_port element depth m name.place e) (fine_lines element depth lines e)
fine_lines element depth (line.Element at typ ∷ lines) e = fine_lines element depth lines e
fine_lines element depth (line.Depth at d ∷ lines) e = fine_lines element depth lines e
fine_lines element depth (line.ReadLatency at d ∷ lines) e = fine_lines element depth lines e
fine_lines element depth (line.WriteLatency at d ∷ lines) e = fine_lines element depth lines e
fine_lines element depth (line.ReadUnder at u ∷ lines) e = fine_lines element depth lines e

pub memory_plain : (memory : Memory) → holds_async (element_of memory) ≡ false → holds_async (memory_of memory) ≡ false
memory_plain memory e =
    holds_bundle (memory_of memory) (filter_map (port_field (element_of memory) (depth_of memory)) memory.lines) refl
    ∙ fine_lines (element_of memory) (depth_of memory) memory.lines e

fine_ports : (ports : List Port) → list_any port_source ports ≡ false → Fine (map instance_field ports)
fine_ports [] e = refl
fine_ports (port ∷ ports) e =
    fine_one (instance_field port) (map instance_field ports) (or_left (port_source port) _ e) (fine_ports ports (or_right (port_source port) _ e))

pub instance_plain : (ports : List Port) → list_any port_source ports ≡ false → holds_async (instance_of ports) ≡ false
instance_plain ports e = holds_bundle (instance_of ports) (map instance_field ports) refl ∙ fine_ports ports e
