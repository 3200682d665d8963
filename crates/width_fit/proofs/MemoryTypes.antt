-- The fitted type of a memory is the type of the memory over the fitted type of its elements.
use Rattle.std.proofs.Common.{◌≡◌, ℕ, suc, ◌+◌, ◌≤◌, Bool, true, ◌&&◌, List, [], ◌∷◌, ◌++◌, map, length, take, drop, refl, sym, ap, ap₂, ◌∙◌, subst, arith, append_assoc, append-nil, filter_map}
use Rattle.std.specs.List.{flat_map, list_any}
use Rattle.std.proofs.lemmas.Grind.{common_steps}
use Rattle.std.proofs.lemmas.List.{length-map, map-append}
use Rattle.std.proofs.lemmas.List.Folds.{flat_map-map}
use Rattle.place_text.specs.declared.place.Place.{Place}
use Rattle.fir_types.specs.declared.fir_type.FirType.{FirType, ind-FirType, the_lemmas}
use Rattle.fir_types.specs.declared.fir_type.Shape.{Shape}
use Rattle.fir_types.specs.declared.fir_type.Shape.TheOpen.{Shape-F, Field-F, FirType-F}
use Rattle.fir_types.specs.declared.fir_type.Shape.TheFolds.{map-Shape, map-Field, map-FirType}
use Rattle.fir_types.specs.declared.fir_type.Shape.TheViews.{roll-Shape, roll-Field, roll-FirType}
use Rattle.fir_types.specs.declared.fir_type.Shape.TheVariants as shape
use Rattle.fir_types.specs.declared.fir_type.Field.{Field}
use Rattle.fir_types.specs.declared.memory.Memory.{Memory}
use Rattle.fir_types.specs.declared.memory.MemLine.{MemLine}
use Rattle.fir_types.specs.declared.memory.MemLine.TheVariants as line
use Rattle.fir_types.specs.declared.memory.PortMode.{PortMode}
use Rattle.fir_types.specs.declared.memory.PortMode.TheVariants as mode
use Rattle.fir_types.specs.Bundles.{mask_of, mask_of_shape, mask_of_field, nowhere, address_bits, uint_at, clock_at, plain_field, flipped_field, fields_of_mode, port_type, port_field, memory_of, addr_name, en_name, clk_name, data_name, mask_name, rdata_name, wmode_name, wdata_name, wmask_name}
use Rattle.fir_types.specs.Memories.{element_of, element_in, depth_of, depth_in, first_or}
use Rattle.prim_ops.specs.declared.widths.Width.{Width}
use Rattle.prim_ops.specs.declared.widths.Width.TheVariants.{Bits}
use Rattle.width_rules.specs.declared.slot.Slot.{Slot}
use Rattle.width_rules.specs.declared.slot.Slot.TheVariants as slot
use Rattle.fir_tree.specs.Parts.{source_of}
use Rattle.width_rules.specs.declared.component.Component.{Component}
use Rattle.width_rules.specs.Places.{Spot, spots, size, turned, slots_from, is_open}
use Rattle.width_rules.specs.Circuits.{memory_slots}
use Rattle.width_rules.specs.Layers.{one_bit, mask_widths, mode_widths, line_widths, field_spots}
use Rattle.width_rules.specs.Targets.{is_port}
use Rattle.width_rules.proofs.Capped.{address_small}
use Rattle.width_rules.proofs.Cuts.{any_in_ports}
use Rattle.width_rules.proofs.FormulaLemmas.{width-Fixed}
use Rattle.width_rules.proofs.Walking.{lines_are}
use Rattle.type_filling.specs.Filling.{taking, filled}
use Rattle.type_filling.specs.Layers.{shape_taking, field_taking, fields_taking}
use Rattle.width_fit.specs.Judging.{slot_width, is_over}
use Rattle.width_fit.specs.Memories.{line_with, memory_with}
use Rattle.part_fits.specs.declared.fits.Fit.{Fit}
use Rattle.part_fits.specs.Fits.{Fits}
use Rattle.width_fit.proofs.Declaring.{any-map}
use Rattle.part_fits.proofs.Filled.{fills, shape_spots}

-- A mask forgets the widths of what it is the mask of.

abbrev ShapeForgets : Shape → Type 0
ShapeForgets s = (ws : List Width) → mask_of_shape (shape_taking s ws).0 ≡ mask_of_shape s

abbrev FieldForgets : Field → Type 0
FieldForgets f = (ws : List Width) → mask_of_field (field_taking f ws).0 ≡ mask_of_field f

abbrev TypeForgets : FirType → Type 0
TypeForgets t = (ws : List Width) → mask_of (taking t ws).0 ≡ mask_of t

fields_forget : (ps : List ((f : Field) × FieldForgets f)) (ws : List Width)
    → map mask_of_field (fields_taking (map (λ e. e.0) ps) ws).0 ≡ map mask_of_field (map (λ e. e.0) ps)
fields_forget [] ws = refl
fields_forget (p ∷ ps) ws = ap₂ (λ f fs. f ∷ fs) (p.1 ws) (fields_forget ps (field_taking p.0 ws).1)

shape_forgets : (y : Shape-F ((s : Shape) × ShapeForgets s) ((f : Field) × FieldForgets f) ((t : FirType) × TypeForgets t))
    → ShapeForgets (roll-Shape (map-Shape _ _ _ Shape Field FirType (λ e. e.0) (λ e. e.0) (λ e. e.0) y))
shape_forgets (Shape-F.Unsigned w) ws = grind (arith, common_steps, the_lemmas)
shape_forgets (Shape-F.Signed w) ws = grind (arith, common_steps, the_lemmas)
shape_forgets Shape-F.Clock ws = grind (arith, common_steps, the_lemmas)
shape_forgets Shape-F.Reset ws = grind (arith, common_steps, the_lemmas)
shape_forgets Shape-F.AsyncReset ws = grind (arith, common_steps, the_lemmas)
shape_forgets (Shape-F.Bundle fields) ws = grind (arith, common_steps, the_lemmas, fields_forget fields ws)
shape_forgets (Shape-F.Vector element n) ws = grind (arith, common_steps, the_lemmas, element.1 ws)

field_forgets : (y : Field-F ((s : Shape) × ShapeForgets s) ((f : Field) × FieldForgets f) ((t : FirType) × TypeForgets t))
    → FieldForgets (roll-Field (map-Field _ _ _ Shape Field FirType (λ e. e.0) (λ e. e.0) (λ e. e.0) y))
field_forgets y ws = grind (arith, common_steps, the_lemmas, y.typ.1 ws)

type_forgets : (y : FirType-F ((s : Shape) × ShapeForgets s) ((f : Field) × FieldForgets f) ((t : FirType) × TypeForgets t))
    → TypeForgets (roll-FirType (map-FirType _ _ _ Shape Field FirType (λ e. e.0) (λ e. e.0) (λ e. e.0) y))
type_forgets y ws = grind (arith, common_steps, the_lemmas, y.shape.1 ws)

forgets : (t : FirType) → TypeForgets t
forgets = ind-FirType ShapeForgets FieldForgets TypeForgets
    (λ x y is. subst (λ z. ShapeForgets (roll-Shape z)) is (shape_forgets y))
    (λ x y is. subst (λ z. FieldForgets (roll-Field z)) is (field_forgets y))
    (λ x y is. subst (λ z. TypeForgets (roll-FirType z)) is (type_forgets y))

-- A mask with one bit in each place is that mask.

abbrev one : Spot → Width
one spot = Bits 1

abbrev ShapeStays : Shape → Type 0
ShapeStays s = (rest : List Width) → shape_taking (mask_of_shape s) (map one (shape_spots (mask_of_shape s)) ++ rest) ≡ (mask_of_shape s, rest)

abbrev FieldStays : Field → Type 0
FieldStays f = (rest : List Width) → field_taking (mask_of_field f) (map one (field_spots (mask_of_field f)) ++ rest) ≡ (mask_of_field f, rest)

abbrev TypeStays : FirType → Type 0
TypeStays t = (rest : List Width) → taking (mask_of t) (map one (spots (mask_of t)) ++ rest) ≡ (mask_of t, rest)

ones_turned : (flip : Bool) (found : List Spot) → map one (map (turned flip) found) ≡ map one found
ones_turned flip [] = refl
ones_turned flip (spot ∷ found) = ap (λ l. Bits 1 ∷ l) (ones_turned flip found)

-- one field, and then others
then_fields : (g h : Field) (gs hs : List Field) (ws mid rest : List Width) → field_taking g ws ≡ (h, mid) → fields_taking gs mid ≡ (hs, rest) → fields_taking (g ∷ gs) ws ≡ (h ∷ hs, rest)
then_fields g h gs hs ws mid rest a b =
    ap (λ (first : Field × List Width). (first.0 ∷ (fields_taking gs first.1).0, (fields_taking gs first.1).1)) a
    ∙ ap (λ (others : List Field × List Width). (h ∷ others.0, others.1)) b

no_fields : (ws : List Width) → fields_taking [] ws ≡ ([], ws)
no_fields ws = refl

-- widths of two parts, and those behind them
parted : {A : Type 0} (f : A → Width) (xs ys : List A) (rest : List Width) → map f (xs ++ ys) ++ rest ≡ map f xs ++ (map f ys ++ rest)
parted f xs ys rest = ap (λ l. l ++ rest) (map-append f xs ys) ∙ append_assoc (map f xs) (map f ys) rest

fields_stay : (ps : List ((f : Field) × FieldStays f)) (rest : List Width)
    → fields_taking (map mask_of_field (map (λ e. e.0) ps)) (map one (flat_map field_spots (map mask_of_field (map (λ e. e.0) ps))) ++ rest) ≡ (map mask_of_field (map (λ e. e.0) ps), rest)
fields_stay [] rest = refl
fields_stay (p ∷ ps) rest =
    let m : Field = mask_of_field p.0 in
    let ms : List Field = map mask_of_field (map (λ e. e.0) ps) in
    ap (fields_taking (m ∷ ms)) (parted one (field_spots m) (flat_map field_spots ms) rest)
    ∙ then_fields m m ms ms _ (map one (flat_map field_spots ms) ++ rest) rest (p.1 (map one (flat_map field_spots ms) ++ rest)) (fields_stay ps rest)

shape_stays : (y : Shape-F ((s : Shape) × ShapeStays s) ((f : Field) × FieldStays f) ((t : FirType) × TypeStays t))
    → ShapeStays (roll-Shape (map-Shape _ _ _ Shape Field FirType (λ e. e.0) (λ e. e.0) (λ e. e.0) y))
shape_stays (Shape-F.Unsigned w) rest = grind (arith, common_steps, the_lemmas)
shape_stays (Shape-F.Signed w) rest = grind (arith, common_steps, the_lemmas)
shape_stays Shape-F.Clock rest = grind (arith, common_steps, the_lemmas)
shape_stays Shape-F.Reset rest = grind (arith, common_steps, the_lemmas)
shape_stays Shape-F.AsyncReset rest = grind (arith, common_steps, the_lemmas)
shape_stays (Shape-F.Bundle fields) rest = grind (arith, common_steps, the_lemmas, flat_map-map, fields_stay fields rest)
shape_stays (Shape-F.Vector element n) rest = grind (arith, common_steps, the_lemmas, element.1 rest)

field_stays : (y : Field-F ((s : Shape) × ShapeStays s) ((f : Field) × FieldStays f) ((t : FirType) × TypeStays t))
    → FieldStays (roll-Field (map-Field _ _ _ Shape Field FirType (λ e. e.0) (λ e. e.0) (λ e. e.0) y))
field_stays y rest = grind (arith, common_steps, the_lemmas, y.typ.1 rest, ones_turned y.flip (spots (mask_of y.typ.0)))

type_stays : (y : FirType-F ((s : Shape) × ShapeStays s) ((f : Field) × FieldStays f) ((t : FirType) × TypeStays t))
    → TypeStays (roll-FirType (map-FirType _ _ _ Shape Field FirType (λ e. e.0) (λ e. e.0) (λ e. e.0) y))
type_stays y rest = grind (arith, common_steps, the_lemmas, y.shape.1 rest)

stays : (t : FirType) → TypeStays t
stays = ind-FirType ShapeStays FieldStays TypeStays
    (λ x y is. subst (λ z. ShapeStays (roll-Shape z)) is (shape_stays y))
    (λ x y is. subst (λ z. FieldStays (roll-Field z)) is (field_stays y))
    (λ x y is. subst (λ z. TypeStays (roll-FirType z)) is (type_stays y))

-- Layers of a port

bundle_taking : (place : Place) (fs : List Field) (ws : List Width)
    → taking (record { place = place; shape = shape.Bundle fs }) ws ≡ (record { place = place; shape = shape.Bundle (fields_taking fs ws).0 }, (fields_taking fs ws).1)
bundle_taking place fs ws = grind (arith, common_steps, the_lemmas)

field_is : (f : Field) (typ : FirType) (ws rest : List Width) → taking f.typ ws ≡ (typ, rest) → field_taking f ws ≡ (record { flip = f.flip; name = f.name; typ = typ }, rest)
field_is f typ ws rest h = grind (arith, common_steps, the_lemmas, h)

uint_taking : (place : Place) (n : ℕ) (w : Width) (rest : List Width) → w ≡ Bits n → taking (uint_at place n) (w ∷ rest) ≡ (uint_at place n, rest)
uint_taking place n w rest is = ap (λ w. taking (uint_at place n) (w ∷ rest)) is ∙ grind (arith, common_steps, the_lemmas)

clock_taking : (place : Place) (ws : List Width) → taking (clock_at place) ws ≡ (clock_at place, ws)
clock_taking place ws = grind (arith, common_steps, the_lemmas)

module _ (all : List Width) where
  abbrev width : Slot → Width
  width = slot_width all

  fixed_width : (n : ℕ) → n ≤ 128 → width (slot.Fixed n) ≡ Bits n
  fixed_width n small = width-Fixed n all ∙ grind (arith, small)

  one_width : width (slot.Fixed 1) ≡ Bits 1
  one_width = fixed_width 1 (omega arith)

  module _ (typ : FirType) (depth : ℕ) (slots : List Slot) (whole : length slots ≡ size typ) where
    abbrev fitted : FirType
    fitted = filled typ (map width slots)

    element_taking : (rest : List Width) → taking typ (map width slots ++ rest) ≡ (fitted, rest)
    element_taking rest =
        let ws : List Width = map width slots in
        let n : length ws ≡ size typ = length-map slots width ∙ whole in
        let first : take (size typ) (ws ++ rest) ≡ ws = grind (arith, common_steps, n) in
        let behind : drop (size typ) (ws ++ rest) ≡ rest = grind (arith, common_steps, n) in
        ap₂ (λ t vs. (t, vs)) (sym ((fills typ).own (ws ++ rest)) ∙ ap (λ vs. (taking typ vs).0) first) ((fills typ).behind (ws ++ rest) ∙ behind)

    ones : (found : List Spot) → map width (map one_bit found) ≡ map one found
    ones [] = refl
    ones (spot ∷ found) = ap₂ (λ w ws. w ∷ ws) one_width (ones found)

    mask_taking : (rest : List Width) → taking (mask_of typ) (map width (mask_widths typ) ++ rest) ≡ (mask_of fitted, rest)
    mask_taking rest =
        ap (λ ws. taking (mask_of typ) (ws ++ rest)) (ones (spots (mask_of typ))) ∙ stays typ rest
        ∙ ap (λ t. (t, rest)) (sym (forgets typ (map width slots)))

    mode_taking : (place : Place) (m : PortMode) (rest : List Width)
        → fields_taking (fields_of_mode place typ m) (map width (mode_widths typ slots m) ++ rest) ≡ (fields_of_mode place fitted m, rest)
    mode_taking place mode.Reader rest =
        then_fields (flipped_field place data_name typ) (flipped_field place data_name fitted) [] [] _ rest rest
        (field_is (flipped_field place data_name typ) fitted _ rest (element_taking rest)) (no_fields rest)
    mode_taking place mode.Writer rest =
        let masks : List Width = map width (mask_widths typ) ++ rest in
        ap (fields_taking (fields_of_mode place typ mode.Writer)) (parted width slots (mask_widths typ) rest)
        ∙ then_fields (plain_field place data_name typ) (plain_field place data_name fitted) (plain_field place mask_name (mask_of typ) ∷ []) (plain_field place mask_name (mask_of fitted) ∷ []) _ masks rest
        (field_is (plain_field place data_name typ) fitted _ masks (element_taking masks))
        (then_fields (plain_field place mask_name (mask_of typ)) (plain_field place mask_name (mask_of fitted)) [] [] _ rest rest
        (field_is (plain_field place mask_name (mask_of typ)) (mask_of fitted) _ rest (mask_taking rest)) (no_fields rest))
    mode_taking place mode.ReadWriter rest =
        let masks : List Width = map width (mask_widths typ) ++ rest in
        let written : List Width = map width slots ++ masks in
        let behind : List Width = width (slot.Fixed 1) ∷ written in
        let last : FirType → List Field = λ mask. plain_field place wmask_name mask ∷ [] in
        let later : FirType → FirType → List Field = λ t mask. plain_field place wdata_name t ∷ last mask in
        let others : FirType → FirType → List Field = λ t mask. plain_field place wmode_name (uint_at place 1) ∷ later t mask in
        let order : map width (mode_widths typ slots mode.ReadWriter) ++ rest ≡ map width slots ++ behind
        = parted width slots (slot.Fixed 1 ∷ (slots ++ mask_widths typ)) rest ∙ ap (λ ws. map width slots ++ (width (slot.Fixed 1) ∷ ws)) (parted width slots (mask_widths typ) rest) in
        ap (fields_taking (fields_of_mode place typ mode.ReadWriter)) order
        ∙ then_fields (flipped_field place rdata_name typ) (flipped_field place rdata_name fitted) (others typ (mask_of typ)) (others fitted (mask_of fitted)) _ behind rest
        (field_is (flipped_field place rdata_name typ) fitted _ behind (element_taking behind))
        (then_fields (plain_field place wmode_name (uint_at place 1)) (plain_field place wmode_name (uint_at place 1)) (later typ (mask_of typ)) (later fitted (mask_of fitted)) _ written rest
        (field_is (plain_field place wmode_name (uint_at place 1)) (uint_at place 1) _ written (uint_taking place 1 _ written one_width))
        (then_fields (plain_field place wdata_name typ) (plain_field place wdata_name fitted) (last (mask_of typ)) (last (mask_of fitted)) _ masks rest
        (field_is (plain_field place wdata_name typ) fitted _ masks (element_taking masks))
        (then_fields (plain_field place wmask_name (mask_of typ)) (plain_field place wmask_name (mask_of fitted)) [] [] _ rest rest
        (field_is (plain_field place wmask_name (mask_of typ)) (mask_of fitted) _ rest (mask_taking rest)) (no_fields rest))))

    port_taking : (at place : Place) (m : PortMode) (name : _) (rest : List Width)
        → taking (port_type typ depth m place) (map width (line_widths typ depth slots (line.MemPort at m name)) ++ rest) ≡ (port_type fitted depth m place, rest)
    port_taking at place m name rest =
        let data_widths : List Width = map width (mode_widths typ slots m) ++ rest in
        let addr : Field = plain_field place addr_name (uint_at place (address_bits depth)) in
        let en : Field = plain_field place en_name (uint_at place 1) in
        let clk : Field = plain_field place clk_name (clock_at place) in
        let third : FirType → List Field = λ t. clk ∷ fields_of_mode place t m in
        let second : FirType → List Field = λ t. en ∷ third t in
        let taken : fields_taking (addr ∷ second typ) (width (slot.Fixed (address_bits depth)) ∷ (width (slot.Fixed 1) ∷ data_widths)) ≡ (addr ∷ second fitted, rest)
        = then_fields addr addr (second typ) (second fitted) _ (width (slot.Fixed 1) ∷ data_widths) rest
        (field_is addr (uint_at place (address_bits depth)) _ _ (uint_taking place (address_bits depth) _ _ (fixed_width (address_bits depth) (address_small depth))))
        (then_fields en en (third typ) (third fitted) _ data_widths rest (field_is en (uint_at place 1) _ _ (uint_taking place 1 _ _ one_width))
        (then_fields clk clk (fields_of_mode place typ m) (fields_of_mode place fitted m) _ data_widths rest (field_is clk (clock_at place) _ _ (clock_taking place data_widths))
        (mode_taking place m rest))) in
        bundle_taking place (addr ∷ second typ) _ ∙ ap (λ (t : List Field × List Width). (record { place = place; shape = shape.Bundle t.0 }, t.1)) taken

    lines_taking : (ls : List MemLine) (rest : List Width)
        → fields_taking (filter_map (port_field typ depth) ls) (map width (flat_map (line_widths typ depth slots) ls) ++ rest) ≡ (filter_map (port_field fitted depth) (map (line_with fitted) ls), rest)
    lines_taking [] rest = refl
    lines_taking (line.MemPort at m name ∷ ls) rest =
        let port : Field = record { flip = true; name = name; typ = port_type typ depth m name.place } in
        let own : Field = record { flip = true; name = name; typ = port_type fitted depth m name.place } in
        let behind : List Width = map width (flat_map (line_widths typ depth slots) ls) ++ rest in
        ap (fields_taking (port ∷ filter_map (port_field typ depth) ls)) (parted width (line_widths typ depth slots (line.MemPort at m name)) (flat_map (line_widths typ depth slots) ls) rest)
        ∙ then_fields port own (filter_map (port_field typ depth) ls) (filter_map (port_field fitted depth) (map (line_with fitted) ls)) _ behind rest
        (field_is port (port_type fitted depth m name.place) _ behind (port_taking at name.place m name behind)) (lines_taking ls rest)
    lines_taking (line.Element at t ∷ ls) rest = lines_taking ls rest
    lines_taking (line.Depth at n ∷ ls) rest = lines_taking ls rest
    lines_taking (line.ReadLatency at n ∷ ls) rest = lines_taking ls rest
    lines_taking (line.WriteLatency at n ∷ ls) rest = lines_taking ls rest
    lines_taking (line.ReadUnder at u ∷ ls) rest = lines_taking ls rest

-- what a memory over another type says

depth_kept : (typ : FirType) (ls : List MemLine) → filter_map depth_in (map (line_with typ) ls) ≡ filter_map depth_in ls
depth_kept typ [] = refl
depth_kept typ (line.MemPort at m name ∷ ls) = depth_kept typ ls
depth_kept typ (line.Element at t ∷ ls) = depth_kept typ ls
depth_kept typ (line.Depth at n ∷ ls) = ap (λ l. n ∷ l) (depth_kept typ ls)
depth_kept typ (line.ReadLatency at n ∷ ls) = depth_kept typ ls
depth_kept typ (line.WriteLatency at n ∷ ls) = depth_kept typ ls
depth_kept typ (line.ReadUnder at u ∷ ls) = depth_kept typ ls

abbrev empty : FirType
empty = record { place = nowhere; shape = shape.Bundle [] }

empty_filled : (ws : List Width) → filled empty ws ≡ empty
empty_filled ws = ap (λ (t : FirType × List Width). t.0) (bundle_taking nowhere [] ws)

-- the type of the elements is the new one, where a line gives one or it is the one that stands for none
element_new : (typ : FirType) (ls : List MemLine) → (filter_map element_in ls ≡ [] → typ ≡ empty) → first_or empty (filter_map element_in (map (line_with typ) ls)) ≡ typ
element_new typ [] h = sym (h refl)
element_new typ (line.Element at t ∷ ls) h = refl
element_new typ (line.MemPort at m name ∷ ls) h = element_new typ ls h
element_new typ (line.Depth at n ∷ ls) h = element_new typ ls h
element_new typ (line.ReadLatency at n ∷ ls) h = element_new typ ls h
element_new typ (line.WriteLatency at n ∷ ls) h = element_new typ ls h
element_new typ (line.ReadUnder at u ∷ ls) h = element_new typ ls h

pub memory_filled : (all : List Width) (memory : Memory) (slots : List Slot) → length slots ≡ size (element_of memory)
    → filled (memory_of memory) (map (slot_width all) (memory_slots memory slots)) ≡ memory_of (memory_with (filled (element_of memory) (map (slot_width all) slots)) memory)
memory_filled all memory slots whole =
    let typ : FirType = element_of memory in
    let depth : ℕ = depth_of memory in
    let ws : List Width = map (slot_width all) slots in
    let own : FirType = filled typ ws in
    let ports : List Field = filter_map (port_field typ depth) memory.lines in
    let widths : map (slot_width all) (memory_slots memory slots) ≡ map (slot_width all) (flat_map (line_widths typ depth slots) memory.lines) ++ []
    = ap (map (slot_width all)) (sym (lines_are memory slots memory.lines)) ∙ sym (append-nil _) in
    let none : filter_map element_in memory.lines ≡ [] → own ≡ empty = λ e. ap (λ l. filled (first_or empty l) ws) e ∙ empty_filled ws in
    let element : element_of (memory_with own memory) ≡ own = element_new own memory.lines none in
    let deep : depth_of (memory_with own memory) ≡ depth = ap (first_or 1) (depth_kept own memory.lines) in
    ap (λ vs. filled (memory_of memory) vs) widths
    ∙ ap (λ (t : FirType × List Width). t.0) (bundle_taking nowhere ports _)
    ∙ ap (λ (t : List Field × List Width). record { place = nowhere; shape = shape.Bundle t.0 }) (lines_taking all typ depth slots whole memory.lines [])
    ∙ ap₂ (λ t n. record { place = nowhere; shape = shape.Bundle (filter_map (port_field t n) (map (line_with own) memory.lines)) }) (sym element) (sym deep)

-- A memory has a width over the limit exactly where it has a port and its elements have one.
pub memory_over : (all : List Width) (memory : Memory) (slots : List Slot)
    → list_any is_over (map (slot_width all) (memory_slots memory slots)) ≡ (list_any is_port memory.lines && list_any is_over (map (slot_width all) slots))
memory_over all memory slots =
    let p : Slot → Bool = λ s. is_over (slot_width all s) in
    let typ : FirType = element_of memory in
    let depth : ℕ = depth_of memory in
    any-map is_over (slot_width all) (memory_slots memory slots) ∙ ap (list_any p) (sym (lines_are memory slots memory.lines))
    ∙ any_in_ports p typ depth slots (ap is_over (fixed_width all (address_bits depth) (address_small depth))) (ap is_over (one_width all)) memory.lines
    ∙ ap (λ b. list_any is_port memory.lines && b) (sym (any-map is_over (slot_width all) slots))

-- a memory and the fitted type of its elements, as the walk makes them

slots_length : (n : ℕ) (found : List Spot) → length (slots_from n found) ≡ length found
slots_length n [] = refl
slots_length n (spot ∷ found) = ap suc (slots_length (n + is_open spot.width) found)

pub memory_fitted : (all : List Width) (memory : Memory) (n : ℕ) (slots : List Slot) (element fitted typ : FirType) (widths : List Width) → element ≡ element_of memory → slots ≡ slots_from n (spots element)
    → widths ≡ map (slot_width all) slots → fitted ≡ filled element widths → typ ≡ memory_of (memory_with fitted memory)
    → typ ≡ filled (memory_of memory) (map (slot_width all) (memory_slots memory slots))
memory_fitted all memory n slots element fitted typ widths e s w f t =
    let whole : length slots ≡ size (element_of memory) = ap length s ∙ slots_length n (spots element) ∙ ap size e in
    t ∙ ap (λ own. memory_of (memory_with own memory)) (f ∙ ap₂ filled e w) ∙ sym (memory_filled all memory slots whole)

pub memory_fits : (all : List Width) (memory : Memory) (slots : List Slot) (widths : List Width) (sized : Component) (fit : Fit) → sized ≡ record { part = source_of (memory_of memory); slots = memory_slots memory slots }
    → widths ≡ map (slot_width all) slots → fit.typ ≡ filled (memory_of memory) (map (slot_width all) (memory_slots memory slots))
    → fit.is_over ≡ (list_any is_port memory.lines && list_any is_over widths) → Fits all sized fit.typ fit.is_over
memory_fits all memory slots widths sized fit is w t o = subst (λ c. Fits all c fit.typ fit.is_over) (sym is) (record {
  typ_is = t;
  over_is = o ∙ ap (λ ws. list_any is_port memory.lines && list_any is_over ws) w ∙ sym (memory_over all memory slots);
})
