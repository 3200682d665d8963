-- The ports of a memory share the types of their data and of their masks.
use Rattle.std.proofs.Common.{◌≡◌, ℕ, true, false, List, [], ◌∷◌, All, filter_map, refl, subst}
use Rattle.std.proofs.lemmas.List.Elements.{All-cons, All-nil}
use Rattle.fir_types.specs.declared.fir_type.FirType.{FirType}
use Rattle.fir_types.specs.declared.fir_type.Field.{Field}
use Rattle.fir_types.specs.declared.memory.MemLine.{MemLine}
use Rattle.fir_types.specs.declared.memory.MemLine.TheVariants as line
use Rattle.fir_types.specs.declared.memory.PortMode.{PortMode}
use Rattle.fir_types.specs.declared.memory.PortMode.TheVariants as mode
use Rattle.place_text.specs.declared.place.Place.{Place}
use Rattle.fir_types.specs.Bundles.{mask_of, port_type, port_field, plain_field, flipped_field, fields_of_mode, uint_at, clock_at, address_bits, addr_name, en_name, clk_name, data_name, mask_name, rdata_name, wmode_name, wdata_name, wmask_name}
use Rattle.type_index.specs.Ports.{is_data, is_mask, IsPortField, ArePortFields, ArePorts}
use Rattle.type_index.proofs.Parts.{same_fields}

-- a field before others, which is data or a mask of its type, or neither
before : {element : FirType} (field : Field) (fields : List Field) → IsPortField element (mask_of element) field → All (IsPortField element (mask_of element)) fields
    → All (IsPortField element (mask_of element)) (field ∷ fields)
before {element} field fields = All-cons (IsPortField element (mask_of element)) field fields

a_datum : {element mask : FirType} (field : Field) → field.typ ≡ element → is_mask field.name.id ≡ false → IsPortField element mask field
a_datum field same none = record { data' = λ h. same; mask' = λ h. absurd cc }

a_mask : {element mask : FirType} (field : Field) → field.typ ≡ mask → is_data field.name.id ≡ false → IsPortField element mask field
a_mask field same none = record { data' = λ h. absurd cc; mask' = λ h. same }

neither : {element mask : FirType} (field : Field) → is_data field.name.id ≡ false → is_mask field.name.id ≡ false → IsPortField element mask field
neither field none other = record { data' = λ h. absurd cc; mask' = λ h. absurd cc }

fields_are : (element : FirType) (place : Place) (m : PortMode) → All (IsPortField element (mask_of element)) (fields_of_mode place element m)
fields_are element place mode.Reader =
    before (flipped_field place data_name element) [] (a_datum (flipped_field place data_name element) refl refl) (All-nil (IsPortField element (mask_of element)))
fields_are element place mode.Writer =
    let own = plain_field place data_name element in
    let mask = plain_field place mask_name (mask_of element) in
    before own (mask ∷ []) (a_datum own refl refl) (before mask [] (a_mask mask refl refl) (All-nil (IsPortField element (mask_of element))))
fields_are element place mode.ReadWriter =
    let read = flipped_field place rdata_name element in
    let wmode = plain_field place wmode_name (uint_at place 1) in
    let written = plain_field place wdata_name element in
    let mask = plain_field place wmask_name (mask_of element) in
    before read (wmode ∷ written ∷ mask ∷ []) (a_datum read refl refl)
    (before wmode (written ∷ mask ∷ []) (neither wmode refl refl)
    (before written (mask ∷ []) (a_datum written refl refl) (before mask [] (a_mask mask refl refl) (All-nil (IsPortField element (mask_of element))))))

port_is : (element : FirType) (depth : ℕ) (m : PortMode) (place : Place) → ArePortFields element (mask_of element) (port_type element depth m place)
port_is element depth m place fields is =
    let addr = plain_field place addr_name (uint_at place (address_bits depth)) in
    let en = plain_field place en_name (uint_at place 1) in
    let clk = plain_field place clk_name (clock_at place) in
    let rest = fields_of_mode place element m in
    subst (All (IsPortField element (mask_of element))) (same_fields (addr ∷ en ∷ clk ∷ rest) fields is)
    (before addr (en ∷ clk ∷ rest) (neither addr refl refl) (before en (clk ∷ rest) (neither en refl refl) (before clk rest (neither clk refl refl) (fields_are element place m))))

pub ports_are : (element : FirType) (depth : ℕ) (lines : List MemLine) → ArePorts element (mask_of element) (filter_map (port_field element depth) lines)
ports_are element depth [] = All-nil (λ port. ArePortFields element (mask_of element) port.typ)
ports_are element depth (line.MemPort at m name ∷ lines) =
    All-cons (λ port. ArePortFields element (mask_of element) port.typ) (record { flip = true; name = name; typ = port_type element depth m name.place })
    (filter_map (port_field element depth) lines) (port_is element depth m name.place) (ports_are element depth lines)
ports_are element depth (line.Element at typ ∷ lines) = ports_are element depth lines
ports_are element depth (line.Depth at n ∷ lines) = ports_are element depth lines
ports_are element depth (line.ReadLatency at n ∷ lines) = ports_are element depth lines
ports_are element depth (line.WriteLatency at n ∷ lines) = ports_are element depth lines
ports_are element depth (line.ReadUnder at under ∷ lines) = ports_are element depth lines
