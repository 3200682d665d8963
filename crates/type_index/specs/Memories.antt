-- The numbers of the ports of a memory (FIRRTL specification 3.0, "Memories").
use Rattle.std.specs.Prelude.{ℕ, true, false, List, [], ◌∷◌}
use Rattle.place_text.specs.declared.place.Place.{Place}
use Rattle.fir_types.specs.declared.fir_type.FirType.{FirType}
use Rattle.fir_types.specs.declared.fir_type.Field.{Field}
use Rattle.fir_types.specs.declared.memory.PortMode.{PortMode}
use Rattle.fir_types.specs.declared.memory.PortMode.TheVariants as mode
use Rattle.fir_types.specs.Bundles.{mask_of, plain_field, fields_of_mode, uint_at, clock_at, address_bits, addr_name, en_name, clk_name, data_name, mask_name, rdata_name, wmode_name, wdata_name, wmask_name}
use Rattle.type_index.specs.declared.keys.FieldPart.{FieldPart}
use Rattle.type_index.specs.declared.memory_classes.Elements.{Elements}
use Rattle.type_index.specs.Numbers.{Table, HasNumber}

-- the numbers of a type and of its mask
pub record AreElements (table : Table) (element : FirType) (elements : Elements) : Type 0 where
  pub element' : HasNumber table element elements.element
  pub mask' : HasNumber table (mask_of element) elements.mask

-- the fields of a port, which are those of its bundle
abbrev pub port_fields : FirType → ℕ → PortMode → Place → List Field
port_fields element depth m place =
    plain_field place addr_name (uint_at place (address_bits depth)) ∷ plain_field place en_name (uint_at place 1) ∷ plain_field place clk_name (clock_at place)
    ∷ fields_of_mode place element m

abbrev pub part_of : ℕ → ℕ → FieldPart
part_of name class = record { name = name; flip = false; class = class }

abbrev pub flipped_part : ℕ → ℕ → FieldPart
flipped_part name class = record { name = name; flip = true; class = class }

-- The fields of a port with their numbers, behind those that each port has.
abbrev pub data_parts : PortMode → Elements → List FieldPart
data_parts mode.Reader elements = flipped_part data_name elements.element ∷ []
data_parts mode.Writer elements = part_of data_name elements.element ∷ part_of mask_name elements.mask ∷ []
data_parts mode.ReadWriter elements =
    flipped_part rdata_name elements.element ∷ part_of wmode_name 0 ∷ part_of wdata_name elements.element ∷ part_of wmask_name elements.mask ∷ []
