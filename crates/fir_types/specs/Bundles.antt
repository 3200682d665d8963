-- The types that a circuit names by no text: an instance's and a memory's (FIRRTL specification 3.0, "Instances" and
-- "Memories"), as bundles.
--
-- Places: what is made for a port of a memory, and has no place in the text, has the place of the port's name. A bundle of
-- all ports has line 1, column 1. A mask has the places of the type that it is made from.
use Rattle.std.specs.Prelude.{ℕ, zero, suc, ◌^◌, nat_le, true, false, not, if◌then◌else◌, List, [], ◌∷◌, map, filter_map, Option, Some, None}
use Rattle.place_text.specs.declared.place.Place.{Place}
use Rattle.fir_types.specs.declared.port.Port.{Port}
use Rattle.fir_types.specs.declared.memory.Memory.{Memory}
use Rattle.fir_types.specs.declared.memory.MemLine.{MemLine}
use Rattle.fir_types.specs.declared.memory.MemLine.TheVariants as line
use Rattle.fir_types.specs.declared.memory.PortMode.{PortMode}
use Rattle.fir_types.specs.declared.memory.PortMode.TheVariants as mode
use Rattle.fir_types.specs.declared.fir_type.FirType.{FirType, fold-FirType}
use Rattle.fir_types.specs.declared.fir_type.Shape.{Shape, fold-Shape}
use Rattle.fir_types.specs.declared.fir_type.Shape.TheOpen.{Shape-F, Field-F, FirType-F}
use Rattle.fir_types.specs.declared.fir_type.Shape.TheVariants as shape
use Rattle.fir_types.specs.declared.fir_type.Field.{Field, fold-Field}
use Rattle.fir_types.specs.Memories.{element_of, depth_of}

abbrev pub nowhere : Place
nowhere = record { line = 1; column = 1 }

-- An instance is a bundle of its module's ports in order, with the inputs flipped.
abbrev pub instance_field : Port → Field
instance_field port = record { flip = not port.output; name = port.name; typ = port.typ }

abbrev pub instance_of : List Port → FirType
instance_of ports = record { place = nowhere; shape = shape.Bundle (map instance_field ports) }

-- A mask has the shape of the data, with `UInt<1>` in place of each leaf.
abbrev pub mask_shape : Shape-F Shape Field FirType → Shape
mask_shape (Shape-F.Bundle fields) = shape.Bundle fields
mask_shape (Shape-F.Vector element n) = shape.Vector element n
mask_shape _ = shape.Unsigned (Some 1)

abbrev pub mask_field : Field-F Shape Field FirType → Field
mask_field f = record { flip = f.flip; name = f.name; typ = f.typ }

abbrev pub mask_type : FirType-F Shape Field FirType → FirType
mask_type t = record { place = t.place; shape = t.shape }

abbrev pub mask_of : FirType → FirType
mask_of = fold-FirType Shape Field FirType mask_shape mask_field mask_type

abbrev pub mask_of_shape : Shape → Shape
mask_of_shape = fold-Shape Shape Field FirType mask_shape mask_field mask_type

abbrev pub mask_of_field : Field → Field
mask_of_field = fold-Field Shape Field FirType mask_shape mask_field mask_type

-- the least number from one on, and at most so much above it, to the power of which 2 reaches the depth
unfoldable pub least_reaching : ℕ → ℕ → ℕ → ℕ
least_reaching depth from zero = from
least_reaching depth from (suc more) = if nat_le depth (2 ^ from) then from else least_reaching depth (suc from) more

-- The bits of an address: the greatest of 1 and the base-2 logarithm of the depth, rounded up. A depth is below 2 ^ 128.
unfoldable pub address_bits : ℕ → ℕ
address_bits depth = least_reaching depth 1 127

-- the numbers of the names of a port's fields, which every circuit has first
abbrev pub addr_name : ℕ
addr_name = 0

abbrev pub en_name : ℕ
en_name = 1

abbrev pub clk_name : ℕ
clk_name = 2

abbrev pub data_name : ℕ
data_name = 3

abbrev pub mask_name : ℕ
mask_name = 4

abbrev pub rdata_name : ℕ
rdata_name = 5

abbrev pub wmode_name : ℕ
wmode_name = 6

abbrev pub wdata_name : ℕ
wdata_name = 7

abbrev pub wmask_name : ℕ
wmask_name = 8

-- a field that is made for the port at this place
abbrev pub plain_field : Place → ℕ → FirType → Field
plain_field place id typ = record { flip = false; name = record { id = id; place = place }; typ = typ }

abbrev pub flipped_field : Place → ℕ → FirType → Field
flipped_field place id typ = record { flip = true; name = record { id = id; place = place }; typ = typ }

abbrev pub uint_at : Place → ℕ → FirType
uint_at place width = record { place = place; shape = shape.Unsigned (Some width) }

abbrev pub clock_at : Place → FirType
clock_at place = record { place = place; shape = shape.Clock }

-- The fields of a port, behind those that each port has.
abbrev pub fields_of_mode : Place → FirType → PortMode → List Field
fields_of_mode place element mode.Reader = flipped_field place data_name element ∷ []
fields_of_mode place element mode.Writer = plain_field place data_name element ∷ plain_field place mask_name (mask_of element) ∷ []
fields_of_mode place element mode.ReadWriter =
    flipped_field place rdata_name element ∷ plain_field place wmode_name (uint_at place 1) ∷ plain_field place wdata_name element
    ∷ plain_field place wmask_name (mask_of element) ∷ []

-- the bundle of a port
abbrev pub port_type : FirType → ℕ → PortMode → Place → FirType
port_type element depth m place = record {
  place = place;
  shape = shape.Bundle (plain_field place addr_name (uint_at place (address_bits depth)) ∷ plain_field place en_name (uint_at place 1)
      ∷ plain_field place clk_name (clock_at place) ∷ fields_of_mode place element m);
}

-- the field of a port in the bundle of its memory, where the line declares one
abbrev pub port_field : FirType → ℕ → MemLine → Option Field
port_field element depth (line.MemPort at m name) = Some (record { flip = true; name = name; typ = port_type element depth m name.place })
port_field element depth _ = None

-- A memory is a bundle of its ports in order, all flipped.
abbrev pub memory_of : Memory → FirType
memory_of memory = record { place = nowhere; shape = shape.Bundle (filter_map (port_field (element_of memory) (depth_of memory)) memory.lines) }
