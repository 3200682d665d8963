-- The widths of places by the fields of bundles, and those of the ports of memories.
use Rattle.std.specs.Prelude.{◌≡◌, ℕ, ◌++◌, List, [], ◌∷◌, map, length}
use Rattle.place_text.specs.declared.place.Place.{Place}
use Rattle.fir_types.specs.declared.fir_type.FirType.{FirType}
use Rattle.fir_types.specs.declared.fir_type.Field.{Field, fold-Field}
use Rattle.fir_types.specs.declared.memory.MemLine.{MemLine}
use Rattle.fir_types.specs.declared.memory.MemLine.TheVariants as line
use Rattle.fir_types.specs.declared.memory.PortMode.{PortMode}
use Rattle.fir_types.specs.declared.memory.PortMode.TheVariants as mode
use Rattle.fir_types.specs.Bundles.{mask_of, mask_of_field, address_bits}
pub use Rattle.fir_types.specs.Spots.{field_spots, field_size, flip_of, flips_under}
use Rattle.width_rules.specs.declared.slot.Slot.{Slot}
use Rattle.width_rules.specs.declared.slot.Slot.TheVariants as slot
use Rattle.width_rules.specs.Places.{Spot, spots, of_field, node_shape, slots_from, open_spots}
use Rattle.width_rules.specs.Circuits.{places_for}

-- the places of a field of a node, and their variables
abbrev pub node_field_spots : Field → List Spot
node_field_spots = fold-Field (List Spot) (List Spot) (List Spot) node_shape of_field (λ t. t.shape)

-- the width of a mask's place
abbrev pub one_bit : Spot → Slot
one_bit spot = slot.Fixed 1

abbrev pub mask_widths : FirType → List Slot
mask_widths typ = map one_bit (spots (mask_of typ))

abbrev pub mask_field_widths : Field → List Slot
mask_field_widths field = map one_bit (field_spots (mask_of_field field))

-- widths and places of variables are added for these spots
pub record Adds (place : Place) (found : List Spot) (before after : List Slot) (from to : List Place) : Type 0 where
  pub slots : after ≡ before ++ slots_from (length from) found
  pub places : to ≡ from ++ places_for place (open_spots found)

-- the widths of a memory's ports, by the type of its elements, its depth and the elements' widths

abbrev pub mode_widths : FirType → List Slot → PortMode → List Slot
mode_widths typ element mode.Reader = element
mode_widths typ element mode.Writer = element ++ mask_widths typ
mode_widths typ element mode.ReadWriter = element ++ (slot.Fixed 1 ∷ (element ++ mask_widths typ))

abbrev pub line_widths : FirType → ℕ → List Slot → MemLine → List Slot
line_widths typ depth element (line.MemPort at m name) = slot.Fixed (address_bits depth) ∷ (slot.Fixed 1 ∷ mode_widths typ element m)
line_widths typ depth element _ = []
