-- The widths of the places of a type (FIRRTL specification 3.0, "Width Inference"): the places are those of `spots`.
use Rattle.std.specs.Prelude.{ℕ, ◌+◌, min, ◌==◌, if◌then◌else◌, List, [], ◌∷◌, take, drop, flat_map, Option, Some, None}
use Rattle.fir_types.specs.declared.fir_type.FirType.{FirType, fold-FirType}
use Rattle.fir_types.specs.declared.fir_type.Shape.{Shape}
use Rattle.fir_types.specs.declared.fir_type.Shape.TheOpen.{Shape-F}
use Rattle.fir_types.specs.declared.fir_type.Shape.TheViews.{out-Shape}
use Rattle.fir_types.specs.declared.fir_type.Field.{Field}
pub use Rattle.fir_types.specs.Spots.{Spot, one_spot, turned, of_shape, of_field, spots, size}
use Rattle.width_rules.specs.declared.slot.Slot.{Slot}
use Rattle.width_rules.specs.declared.slot.Slot.TheVariants.{Fixed, Var}

-- A number of bits as it counts. A width past 128 bits is over the limit, whatever it is, so each counts as 129.
abbrev pub capped : ℕ → ℕ
capped width = min width 129

-- The widths of a declared type's places, where its variables are numbered from n on: a place without a width has a variable.
abbrev pub slot_of : ℕ → Option ℕ → Slot
slot_of n (Some width) = Fixed (capped width)
slot_of n None = Var n

abbrev pub is_open : Option ℕ → ℕ
is_open (Some width) = 0
is_open None = 1

abbrev pub slots_from : ℕ → List Spot → List Slot
slots_from n [] = []
slots_from n (spot ∷ rest) = slot_of n spot.width ∷ slots_from (n + is_open spot.width) rest

-- how many variables these places have
abbrev pub open_spots : List Spot → ℕ
open_spots [] = 0
open_spots (spot ∷ rest) = is_open spot.width + open_spots rest

-- A node has a variable for each place, whatever the text gives, but for an AsyncReset: that has width 1 and no variable.
abbrev pub node_shape : Shape-F (List Spot) (List Spot) (List Spot) → List Spot
node_shape (Shape-F.Unsigned width) = one_spot None
node_shape (Shape-F.Signed width) = one_spot None
node_shape Shape-F.Reset = one_spot None
node_shape Shape-F.AsyncReset = one_spot (Some 1)
node_shape Shape-F.Clock = []
node_shape (Shape-F.Bundle fields) = flat_map (λ spots. spots) fields
node_shape (Shape-F.Vector element length) = element

abbrev pub node_spots : FirType → List Spot
node_spots = fold-FirType (List Spot) (List Spot) (List Spot) node_shape of_field (λ t. t.shape)

abbrev pub node_slots : ℕ → FirType → List Slot
node_slots n typ = slots_from n (node_spots typ)

-- how many variables a node of this type has
abbrev pub node_size : FirType → ℕ
node_size typ = open_spots (node_spots typ)

-- Of the widths of a bundle's places those of the first field of a name; and what is left behind all fields where there is no such field.
abbrev pub field_slots : ℕ → List Field → List Slot → List Slot
field_slots name [] slots = slots
field_slots name (f ∷ fields) slots = if f.name.id == name then take (size f.typ) slots else field_slots name fields (drop (size f.typ) slots)

abbrev pub slots_of_layer : ℕ → Shape-F Shape Field FirType → List Slot → List Slot
slots_of_layer name (Shape-F.Bundle fields) slots = field_slots name fields slots
slots_of_layer name _ slots = slots

abbrev pub slots_of_field : ℕ → FirType → List Slot → List Slot
slots_of_field name typ slots = slots_of_layer name (out-Shape typ.shape) slots
