-- The widths of places (FIRRTL specification 3.0, "Width Inference").
use Rattle.std.specs.Prelude.{ℕ, Bool, true, false, List, [], ◌∷◌, Option, Some, None}
use Rattle.prim_ops.specs.declared.widths.Width.{Width}
use Rattle.prim_ops.specs.declared.widths.Width.TheVariants.{Bits, Over}
use Rattle.width_rules.specs.declared.slot.Slot.{Slot}
use Rattle.type_filling.specs.Filling.{number}
use Rattle.width_rules.specs.Formulas.{width_under, wider}
use Rattle.width_rules.specs.Places.{Spot}
use Rattle.width_rules.specs.Sources.{formula_of}

-- the width of a component's place, by those of the variables
abbrev pub slot_width : List Width → Slot → Width
slot_width widths s = width_under (formula_of s) widths

-- more than the limit of 128 bits
abbrev pub is_over : Width → Bool
is_over (Bits n) = false
is_over Over = true

-- the width of a place of a choice
abbrev pub wider_of : Width × Width → Width
wider_of both = wider both.0 both.1

-- The widths of the places of a filled type, of which a node's are these: those that fill it, but for an AsyncReset, which keeps its own.
abbrev pub own_or : Option ℕ → Option ℕ → Option ℕ
own_or (Some width) other = Some width
own_or None other = other

abbrev pub filled_widths : List Spot → List Width → List (Option ℕ)
filled_widths [] widths = []
filled_widths (spot ∷ found) [] = []
filled_widths (spot ∷ found) (width ∷ widths) = own_or spot.width (number width) ∷ filled_widths found widths
