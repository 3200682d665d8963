-- The widths that stand in the text of a type (FIRRTL specification 3.0, "Width Inference").
use Rattle.std.specs.Prelude.{ℕ, List, map, Option}
use Rattle.fir_types.specs.declared.fir_type.FirType.{FirType}
use Rattle.width_rules.specs.Places.{spots}

-- the widths that the text of a type gives to its places
abbrev pub place_widths : FirType → List (Option ℕ)
place_widths typ = map (λ spot. spot.width) (spots typ)
