-- The places of a filled type have the widths that fill it, and an AsyncReset its own.
use Rattle.std.proofs.Common.{◌≡◌, List, length, arith}
use Rattle.fir_types.specs.declared.fir_type.FirType.{FirType}
use Rattle.prim_ops.specs.declared.widths.Width.{Width}
use Rattle.width_rules.specs.Places.{size, node_spots}
use Rattle.type_filling.specs.Filling.{filled}
use Rattle.part_fits.specs.Widths.{filled_widths}
use Rattle.part_fits.proofs.Filled.{fills}
use Rattle.width_fit.specs.Written.{place_widths}

pub places_filled : (typ : FirType) (ws : List Width) → length ws ≡ size typ → place_widths (filled typ ws) ≡ filled_widths (node_spots typ) ws
places_filled typ ws e = (fills typ).given_is ws (omega (arith, e))
