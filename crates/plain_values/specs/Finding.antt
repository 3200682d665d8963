-- What a reference names, as it is held.
use Rattle.std.specs.Prelude.{◌≡◌, map, Option, Some, None, option_map}
use Rattle.fir_meaning.specs.Values.{Spot}
use Rattle.drive_check.specs.Keys.{step_of}
use Rattle.plain_values.specs.declared.spot.HeldSpot.{HeldSpot}

abbrev pub spot_of_held : HeldSpot → Spot
spot_of_held spot = record { component = spot.component; typ = spot.typ; way = option_map (map step_of) spot.way }
