use Rattle.std.proofs.Common.{◌≡◌, ◌++◌, map, take}
use Rattle.std.specs.List.{flat_map}
use Rattle.fir_types.specs.Spots.{field_spots, flip_of}
use Rattle.fir_types.proofs.spots.+flips.Given as goal

abbrev pub invariant-push_field_flips-loop-field : goal.invariant-push_field_flips-loop-field
invariant-push_field_flips-loop-field l = l.flips.items ≡ l.fn.flips.items ++ map (flip_of l.flip) (flat_map field_spots (take l.field-index l.fields))
