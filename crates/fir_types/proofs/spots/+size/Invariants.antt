use Rattle.std.proofs.Common.{◌≡◌, ◌-◌, ◌^◌, min, map, sum, take}
use Rattle.fir_types.specs.Spots.{field_size}
use Rattle.fir_types.proofs.spots.+size.Given as goal

abbrev pub invariant-sizes-loop-field : goal.invariant-sizes-loop-field
invariant-sizes-loop-field l = l.total ≡ min (sum (map field_size (take l.field-index l.fields))) (2 ^ 64 - 1)
