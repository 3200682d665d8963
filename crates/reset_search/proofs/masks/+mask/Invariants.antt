use Rattle.std.proofs.Common.{◌≡◌, ◌-◌, ◌^◌, min, map, sum, take}
use Rattle.reset_search.specs.Layers.{field_mask_size}
use Rattle.reset_search.proofs.masks.+mask.Given as goal

abbrev pub invariant-mask_sizes-loop-field : goal.invariant-mask_sizes-loop-field
invariant-mask_sizes-loop-field l = l.total ≡ min (sum (map field_mask_size (take l.field-index l.fields))) (2 ^ 64 - 1)
