use Rattle.std.proofs.Common.{◌≡◌, ◌≤◌, ◌*◌, ◌-◌, ◌^◌, min, map, sum, take}
use Rattle.fir_types.specs.declared.fir_type.FirType.{size-FirType}
use Rattle.fir_types.specs.Leaves.{count, field_count}
use Rattle.fir_types.proofs.counting.+count.Given as goal

abbrev pub invariant-leaf_count-loop-inside : goal.invariant-leaf_count-loop-inside
invariant-leaf_count-loop-inside l =
    (min (count l.typ) (2 ^ 128 - 1) ≡ min (l.factor * count l.inside) (2 ^ 128 - 1)) × (l.factor ≤ 2 ^ 128 - 1) × (size-FirType l.inside ≤ size-FirType l.typ)

abbrev pub invariant-count_fields-loop-field : goal.invariant-count_fields-loop-field
invariant-count_fields-loop-field l = l.total ≡ min (sum (map field_count (take l.field-index l.fields))) (2 ^ 128 - 1)
