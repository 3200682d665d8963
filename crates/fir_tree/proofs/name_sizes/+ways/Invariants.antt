use Rattle.std.proofs.Common.{◌≡◌, ◌≤◌, ◌+◌, ◌*◌, map, sum, take}
use Rattle.fir_types.specs.declared.fir_type.FirType.{size-FirType}
use Rattle.fir_types.specs.Leaves.{count, field_count}
use Rattle.fir_tree.specs.Caps.{cap}
use Rattle.fir_tree.specs.Texts.{way_bytes, field_bytes}
use Rattle.fir_tree.proofs.name_sizes.+ways.Given as goal

abbrev pub invariant-ways_of-loop-inside : goal.invariant-ways_of-loop-inside
invariant-ways_of-loop-inside l = record {
  leaves : cap (count l.typ) ≡ cap (l.run.elements * count l.inside);
  bytes : cap (way_bytes l.names l.typ) ≡ cap (l.run.elements * way_bytes l.names l.inside + l.run.indices * count l.inside);
  inner : size-FirType l.inside ≤ size-FirType l.typ;
}

abbrev pub invariant-ways_of_fields-loop-field : goal.invariant-ways_of_fields-loop-field
invariant-ways_of_fields-loop-field l = record {
  leaves : l.all.leaves ≡ cap (sum (map field_count (take l.field-index l.fields)));
  bytes : l.all.bytes ≡ cap (sum (map (field_bytes l.names) (take l.field-index l.fields)));
}
