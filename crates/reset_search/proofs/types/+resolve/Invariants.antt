use Rattle.std.proofs.Common.{◌≡◌, ◌≤◌, ◌+◌, ◌++◌, map, drop}
use Rattle.fir_types.specs.declared.fir_type.FirType.{size-FirType}
use Rattle.fir_types.specs.Runs.{within}
use Rattle.reset_search.specs.Resolved.{all_from, in_all}
use Rattle.reset_search.specs.Rows.{marked}
use Rattle.reset_search.specs.Layers.{field_becomes}
use Rattle.reset_search.proofs.types.+resolve.Given as goal

abbrev pub invariant-resolve_type-loop-inside : goal.invariant-resolve_type-loop-inside
invariant-resolve_type-loop-inside l = (within l.lengths.items l.inside ≡ l.typ) × (size-FirType l.inside ≤ size-FirType l.typ)

abbrev pub invariant-resolve_fields-loop-field : goal.invariant-resolve_fields-loop-field
invariant-resolve_fields-loop-field l = record {
  fields : all_from (map (field_becomes (marked l.marks.keys.keys)) l.fields) l.fn.next ≡ l.made ++ all_from (map (field_becomes (marked l.marks.keys.keys)) (drop l.field-index l.fields)) l.next;
  next : l.fn.next + in_all (map (field_becomes (marked l.marks.keys.keys)) l.fields) ≡ l.next + in_all (map (field_becomes (marked l.marks.keys.keys)) (drop l.field-index l.fields));
}
