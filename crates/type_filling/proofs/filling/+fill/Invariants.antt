use Rattle.std.proofs.Common.{◌≡◌, ◌++◌, ◌≤◌, drop}
use Rattle.fir_types.specs.declared.fir_type.FirType.{size-FirType}
use Rattle.fir_types.specs.Runs.{within}
use Rattle.type_filling.specs.Layers.{fields_taking}
use Rattle.type_filling.proofs.filling.+fill.Given as goal

abbrev pub invariant-fill_fields-loop-field : goal.invariant-fill_fields-loop-field
invariant-fill_fields-loop-field l =
    fields_taking l.fields l.widths ≡ (l.fitted ++ (fields_taking (drop l.field-index l.fields) l.rest).0, (fields_taking (drop l.field-index l.fields) l.rest).1)

abbrev pub invariant-fill-loop-inside : goal.invariant-fill-loop-inside
invariant-fill-loop-inside l = (within l.lengths.items l.inside ≡ l.typ) × (size-FirType l.inside ≤ size-FirType l.typ)
