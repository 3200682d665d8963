use Rattle.std.proofs.Common.{◌≤◌, drop}
use Rattle.fir_types.specs.declared.fir_type.FirType.{size-FirType}
use Rattle.type_filling.proofs.Behind.{Leads, LeadsAll}
use Rattle.type_filling.proofs.sharing.+behind.Given as goal

abbrev pub invariant-behind_fields-loop-field : goal.invariant-behind_fields-loop-field
invariant-behind_fields-loop-field l = LeadsAll l.fields l.fitted l.widths (drop l.field-index l.fields) l.left l.rest

abbrev pub invariant-behind_type-loop-inside : goal.invariant-behind_type-loop-inside
invariant-behind_type-loop-inside l = Leads l.typ l.fitted l.inside l.other l.widths × (size-FirType l.inside ≤ size-FirType l.typ)
