use Rattle.std.proofs.Common.{◌≡◌, ◌≤◌, false, take}
use Rattle.std.specs.List.{list_any}
use Rattle.fir_types.specs.declared.fir_type.FirType.{size-FirType}
use Rattle.fir_types.specs.Passivity.{has_flip, field_has_flip}
use Rattle.fir_types.proofs.passivity.+flip.Given as goal

abbrev pub invariant-flip_in-loop-inside : goal.invariant-flip_in-loop-inside
invariant-flip_in-loop-inside l = (has_flip l.typ ≡ has_flip l.inside) × (size-FirType l.inside ≤ size-FirType l.typ)

abbrev pub invariant-flip_in_fields-loop-field : goal.invariant-flip_in_fields-loop-field
invariant-flip_in_fields-loop-field l = list_any field_has_flip (take l.field-index l.fields) ≡ false
