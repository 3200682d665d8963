use Rattle.std.proofs.Common.{◌≡◌, ◌≤◌, false, take}
use Rattle.std.specs.List.{list_any}
use Rattle.fir_types.specs.declared.fir_type.FirType.{size-FirType}
use Rattle.fir_types.specs.Leaves.{leaves, field_leaves, is_asked}
use Rattle.fir_types.proofs.counting.+asked.Given as goal

abbrev pub invariant-has_asked-loop-inside : goal.invariant-has_asked-loop-inside
invariant-has_asked-loop-inside l =
    (list_any (is_asked l.asynchronous) (leaves l.typ) ≡ list_any (is_asked l.asynchronous) (leaves l.inside)) × (size-FirType l.inside ≤ size-FirType l.typ)

abbrev pub invariant-asked_in_fields-loop-field : goal.invariant-asked_in_fields-loop-field
invariant-asked_in_fields-loop-field l = list_any (λ field. list_any (is_asked l.asynchronous) (field_leaves field)) (take l.field-index l.fields) ≡ false
