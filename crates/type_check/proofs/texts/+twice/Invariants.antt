use Rattle.std.proofs.Common.{take, ◌≡◌, ◌≤◌, ◌++◌}
use Rattle.std.specs.List.{flat_map}
use Rattle.fir_types.specs.declared.fir_type.FirType.{size-FirType}
use Rattle.type_check.specs.Texts.{twice_in}
use Rattle.type_check.proofs.texts.+twice.Given as goal

abbrev pub invariant-push_twice-loop-inside : goal.invariant-push_twice-loop-inside
invariant-push_twice-loop-inside l =
    (l.faults.items ≡ l.fn.faults.items) × (twice_in l.typ ≡ twice_in l.inside) × (size-FirType l.inside ≤ size-FirType l.typ)

abbrev pub invariant-push_twice_in-loop-field : goal.invariant-push_twice_in-loop-field
invariant-push_twice_in-loop-field l = l.faults.items ≡ l.fn.faults.items ++ flat_map (λ f. twice_in f.typ) (take l.field-index l.fields)
