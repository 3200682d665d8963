use Rattle.std.proofs.Common.{◌≡◌, ◌≤◌, map, drop}
use Rattle.fir_types.specs.declared.fir_type.FirType.{size-FirType}
use Rattle.reset_search.specs.Grounds.{are_alike, all_take}
use Rattle.reset_resolution.specs.Layers.{field_alike}
use Rattle.reset_resolution.proofs.grounds.+alike.Given as goal

abbrev pub invariant-are_alike-loop-one : goal.invariant-are_alike-loop-one
invariant-are_alike-loop-one l = (are_alike l.left l.right ≡ are_alike l.one l.other) × (size-FirType l.one ≤ size-FirType l.left)

abbrev pub invariant-all_alike-loop-field : goal.invariant-all_alike-loop-field
invariant-all_alike-loop-field l = all_take (map field_alike l.fields) l.others ≡ all_take (map field_alike (drop l.field-index l.fields)) l.rest
