use Rattle.std.proofs.Common.{◌≡◌, ◌≤◌, ◌++◌, map, take}
use Rattle.std.specs.Prelude.{flat_map}
use Rattle.fir_types.specs.declared.fir_type.FirType.{size-FirType}
use Rattle.reset_search.specs.Grounds.{grounds}
use Rattle.reset_resolution.specs.Layers.{seen, field_grounds}
use Rattle.reset_resolution.proofs.grounds.+grounds.Given as goal

abbrev pub invariant-push_grounds-loop-inside : goal.invariant-push_grounds-loop-inside
invariant-push_grounds-loop-inside l =
    (map (seen l.flip l.held) (grounds l.typ) ≡ map (seen l.flip l.leaf) (grounds l.inside)) × (l.found.items ≡ l.fn.found.items) × (size-FirType l.inside ≤ size-FirType l.typ)

abbrev pub invariant-push_field_grounds-loop-field : goal.invariant-push_field_grounds-loop-field
invariant-push_field_grounds-loop-field l = l.found.items ≡ l.fn.found.items ++ map (seen l.flip l.leaf) (flat_map field_grounds (take l.field-index l.fields))
