use Rattle.std.proofs.Common.{◌≡◌, ◌≤◌, false, take}
use Rattle.std.specs.List.{list_any}
use Rattle.fir_types.specs.declared.fir_type.FirType.{size-FirType}
use Rattle.reset_search.specs.Sources.{holds_async, field_holds_async}
use Rattle.reset_search.proofs.sources.+holds.Given as goal

abbrev pub invariant-holds_async-loop-inside : goal.invariant-holds_async-loop-inside
invariant-holds_async-loop-inside l = (holds_async l.typ ≡ holds_async l.inside) × (size-FirType l.inside ≤ size-FirType l.typ)

abbrev pub invariant-any_holds-loop-field : goal.invariant-any_holds-loop-field
invariant-any_holds-loop-field l = list_any field_holds_async (take l.field-index l.fields) ≡ false
