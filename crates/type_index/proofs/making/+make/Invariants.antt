use Rattle.std.proofs.Common.{◌≡◌, ◌≤◌, take}
use Rattle.fir_types.specs.declared.fir_type.FirType.{size-FirType}
use Rattle.fir_types.specs.Runs.{within}
use Rattle.type_index.specs.Gathering.{Gathers}
use Rattle.type_index.proofs.making.+make.Given as goal

abbrev pub invariant-make-loop-inside : goal.invariant-make-loop-inside
invariant-make-loop-inside l = (within l.lengths.items l.inside ≡ l.typ) × (size-FirType l.inside ≤ size-FirType l.typ)

abbrev pub invariant-make_fields-loop-field : goal.invariant-make_fields-loop-field
invariant-make_fields-loop-field l = Gathers l.names (take l.field-index l.fields) l.gathered
