use Rattle.std.proofs.Common.{◌≡◌, ◌≤◌, take, map}
use Rattle.fir_types.specs.declared.fir_type.FirType.{size-FirType}
use Rattle.fir_types.specs.Runs.{within}
use Rattle.type_index.specs.Masks.{masked_field}
use Rattle.type_index.specs.Parts.{AreParts}
use Rattle.type_index.specs.Sights.{table_of}
use Rattle.type_index.proofs.numbering.+number.Given as goal

abbrev pub invariant-number_type-loop-inside : goal.invariant-number_type-loop-inside
invariant-number_type-loop-inside l = (within l.lengths.items l.inside ≡ l.typ) × (size-FirType l.inside ≤ size-FirType l.typ)

abbrev pub invariant-parts_of-loop-field : goal.invariant-parts_of-loop-field
invariant-parts_of-loop-field l = AreParts (table_of l.classes) (map (masked_field l.mask) (take l.field-index l.fields)) l.parts.items
