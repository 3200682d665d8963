use Rattle.std.proofs.Common.{◌≤◌}
use Rattle.fir_types.specs.declared.fir_type.FirType.{size-FirType}
use Rattle.type_index.specs.Sights.{Grows}
use Rattle.type_index.proofs.noting.+note.Given as goal

abbrev pub invariant-note_type-loop-inside : goal.invariant-note_type-loop-inside
invariant-note_type-loop-inside l = size-FirType l.inside ≤ size-FirType l.typ

abbrev pub invariant-parts_noted-loop-field : goal.invariant-parts_noted-loop-field
invariant-parts_noted-loop-field l = Grows l.fn.classes l.classes
