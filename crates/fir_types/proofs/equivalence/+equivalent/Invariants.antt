use Rattle.std.proofs.Common.{ℕ, ◌<◌, ◌≤◌, length, get_or}
use Rattle.fir_types.specs.declared.fir_type.FirType.{size-FirType}
use Rattle.fir_types.specs.declared.fir_type.Field.{Field}
use Rattle.fir_types.specs.Equivalence.{AreSame}
use Rattle.fir_types.proofs.Runs.{Same}
use Rattle.fir_types.proofs.equivalence.+equivalent.Given as goal

abbrev pub invariant-equivalent-loop-one : goal.invariant-equivalent-loop-one
invariant-equivalent-loop-one l = Same l.left l.right l.one l.other × (size-FirType l.one ≤ size-FirType l.left)

abbrev pub invariant-same_fields-loop-field : goal.invariant-same_fields-loop-field
invariant-same_fields-loop-field l = (k : ℕ) (d : Field) → k < length l.yielded → AreSame (get_or l.fields k d) (get_or l.others k d)
