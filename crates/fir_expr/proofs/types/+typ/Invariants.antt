use Rattle.std.proofs.Common.{◌+◌, ◌-◌, ◌*◌, length}
use Rattle.fir_expr.proofs.TypeFields.{FieldsSoFar}
use Rattle.fir_expr.proofs.types.+typ.Given as goal

abbrev pub decreases-typ : goal.decreases-typ
decreases-typ l = 8 * (128 - l.brackets) + 5

abbrev pub decreases-base_type : goal.decreases-base_type
decreases-base_type l = 8 * (128 - l.brackets) + 4

abbrev pub decreases-bundle : goal.decreases-bundle
decreases-bundle l = 8 * (128 - l.brackets) + 3

abbrev pub decreases-fields : goal.decreases-fields
decreases-fields l = 8 * (128 - l.brackets) + 8

abbrev pub decreases-field : goal.decreases-field
decreases-field l = 8 * (128 - l.brackets) + 7

abbrev pub decreases-named_type : goal.decreases-named_type
decreases-named_type l = 8 * (128 - l.brackets) + 6

abbrev pub invariant-fields-loop-fields : goal.invariant-fields-loop-fields
invariant-fields-loop-fields l = FieldsSoFar l.fn.from.major l.fn.from.text.now l.fn.from.laid.now l.fn.first l.fn.names l.fields l.at l.names

abbrev pub decreases-fields-loop-fields : goal.decreases-fields-loop-fields
decreases-fields-loop-fields l = length l.from.laid.now - l.at
