use Rattle.std.proofs.Common.{◌+◌, ◌-◌, ◌*◌}
use Rattle.fir_expr.proofs.Underway.{IsUnderway}
use Rattle.fir_expr.proofs.expressions.+expr.Given as goal

-- Each bracket that opens leaves less; within one, operands read expressions, and these references, and these suffixes.

abbrev pub decreases-operands : goal.decreases-operands
decreases-operands l = 1000000000000 * (128 - l.brackets) + 1000000 + l.count

abbrev pub decreases-expr : goal.decreases-expr
decreases-expr l = 1000000000000 * (128 - l.brackets) + 1000

abbrev pub decreases-mux : goal.decreases-mux
decreases-mux l = 1000000000000 * (128 - l.brackets) + 900

abbrev pub decreases-operation : goal.decreases-operation
decreases-operation l = 1000000000000 * (128 - l.brackets) + 900

abbrev pub decreases-reference : goal.decreases-reference
decreases-reference l = 1000000000000 * (128 - l.brackets) + 900

abbrev pub decreases-suffixes : goal.decreases-suffixes
decreases-suffixes l = 1000000000000 * (128 - l.brackets) + 300

-- what is read from here on was read from the start
abbrev pub invariant-suffixes-loop-next : goal.invariant-suffixes-loop-next
invariant-suffixes-loop-next l = IsUnderway l.from.major l.from.text.now l.from.laid.now l.initial.here l.initial.names l.initial.read l.here l.names l.read l.brackets l.passed

abbrev pub decreases-suffixes-loop-next : goal.decreases-suffixes-loop-next
decreases-suffixes-loop-next l = 128 - l.passed

abbrev pub decreases-index : goal.decreases-index
decreases-index l = 1000000000000 * (128 - l.brackets) + 200

abbrev pub decreases-dynamic : goal.decreases-dynamic
decreases-dynamic l = 1000000000000 * (128 - l.brackets) + 100

abbrev pub decreases-suffix : goal.decreases-suffix
decreases-suffix l = 1000000000000 * (128 - l.brackets) + 250
