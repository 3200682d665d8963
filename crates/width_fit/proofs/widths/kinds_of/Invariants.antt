use Rattle.std.proofs.Common.{◌≡◌, map, take}
use Rattle.width_fit.specs.Surveys.{kept_kind}
use Rattle.width_fit.proofs.widths.kinds_of.Given as goal

abbrev pub invariant-loop-operand : goal.invariant-loop-operand
invariant-loop-operand l = l.kinds.items ≡ map kept_kind (take l.operand-index l.operands)
