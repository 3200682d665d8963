use Rattle.std.proofs.Common.{◌≡◌, map, take}
use Rattle.width_fit.specs.Surveys.{kept_width}
use Rattle.width_fit.proofs.widths.lone_widths.Given as goal

abbrev pub invariant-loop-operand : goal.invariant-loop-operand
invariant-loop-operand l = l.widths.items ≡ map kept_width (take l.operand-index l.operands)
