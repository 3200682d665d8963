use Rattle.std.proofs.Common.{◌≡◌, ◌++◌, map, take}
use Rattle.width_rules.specs.Sources.{measured, kind_of, lone}
use Rattle.width_rules.proofs.measuring.+measure.Given as goal

abbrev pub invariant-measure_operands-loop-operand : goal.invariant-measure_operands-loop-operand
invariant-measure_operands-loop-operand l = record {
  kinds : l.kinds ≡ l.fn.kinds ++ map (λ e. kind_of (measured e l.scope.known.now.entries)) (take l.operand-index l.operands);
  formulas : l.formulas ≡ l.fn.formulas ++ map (λ e. lone (measured e l.scope.known.now.entries).formulas) (take l.operand-index l.operands);
}
