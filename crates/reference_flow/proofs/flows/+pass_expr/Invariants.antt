use Rattle.std.proofs.Common.{◌≡◌, take}
use Rattle.std.specs.List.{flat_map}
use Rattle.std.specs.declared.ops.ControlFlow.TheVariants.{Continue}
use Rattle.reference_flow.specs.Counting.{passed, suffix_flows}
use Rattle.reference_flow.specs.Flows.{components_of, expr_flows}
use Rattle.reference_flow.proofs.flows.+pass_expr.Given as goal

abbrev pub invariant-loop-suffix : goal.invariant-loop-suffix
invariant-loop-suffix l =
    passed (flat_map (λ s. suffix_flows s (components_of l.modules l.holder)) (take l.suffix-index l.suffixes)) l.initial.left ≡ Continue l.left

abbrev pub invariant-loop-operand : goal.invariant-loop-operand
invariant-loop-operand l =
    passed (flat_map (λ e. expr_flows e (components_of l.modules l.holder)) (take l.operand-index l.operand-items)) l.initial.left ≡ Continue l.left
