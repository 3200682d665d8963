use Rattle.std.proofs.Common.{◌≡◌, take}
use Rattle.std.specs.List.{flat_map}
use Rattle.std.specs.declared.ops.ControlFlow.TheVariants.{Continue}
use Rattle.reference_flow.specs.Counting.{passed}
use Rattle.reference_flow.specs.Flows.{components_of, stmt_flows, arm_flows}
use Rattle.reference_flow.proofs.flows.+statements.Given as goal

abbrev pub invariant-pass_statement-loop-arm : goal.invariant-pass_statement-loop-arm
invariant-pass_statement-loop-arm l =
    passed (flat_map (λ a. arm_flows a (components_of l.modules l.holder)) (take l.arm-index l.arm-items)) l.initial.left ≡ Continue l.left

abbrev pub invariant-pass_statements-loop-statement : goal.invariant-pass_statements-loop-statement
invariant-pass_statements-loop-statement l =
    passed (flat_map (λ s. stmt_flows s (components_of l.modules l.holder)) (take l.statement-index l.statements)) l.initial.left ≡ Continue l.left
