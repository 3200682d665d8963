use Rattle.std.proofs.Common.{take, nat_eq, None}
use Rattle.std.specs.List.{flat_map}
use Rattle.std.specs.Map.{lookup}
use Rattle.reference_flow.specs.Flows.{stmt_declared}
use Rattle.reference_flow.specs.Declarations.{arm_declared}
use Rattle.reference_flow.specs.Reached.{MayMean}
use Rattle.reference_flow.proofs.declaration.+declared.Given as goal

abbrev pub invariant-declared_among-loop-statement : goal.invariant-declared_among-loop-statement
invariant-declared_among-loop-statement l = MayMean None (lookup (nat_eq l.id) (flat_map (stmt_declared l.modules) (take l.statement-index l.statements)))

abbrev pub invariant-declared_in_arms-loop-arm : goal.invariant-declared_in_arms-loop-arm
invariant-declared_in_arms-loop-arm l = MayMean None (lookup (nat_eq l.id) (flat_map (arm_declared l.modules) (take l.arm-index l.arms)))
