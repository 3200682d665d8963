use Rattle.std.proofs.Common.{◌≡◌, ◌++◌, flat_map, take}
use Rattle.trace_print.specs.Components.{stmt_declared, arm_declared}
use Rattle.trace_print.proofs.declarations.+walk.Given as goal

abbrev pub invariant-push_statement-loop-arm : goal.invariant-push_statement-loop-arm
invariant-push_statement-loop-arm l = l.all.items ≡ l.fn.all.items ++ flat_map (λ arm. arm_declared arm l.holder l.reached) (take l.arm-index l.arm-items)

abbrev pub invariant-push_statements-loop-statement : goal.invariant-push_statements-loop-statement
invariant-push_statements-loop-statement l = l.all.items ≡ l.fn.all.items ++ flat_map (λ statement. stmt_declared statement l.holder l.reached) (take l.statement-index l.statements)
