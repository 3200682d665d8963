use Rattle.std.proofs.Common.{◌≡◌, ◌++◌, map, take}
use Rattle.std.specs.List.{flat_map}
use Rattle.lower_aggregates.specs.Headings.{stmt_headings, arm_headings}
use Rattle.lower_aggregates.specs.Held.{held_heading}
use Rattle.lower_aggregates.proofs.declarations.+walk.Given as goal

abbrev pub invariant-push_statements-loop-statement : goal.invariant-push_statements-loop-statement
invariant-push_statements-loop-statement l = map held_heading l.all.items ≡ map held_heading l.fn.all.items ++ flat_map stmt_headings (take l.statement-index l.statements)

abbrev pub invariant-push_arms-loop-arm : goal.invariant-push_arms-loop-arm
invariant-push_arms-loop-arm l = map held_heading l.all.items ≡ map held_heading l.fn.all.items ++ flat_map arm_headings (take l.arm-index l.arms)
