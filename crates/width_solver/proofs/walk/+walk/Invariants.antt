use Rattle.std.proofs.Common.{take, map}
use Rattle.width_rules.specs.Circuits.{in_turn}
use Rattle.width_rules.specs.Walks.{stmt_walk_among, arm_walk_among}
use Rattle.width_solver.specs.Walked.{Walks}
use Rattle.width_solver.proofs.walk.+walk.Given as goal

abbrev pub invariant-walk_statements-loop-statement : goal.invariant-walk_statements-loop-statement
invariant-walk_statements-loop-statement l = Walks (in_turn (map (stmt_walk_among l.instances.entries) (take l.statement-index l.statements))) l.fn.found l.found

abbrev pub invariant-walk_arms-loop-arm : goal.invariant-walk_arms-loop-arm
invariant-walk_arms-loop-arm l = Walks (in_turn (map (arm_walk_among l.instances.entries) (take l.arm-index l.arms))) l.fn.found l.found
