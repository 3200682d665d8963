use Rattle.std.proofs.Common.{take, map}
use Rattle.type_check.specs.Statements.{in_turn, stmt_walk, arm_walk}
use Rattle.type_check.specs.Walks.{Walks}
use Rattle.type_check.proofs.walk.+walk.Given as goal

abbrev pub invariant-walk_statements-loop-statement : goal.invariant-walk_statements-loop-statement
invariant-walk_statements-loop-statement l = Walks (in_turn (map (stmt_walk l.fn.walk.known.modules) (take l.statement-index l.statements))) l.fn.walk l.walk

abbrev pub invariant-walk_arms-loop-arm : goal.invariant-walk_arms-loop-arm
invariant-walk_arms-loop-arm l = Walks (in_turn (map (arm_walk l.fn.walk.known.modules) (take l.arm-index l.arms))) l.fn.walk l.walk
