use Rattle.std.proofs.Common.{take, map}
use Rattle.reset_search.specs.Feeds.{in_turn, stmt_walk, arm_walk}
use Rattle.reset_resolution.specs.Walked.{listed, Walks}
use Rattle.reset_resolution.proofs.walk.+walk.Given as goal

abbrev pub invariant-walk_statements-loop-statement : goal.invariant-walk_statements-loop-statement
invariant-walk_statements-loop-statement l = Walks (in_turn (map (stmt_walk (listed l.context.instances.now.entries)) (take l.statement-index l.statements))) l.fn.found l.found

abbrev pub invariant-walk_arms-loop-arm : goal.invariant-walk_arms-loop-arm
invariant-walk_arms-loop-arm l = Walks (in_turn (map (arm_walk (listed l.context.instances.now.entries)) (take l.arm-index l.arms))) l.fn.found l.found
