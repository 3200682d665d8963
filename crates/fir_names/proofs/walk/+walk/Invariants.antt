use Rattle.std.proofs.Common.{take, map}
use Rattle.fir_names.specs.Parts.{in_turn, stmt_part, arm_part}
use Rattle.fir_names.specs.Walks.{Walks}
use Rattle.fir_names.proofs.walk.+walk.Given as goal

abbrev pub invariant-walk_statements-loop-statement : goal.invariant-walk_statements-loop-statement
invariant-walk_statements-loop-statement l = Walks (in_turn (map stmt_part (take l.statement-index l.statements))) l.fn.walk l.walk

abbrev pub invariant-walk_arms-loop-arm : goal.invariant-walk_arms-loop-arm
invariant-walk_arms-loop-arm l = Walks (in_turn (map arm_part (take l.arm-index l.arms))) l.fn.walk l.walk
