use Rattle.std.proofs.Common.{take, map}
use Rattle.width_fit.specs.Judging.{in_turn}
use Rattle.width_fit.specs.Walks.{Walks, solved, stmt_among, arm_among}
use Rattle.width_fit.specs.Held.{HoldsFits}
use Rattle.width_fit.proofs.walk.+walk.Given as goal

abbrev pub invariant-walk_statements-loop-statement : goal.invariant-walk_statements-loop-statement
invariant-walk_statements-loop-statement l = record {
  walks : Walks (in_turn (map (stmt_among (solved l.given) l.given.instances.components.entries) (take l.statement-index l.statements))) l.fn.walk l.walk;
  fits : HoldsFits l.given l.walk;
}

abbrev pub invariant-walk_arms-loop-arm : goal.invariant-walk_arms-loop-arm
invariant-walk_arms-loop-arm l = record {
  walks : Walks (in_turn (map (arm_among (solved l.given) l.given.instances.components.entries) (take l.arm-index l.arms))) l.fn.walk l.walk;
  fits : HoldsFits l.given l.walk;
}
