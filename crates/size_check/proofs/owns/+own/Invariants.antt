use Rattle.std.proofs.Common.{◌≡◌, map, take, drop}
use Rattle.size_check.specs.Caps.{capped}
use Rattle.size_check.specs.Measures.{plus}
use Rattle.size_check.specs.Owns.{all_own, arms_own, stmt_own, arm_own}
use Rattle.size_check.specs.Reaching.{types_in}
use Rattle.size_check.proofs.owns.+own.Given as goal

abbrev pub invariant-block_own-loop-statement : goal.invariant-block_own-loop-statement
invariant-block_own-loop-statement l = l.total ≡ capped (all_own (map (stmt_own l.names (types_in l.known)) (take l.statement-index l.statements)) l.around)

abbrev pub invariant-arms_own-loop-arm : goal.invariant-arms_own-loop-arm
invariant-arms_own-loop-arm l = record {
  whole : capped (arms_own (map (arm_own l.names (types_in l.known)) l.arms) l.fn.around)
      ≡ capped (plus l.total (arms_own (map (arm_own l.names (types_in l.known)) (drop l.arm-index l.arms)) l.conditions));
  small : l.total ≡ capped l.total;
}
