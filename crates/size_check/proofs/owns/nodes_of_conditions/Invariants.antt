use Rattle.std.proofs.Common.{◌≡◌, map, sum, take}
use Rattle.size_check.specs.Weights.{nodes}
use Rattle.size_check.proofs.owns.nodes_of_conditions.Given as goal

abbrev pub invariant-loop-arm : goal.invariant-loop-arm
invariant-loop-arm l = l.count ≡ sum (map (λ arm. nodes arm.condition) (take l.arm-index l.arms))
