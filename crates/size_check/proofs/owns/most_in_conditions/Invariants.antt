use Rattle.std.proofs.Common.{◌≡◌, map, take}
use Rattle.size_check.specs.Caps.{cap}
use Rattle.size_check.specs.Measures.{greatest}
use Rattle.size_check.specs.Reaching.{types_in}
use Rattle.size_check.specs.Weights.{weight}
use Rattle.size_check.proofs.owns.most_in_conditions.Given as goal

abbrev pub invariant-loop-arm : goal.invariant-loop-arm
invariant-loop-arm l = l.most ≡ cap (greatest (map (λ arm. (weight arm.condition (types_in l.known)).most) (take l.arm-index l.arms)))
