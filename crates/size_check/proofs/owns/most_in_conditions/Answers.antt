use Rattle.std.proofs.Common.{ap}
use Rattle.size_check.specs.Reaching.{types_in}
use Rattle.size_check.specs.Weights.{weight}
use Rattle.size_check.proofs.Weighing.{greatest_more}
use Rattle.size_check.proofs.owns.most_in_conditions.Goals as goal

pub loop-arm-preserved : goal.loop-arm-preserved
loop-arm-preserved c =
    greatest_more (λ arm. (weight arm.condition (types_in c.args.known.now)).most) c.args.arms.now c.loop-arm.arm-index c.arm-item.result c.loop-arm.most c.weigh.result.most c.max-most.result
    c.loop-arm-test.true c.arm-item.is c.loop-arm.invariant (ap (λ w. w.most) c.weigh.ensures.weight) c.max-most.ensures
