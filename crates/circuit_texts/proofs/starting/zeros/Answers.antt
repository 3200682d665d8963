use Rattle.std.proofs.Common.{refl}
use Rattle.stimulus.proofs.Rowing.{zero_more}
use Rattle.circuit_texts.proofs.starting.zeros.Goals as goal

pub loop-leaf-preserved : goal.loop-leaf-preserved
loop-leaf-preserved c = rw (c.in_ok-push.ensures.ok, c.loop-leaf.invariant) (zero_more c.args.inputs.now c.loop-leaf.leaf-index c.leaf-item.result _ c.loop-leaf-test.true c.leaf-item.is refl refl refl)
