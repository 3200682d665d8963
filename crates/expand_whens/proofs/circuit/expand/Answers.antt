use Rattle.std.proofs.Common.{arith}
use Rattle.std.proofs.lemmas.Grind.{common_steps}
use Rattle.expand_whens.specs.Expanding.{IsExpandedModule}
use Rattle.expand_whens.proofs.Modules.{place_more}
use Rattle.expand_whens.proofs.circuit.expand.Goals as goal

pub loop-one-preserved : goal.loop-one-preserved
loop-one-preserved c = record {
  counted = grind (arith, common_steps, c.in_ok-push.ensures.ok, c.loop-one.invariant.counted);
  each = place_more IsExpandedModule c.args.ground.now.modules c.loop-one.modules c.push.new.self c.loop-one.one-index c.one-item.result _ (rw c.as_slice-one-items.ensures at c.loop-one-test.true) (rw c.as_slice-one-items.ensures at c.one-item.is) c.loop-one.invariant.counted c.in_ok-push.ensures.ok c.in_ok-driven.ensures c.loop-one.invariant.each;
}
