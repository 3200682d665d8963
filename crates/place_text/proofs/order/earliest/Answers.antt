use Rattle.std.proofs.Common.{subst}
use Rattle.place_text.specs.First.{Earlier}
use Rattle.place_text.proofs.Ordering.{best_more}
use Rattle.place_text.proofs.order.earliest.Goals as goal

pub loop-fault-preserved : goal.loop-fault-preserved
loop-fault-preserved g c =
    best_more g.F.Fault.place g.F.Fault.rank c.args.faults.now c.loop-fault.fault-index c.fault-item.result c.loop-fault.best c.earlier.result c.loop-fault-test.true c.loop-fault.invariant
    (subst (λ item. Earlier g.F.Fault.place g.F.Fault.rank c.loop-fault.best item c.earlier.result) c.fault-item.is c.earlier.ensures)
