use Rattle.std.proofs.Common.{take}
use Rattle.place_text.specs.First.{Best}
use Rattle.place_text.proofs.order.earliest.Given as goal

abbrev pub invariant-loop-fault : goal.invariant-loop-fault
invariant-loop-fault g l = Best g.F.Fault.place g.F.Fault.rank (take l.fault-index l.faults) l.best
