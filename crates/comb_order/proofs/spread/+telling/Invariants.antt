use Rattle.std.proofs.Common.{take, map}
use Rattle.ground_net.specs.Grounds.{mentions, joined}
use Rattle.comb_order.specs.Spreading.{Tells}
use Rattle.comb_order.proofs.spread.+telling.Given as goal

abbrev pub invariant-push_all-loop-ground : goal.invariant-push_all-loop-ground
invariant-push_all-loop-ground l = Tells l.leaves (joined (map mentions (take l.ground-index l.grounds))) l.fn.spread l.fn.row l.spread l.row
