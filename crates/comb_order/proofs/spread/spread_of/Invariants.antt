use Rattle.comb_order.specs.Spreading.{IsToldUpTo}
use Rattle.comb_order.proofs.spread.spread_of.Given as goal

abbrev pub invariant-loop-number : goal.invariant-loop-number
invariant-loop-number l = IsToldUpTo l.net l.number l.spread
