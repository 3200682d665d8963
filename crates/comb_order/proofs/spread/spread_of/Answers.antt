use Rattle.std.proofs.Common.{arith}
use Rattle.comb_order.proofs.Making.{told_end}
use Rattle.comb_order.proofs.spread.spread_of.Goals as goal

pub returns-clause-spread : goal.returns-clause-spread
returns-clause-spread c = told_end c.args.net.now c.loop-number.spread c.loop-number.number (omega (arith, c.loop-number-test.false, c.len-number-end.ensures)) c.loop-number.invariant
