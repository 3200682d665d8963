use Rattle.std.proofs.Common.{subst}
use Rattle.ground_net.specs.Cones.{mentioned_by, mentioned_by_reset}
use Rattle.ground_net.specs.Reads.{driver_of}
use Rattle.comb_order.specs.Spreading.{Tells}
use Rattle.comb_order.proofs.Making.{ok_then, tells_then}
use Rattle.cone_cutter.proofs.needing.push_register.Goals as goal

pub returns : goal.returns
returns c =
    let net = c.args.net.now in
    let register = c.args.register.now in
    ok_then c.push_reset.result c.push_reset.ensures
    (λ k. tells_then net.leaves (mentioned_by (driver_of net register.leaf)) (mentioned_by_reset register.reset) c.args.spread.now c.push_driver.new.spread c.push_reset.new.spread c.args.row.now c.push_driver.new.row c.push_reset.new.row
    c.in_ok-push_driver.ensures (subst (λ l. Tells l (mentioned_by_reset register.reset) c.push_driver.new.spread c.push_driver.new.row c.push_reset.new.spread c.push_reset.new.row) c.as_slice.ensures k))
