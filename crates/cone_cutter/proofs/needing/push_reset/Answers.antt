use Rattle.std.proofs.Common.{ap}
use Rattle.ground_net.specs.Cones.{mentioned_by_reset}
use Rattle.comb_order.proofs.Making.{ok_then, tells_by, tells_then}
use Rattle.cone_cutter.proofs.needing.push_reset.Goals as goal

pub returns-in_ok-push_told-in-Some : goal.returns-in_ok-push_told-in-Some
returns-in_ok-push_told-in-Some c = ok_then c.push_told-in-Some.result c.push_told-in-Some.ensures
    (λ k. tells_by c.args.leaves.now (mentioned_by_reset c.args.reset.now) _ c.args.spread.now c.args.row.now c.push_told-in-Some.new.spread c.push_told-in-Some.new.row
    (tells_then c.args.leaves.now _ _ c.args.spread.now c.push_told.new.spread c.push_told-in-Some.new.spread c.args.row.now c.push_told.new.row c.push_told-in-Some.new.row c.in_ok-push_told-in-Some.ensures k)
    (ap mentioned_by_reset c.in-Some.is))
