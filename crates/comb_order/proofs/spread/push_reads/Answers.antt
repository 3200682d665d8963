use Rattle.std.proofs.Common.{◌≡◌, ◌<◌, Some, length, slice_get, subst, ap, arith}
use Rattle.ground_net.specs.Cones.{mentioned_by}
use Rattle.ground_net.specs.Reads.{direct_reads, driver_of}
use Rattle.comb_order.proofs.Leaves.{leaf_there}
use Rattle.comb_order.proofs.Making.{ok_then, tells_by, tells_none, reads_assigned, reads_nothing}
use Rattle.comb_order.proofs.spread.push_reads.Goals as goal

pub returns-in-Assigned : goal.returns-in-Assigned
returns-in-Assigned c =
    let net = c.args.net.now in
    let x = c.args.number in
    let leaf = c.index-leaves-number.result in
    let lt : c.args.number < length c.as_slice-leaves.result.now = omega (arith, c.requires.within, ap length c.as_slice-leaves.ensures) in
    let there : slice_get c.args.net.now.leaves c.args.number ≡ Some c.index-leaves-number.result
    = subst (λ l. slice_get l c.args.number ≡ Some c.index-leaves-number.result) c.as_slice-leaves.ensures (leaf_there c.as_slice-leaves.result.now x leaf lt c.index-leaves-number.is) in
    ok_then c.push_driver.result c.push_driver.ensures
    (λ h. tells_by net.leaves (direct_reads net x) (mentioned_by (driver_of net x)) c.args.spread.now c.args.row.now c.push_driver.new.spread c.push_driver.new.row h (reads_assigned net x leaf there c.in-Assigned.is))

pub returns-in_default : goal.returns-in_default
returns-in_default c =
    let net = c.args.net.now in
    let x = c.args.number in
    let leaf = c.index-leaves-number.result in
    let lt : c.args.number < length c.as_slice-leaves.result.now = omega (arith, c.requires.within, ap length c.as_slice-leaves.ensures) in
    let there : slice_get c.args.net.now.leaves c.args.number ≡ Some c.index-leaves-number.result
    = subst (λ l. slice_get l c.args.number ≡ Some c.index-leaves-number.result) c.as_slice-leaves.ensures (leaf_there c.as_slice-leaves.result.now x leaf lt c.index-leaves-number.is) in
    tells_by net.leaves (direct_reads net x) _ c.args.spread.now c.args.row.now c.args.spread.now c.args.row.now (tells_none net.leaves c.args.spread.now c.args.row.now c.requires.begun) (reads_nothing net x leaf there c.in_default.not-Assigned)
