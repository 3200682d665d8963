use Rattle.std.proofs.Common.{map, ap, arith}
use Rattle.part_compile.specs.SlotBounds.{greatest, assignment_nodes}
use Rattle.part_compile.proofs.Greatest.{mapped_greatest}
use Rattle.part_compile.proofs.node_count.largest_assignment.Goals as goal

pub loop-leaf-preserved : goal.loop-leaf-preserved
loop-leaf-preserved c =
    let f = assignment_nodes c.args.net.now in
    let here = mapped_greatest f c.as_slice-leaf-items.result.now c.loop-leaf.leaf-index 0 c.loop-leaf-test.true in
    let same = ap (λ xs. greatest (map f xs)) c.as_slice-leaf-items.ensures in
    let one = c.driver_nodes.ensures in
    let old = c.loop-leaf.invariant in
    let most = c.max-most.ensures in
    omega (arith, here, same, one, old, most)
