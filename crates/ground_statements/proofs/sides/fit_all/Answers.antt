use Rattle.std.proofs.Common.{◌≤◌, length, arith}
use Rattle.std.specs.Vec.Iter.{into_iter_items}
use Rattle.ground_statements.proofs.Walks.{fits_end}
use Rattle.ground_statements.proofs.sides.fit_all.Goals as goal

pub returns : goal.returns
returns c =
    let ended : length c.args.leaves.now ≤ c.loop-leaf.leaf-index = omega arith in
    fits_end c.args.flip c.args.leaves.now c.args.sources (into_iter_items c.loop-leaf.others) c.loop-leaf.leaf-index c.loop-leaf.fits c.loop-leaf.invariant ended
