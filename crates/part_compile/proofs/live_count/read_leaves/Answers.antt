use Rattle.std.proofs.Common.{[], ◌∷◌, slice_index, refl}
use Rattle.part_compile.proofs.Marks.{reads_on, reads_within}
use Rattle.part_compile.proofs.Rows.{one_there}
use Rattle.part_compile.proofs.live_count.read_leaves.Goals as goal

pub loop-leaf-preserved : goal.loop-leaf-preserved
loop-leaf-preserved c =
    let xs = c.args.leaves.now in
    let x = slice_index c.args.leaves.now c.loop-leaf.leaf-index in
    reads_on xs c.args.live.now c.loop-leaf.live c.read_leaf.new.live c.loop-leaf.invariant
    (reads_within (x ∷ []) xs c.loop-leaf.live c.read_leaf.new.live (one_there xs c.loop-leaf.leaf-index c.loop-leaf-test.true) c.read_leaf.ensures)
