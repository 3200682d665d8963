use Rattle.std.proofs.Common.{◌<◌, length, take, slice_index, slice_set, sym, subst, arith}
use Rattle.std.proofs.lemmas.List.{take_more}
use Rattle.cut_refine.specs.Standing.{Loses}
use Rattle.cut_refine.proofs.Tables.{loses_more}
use Rattle.cut_refine.proofs.standing.lose.Goals as goal

pub loop-leaf-preserved : goal.loop-leaf-preserved
loop-leaf-preserved c =
    let cone = c.args.cone.now in
    let i = c.loop-leaf.leaf-index in
    let x = slice_index c.args.cone.now c.loop-leaf.leaf-index in
    let inside : slice_index c.args.cone.now c.loop-leaf.leaf-index < length c.loop-leaf.masks = omega (arith, c.requires.masks i 0 c.loop-leaf-test.true, c.loop-leaf.auto.masks) in
    subst (λ s. Loses c.args.part s c.args.counts.now c.args.masks.now (slice_set c.loop-leaf.masks x c.left_mask.result)) (sym (take_more cone i 0 c.loop-leaf-test.true))
    (loses_more c.args.part (take i cone) c.args.counts.now c.args.masks.now c.loop-leaf.masks x c.left_mask.result c.loop-leaf.invariant inside c.left_mask.ensures.lone c.left_mask.ensures.shared c.left_mask.ensures.others)
