use Rattle.std.proofs.Common.{◌<◌, length, take, slice_index, slice_set, sym, subst, arith}
use Rattle.std.proofs.lemmas.List.{take_more}
use Rattle.cone_cutter.specs.Loads.{Gets}
use Rattle.cone_cutter.proofs.LoadSteps.{gets_more}
use Rattle.cone_cutter.proofs.loads.give.Goals as goal

pub loop-leaf-preserved : goal.loop-leaf-preserved
loop-leaf-preserved c =
    let cone = c.args.cone.now in
    let i = c.loop-leaf.leaf-index in
    let x = slice_index c.args.cone.now c.loop-leaf.leaf-index in
    let inside : slice_index c.args.cone.now c.loop-leaf.leaf-index < length c.loop-leaf.masks = omega (arith, c.requires.within i 0 c.loop-leaf-test.true, c.loop-leaf.auto.masks) in
    subst (λ s. Gets c.args.part s c.args.masks.now (slice_set c.loop-leaf.masks x c.with_bit.result)) (sym (take_more cone i 0 c.loop-leaf-test.true))
    (gets_more c.args.part (take i cone) c.args.masks.now c.loop-leaf.masks x c.with_bit.result c.loop-leaf.invariant inside c.with_bit.ensures.same c.with_bit.ensures.others)
