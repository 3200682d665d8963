use Rattle.std.proofs.Common.{◌+◌, ◌<◌, length, take, slice_index, slice_set, sym, subst, arith}
use Rattle.std.proofs.lemmas.List.{take_more}
use Rattle.cut_refine.specs.Standing.{Raises}
use Rattle.cut_refine.proofs.Tallies.{raises_none, raises_more, fresh_at}
use Rattle.cut_refine.proofs.counting.raise.Goals as goal

pub loop-leaf-init : goal.loop-leaf-init
loop-leaf-init c = raises_none c.args.counts.now

pub loop-leaf-preserved : goal.loop-leaf-preserved
loop-leaf-preserved c =
    let cone = c.args.cone.now in
    let i = c.loop-leaf.leaf-index in
    let x = slice_index c.args.cone.now c.loop-leaf.leaf-index in
    let inside : slice_index c.args.cone.now c.loop-leaf.leaf-index < length c.loop-leaf.counts = omega (arith, c.requires.within i 0 c.loop-leaf-test.true, c.loop-leaf.auto.counts) in
    subst (λ s. Raises s c.args.counts.now (slice_set c.loop-leaf.counts x (slice_index c.loop-leaf.counts x + 1))) (sym (take_more cone i 0 c.loop-leaf-test.true))
    (raises_more (take i cone) c.args.counts.now c.loop-leaf.counts x c.loop-leaf.invariant inside (fresh_at cone i c.requires.once c.loop-leaf-test.true))
