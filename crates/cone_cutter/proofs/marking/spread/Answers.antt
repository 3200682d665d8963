use Rattle.std.proofs.Common.{◌<◌, length, take, slice_index, slice_set, sym, subst, arith}
use Rattle.std.proofs.lemmas.List.{take_more}
use Rattle.cone_cutter.specs.Marks.{Spreads}
use Rattle.cone_cutter.proofs.Marks.{spreads_none, spreads_more}
use Rattle.cone_cutter.proofs.marking.spread.Goals as goal

pub loop-leaf-init : goal.loop-leaf-init
loop-leaf-init c = spreads_none c.args.mark c.args.marks.now

pub loop-leaf-preserved : goal.loop-leaf-preserved
loop-leaf-preserved c =
    let row = c.args.row.now in
    let i = c.loop-leaf.leaf-index in
    let x = slice_index c.args.row.now c.loop-leaf.leaf-index in
    let inside : slice_index c.args.row.now c.loop-leaf.leaf-index < length c.loop-leaf.marks = omega (arith, c.requires i 0 c.loop-leaf-test.true, c.loop-leaf.auto.marks) in
    subst (λ s. Spreads s c.args.mark c.args.marks.now (slice_set c.loop-leaf.marks x c.both.result)) (sym (take_more row i 0 c.loop-leaf-test.true))
    (spreads_more (take i row) c.args.mark c.args.marks.now c.loop-leaf.marks x c.both.result c.loop-leaf.invariant inside c.both.ensures)
