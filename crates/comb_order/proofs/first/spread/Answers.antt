use Rattle.std.proofs.Common.{◌+◌, ◌<◌, [], ◌∷◌, ◌++◌, length, take, slice_index, slice_set, sym, subst, arith}
use Rattle.std.proofs.lemmas.List.{take_more}
use Rattle.comb_order.specs.Reach.{Spreads}
use Rattle.comb_order.proofs.Reaches.{spreads_met, spreads_new}
use Rattle.comb_order.proofs.first.spread.Goals as goal

pub loop-vertex-preserved-then-marks-vertex-eq0 : goal.loop-vertex-preserved-then-marks-vertex-eq0
loop-vertex-preserved-then-marks-vertex-eq0 c =
    let xs = c.args.row.now in
    let i = c.loop-vertex.vertex-index in
    let x = slice_index c.args.row.now c.loop-vertex.vertex-index in
    let here = take_more xs i 0 (omega arith) in
    subst (λ r. Spreads r c.args.marks.now c.args.waiting.now.items c.loop-vertex.marks c.loop-vertex.waiting.items) (sym here)
    (spreads_met (take i xs) c.args.marks.now c.args.waiting.now.items c.loop-vertex.marks c.loop-vertex.waiting.items x c.loop-vertex.invariant c.if-marks-vertex-eq0.true)

pub loop-vertex-preserved : goal.loop-vertex-preserved
loop-vertex-preserved c =
    let xs = c.args.row.now in
    let i = c.loop-vertex.vertex-index in
    let x = slice_index c.args.row.now c.loop-vertex.vertex-index in
    let here = take_more xs i 0 (omega arith) in
    let inside : slice_index c.args.row.now c.loop-vertex.vertex-index < length c.loop-vertex.marks = omega (arith, c.requires c.loop-vertex.vertex-index 0 (omega arith), c.loop-vertex.auto.marks) in
    subst (λ w. Spreads (take (i + 1) xs) c.args.marks.now c.args.waiting.now.items (slice_set c.loop-vertex.marks x 0) w) (sym c.in_ok-put.ensures)
    (subst (λ r. Spreads r c.args.marks.now c.args.waiting.now.items (slice_set c.loop-vertex.marks x 0) (c.loop-vertex.waiting.items ++ x ∷ [])) (sym here)
    (spreads_new (take i xs) c.args.marks.now c.args.waiting.now.items c.loop-vertex.marks c.loop-vertex.waiting.items x c.loop-vertex.invariant inside (λ e. omega (arith, c.if-marks-vertex-eq0.false))))
