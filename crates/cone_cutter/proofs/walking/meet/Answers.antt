use Rattle.std.proofs.Common.{◌+◌, ◌<◌, [], ◌∷◌, ◌++◌, length, take, slice_index, slice_set, sym, subst, arith}
use Rattle.std.proofs.lemmas.List.{take_more}
use Rattle.cone_cutter.specs.Walks.{Meets}
use Rattle.cone_cutter.proofs.Walks.{meets_none, meets_met, meets_new}
use Rattle.cone_cutter.proofs.walking.meet.Goals as goal

pub loop-leaf-init : goal.loop-leaf-init
loop-leaf-init c = meets_none c.args.stamp c.args.stamps.now c.args.found.now.items

pub loop-leaf-preserved-then-stamps-leaf : goal.loop-leaf-preserved-then-stamps-leaf
loop-leaf-preserved-then-stamps-leaf c =
    let xs = c.args.row.now in
    let i = c.loop-leaf.leaf-index in
    let x = slice_index c.args.row.now c.loop-leaf.leaf-index in
    let here = take_more xs i 0 (omega arith) in
    subst (λ r. Meets r c.args.stamp c.args.stamps.now c.args.found.now.items c.loop-leaf.stamps c.loop-leaf.found.items) (sym here)
    (meets_met (take i xs) c.args.stamp c.args.stamps.now c.args.found.now.items c.loop-leaf.stamps c.loop-leaf.found.items x c.loop-leaf.invariant c.if-stamps-leaf.true)

pub loop-leaf-preserved : goal.loop-leaf-preserved
loop-leaf-preserved c =
    let xs = c.args.row.now in
    let i = c.loop-leaf.leaf-index in
    let x = slice_index c.args.row.now c.loop-leaf.leaf-index in
    let here = take_more xs i 0 (omega arith) in
    let inside : slice_index c.args.row.now c.loop-leaf.leaf-index < length c.loop-leaf.stamps = omega (arith, c.requires c.loop-leaf.leaf-index 0 (omega arith), c.loop-leaf.auto.stamps) in
    subst (λ w. Meets (take (i + 1) xs) c.args.stamp c.args.stamps.now c.args.found.now.items (slice_set c.loop-leaf.stamps x c.args.stamp) w) (sym c.in_ok-put.ensures)
    (subst (λ r. Meets r c.args.stamp c.args.stamps.now c.args.found.now.items (slice_set c.loop-leaf.stamps x c.args.stamp) (c.loop-leaf.found.items ++ x ∷ [])) (sym here)
    (meets_new (take i xs) c.args.stamp c.args.stamps.now c.args.found.now.items c.loop-leaf.stamps c.loop-leaf.found.items x c.loop-leaf.invariant inside c.if-stamps-leaf.false))
