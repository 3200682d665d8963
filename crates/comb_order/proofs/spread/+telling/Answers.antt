use Rattle.std.proofs.Common.{[], ◌∷◌, map, take, arith}
use Rattle.std.proofs.lemmas.Grind.{common_steps}
use Rattle.ground_net.specs.declared.ground.Ground.{the_lemmas}
use Rattle.ground_net.specs.Grounds.{mentions, joined}
use Rattle.ground_net.proofs.Layers.{maps}
use Rattle.comb_order.proofs.Making.{ok_then, tells_by, tells_leaves, tells_then, joined_more}
use Rattle.comb_order.proofs.spread.+telling.Goals as goal

pub push_all-loop-ground-preserved : goal.push_all-loop-ground-preserved
push_all-loop-ground-preserved t c =
    tells_by c.args.leaves.now _ _ c.args.spread.now c.args.row.now c.push_told.new.spread c.push_told.new.row
    (tells_then c.args.leaves.now (joined (map mentions (take c.loop-ground.ground-index c.args.grounds.now))) (mentions c.ground-item.result) c.args.spread.now c.loop-ground.spread c.push_told.new.spread c.args.row.now c.loop-ground.row c.push_told.new.row
    c.loop-ground.invariant c.in_ok-push_told.ensures)
    (joined_more c.args.grounds.now c.loop-ground.ground-index c.ground-item.result c.loop-ground-test.true c.ground-item.is)

pub push_told-returns-in-Leaf : goal.push_told-returns-in-Leaf
push_told-returns-in-Leaf t c = ok_then c.push_leaf.result c.push_leaf.ensures
    (λ e. tells_by c.args.leaves.now (mentions c.args.ground.now) (c.in-Leaf.leaf ∷ []) c.args.spread.now c.args.row.now c.args.spread.now c.push_leaf.new.row
    (tells_leaves c.args.leaves.now c.args.spread.now (c.in-Leaf.leaf ∷ []) c.args.row.now c.push_leaf.new.row c.requires e) (grind (arith, common_steps, the_lemmas, c.in-Leaf.is)))

pub push_told-returns-in_ok-push_all-in-Indexed : goal.push_told-returns-in_ok-push_all-in-Indexed
push_told-returns-in_ok-push_all-in-Indexed t c = ok_then c.push_numbers.result c.push_numbers.ensures
    (λ k. tells_by c.args.leaves.now (mentions c.args.ground.now) _ c.args.spread.now c.args.row.now c.push_numbers.new.spread c.push_numbers.new.row
    (tells_then c.args.leaves.now _ _ c.args.spread.now c.push_all-in-Indexed.new.spread c.push_numbers.new.spread c.args.row.now c.push_all-in-Indexed.new.row c.push_numbers.new.row c.in_ok-push_all-in-Indexed.ensures k)
    (grind (arith, common_steps, the_lemmas, maps, c.in-Indexed.is, c.as_slice-in-Indexed.ensures)))

pub push_told-returns-in_ok-push_all-in-Select : goal.push_told-returns-in_ok-push_all-in-Select
push_told-returns-in_ok-push_all-in-Select t c = ok_then c.push_all-in-Select-2.result c.push_all-in-Select-2.ensures
    (λ k. tells_by c.args.leaves.now (mentions c.args.ground.now) _ c.args.spread.now c.args.row.now c.push_all-in-Select-2.new.spread c.push_all-in-Select-2.new.row
    (tells_then c.args.leaves.now _ _ c.args.spread.now c.push_all-in-Select.new.spread c.push_all-in-Select-2.new.spread c.args.row.now c.push_all-in-Select.new.row c.push_all-in-Select-2.new.row c.in_ok-push_all-in-Select.ensures k)
    (grind (arith, common_steps, the_lemmas, maps, c.in-Select.is, c.as_slice-in-Select.ensures, c.as_slice-in-Select-2.ensures)))
