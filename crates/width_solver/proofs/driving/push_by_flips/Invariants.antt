use Rattle.std.proofs.Common.{◌≡◌, ◌++◌, drop}
use Rattle.std.specs.Vec.Iter.{into_iter_items}
use Rattle.width_solver.specs.ByFlips.{connected_by}
use Rattle.width_solver.proofs.driving.push_by_flips.Given as goal

abbrev pub invariant-loop-flip : goal.invariant-loop-flip
invariant-loop-flip l = l.fn.rules.items ++ connected_by l.flips l.fn.left.list l.fn.right.list ≡ l.rules.items ++ connected_by (drop l.flip-index l.flips) (into_iter_items l.lefts) (into_iter_items l.rights)
