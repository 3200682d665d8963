use Rattle.std.proofs.Common.{◌≡◌, ◌++◌, map, take}
use Rattle.fir_meaning.specs.Values.{fitted_to}
use Rattle.drive_check.specs.Keys.{step_of}
use Rattle.plain_values.specs.Sites.{scene_of_view}
use Rattle.plain_values.proofs.evaluating.shown.Given as goal

abbrev pub invariant-loop-leaf : goal.invariant-loop-leaf
invariant-loop-leaf l = l.values ≡ map (λ leaf. fitted_to leaf ((scene_of_view l.view).integers l.component (map step_of l.way ++ leaf.path))) (take l.leaf-index l.leaves)
