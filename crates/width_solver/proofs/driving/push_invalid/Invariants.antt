use Rattle.std.proofs.Common.{◌≡◌, ◌++◌, drop}
use Rattle.std.specs.Vec.Iter.{into_iter_items}
use Rattle.width_solver.specs.ByFlips.{invalidated_by}
use Rattle.width_solver.proofs.driving.push_invalid.Given as goal

abbrev pub invariant-loop-flip : goal.invariant-loop-flip
invariant-loop-flip l = l.fn.rules.items ++ invalidated_by l.flow l.flips l.fn.formulas ≡ l.rules.items ++ invalidated_by l.flow (drop l.flip-index l.flips) (into_iter_items l.places)
