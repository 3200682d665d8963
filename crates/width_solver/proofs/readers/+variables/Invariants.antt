use Rattle.std.proofs.Common.{◌≡◌, ◌++◌, take}
use Rattle.std.specs.List.{flat_map}
use Rattle.width_solver.specs.Readers.{variables}
use Rattle.width_solver.proofs.readers.+variables.Given as goal

abbrev pub invariant-push_all-loop-part : goal.invariant-push_all-loop-part
invariant-push_all-loop-part l = l.read.items ≡ l.fn.read.items ++ flat_map variables (take l.part-index l.parts)
