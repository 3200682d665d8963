use Rattle.std.proofs.Common.{take}
use Rattle.width_solver.specs.Small.{Replaces}
use Rattle.width_solver.proofs.small.+small.Given as goal

abbrev pub invariant-leaves_of-loop-part : goal.invariant-leaves_of-loop-part
invariant-leaves_of-loop-part l = Replaces (take l.part-index l.parts) l.fn.small.count l.fn.small.rules.items l.small.count l.small.rules.items l.leaves
