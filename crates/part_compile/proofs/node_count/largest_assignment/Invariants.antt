use Rattle.std.proofs.Common.{◌≤◌, map}
use Rattle.part_compile.specs.SlotBounds.{greatest, assignment_nodes}
use Rattle.part_compile.proofs.node_count.largest_assignment.Given as goal

abbrev pub invariant-loop-leaf : goal.invariant-loop-leaf
invariant-loop-leaf l = l.most ≤ greatest (map (assignment_nodes l.net) l.part.assignments)
