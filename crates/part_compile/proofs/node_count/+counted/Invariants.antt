use Rattle.std.proofs.Common.{◌≤◌, map, take, sum}
use Rattle.code_emit.specs.Counts.{nodes}
use Rattle.part_compile.proofs.node_count.+counted.Given as goal

abbrev pub invariant-count_all-loop-ground : goal.invariant-count_all-loop-ground
invariant-count_all-loop-ground l = l.count ≤ sum (map nodes (take l.ground-index l.grounds))
