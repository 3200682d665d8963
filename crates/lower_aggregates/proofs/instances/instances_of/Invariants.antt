use Rattle.std.proofs.Common.{◌≡◌, ◌++◌, map, drop}
use Rattle.lower_aggregates.specs.Held.{held_part}
use Rattle.lower_aggregates.specs.Instances.{instance_row, instances_from}
use Rattle.lower_aggregates.proofs.instances.instances_of.Given as goal

abbrev pub invariant-loop-piece : goal.invariant-loop-piece
invariant-loop-piece l = map instance_row l.instances ++ instances_from l.names l.numbers.entries l.memories (map held_part (drop l.piece-index l.pieces)) ≡ instances_from l.names l.numbers.entries 0 (map held_part l.pieces)
