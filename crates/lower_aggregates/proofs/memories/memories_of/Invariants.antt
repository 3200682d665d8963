use Rattle.std.proofs.Common.{◌≡◌, map, take}
use Rattle.lower_aggregates.specs.Held.{held_part}
use Rattle.lower_aggregates.specs.Memories.{memory_row, memories_in}
use Rattle.lower_aggregates.proofs.memories.memories_of.Given as goal

abbrev pub invariant-loop-piece : goal.invariant-loop-piece
invariant-loop-piece l = map memory_row l.memories ≡ memories_in l.names (map held_part (take l.piece-index l.pieces))
