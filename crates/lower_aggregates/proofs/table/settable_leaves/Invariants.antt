use Rattle.std.proofs.Common.{◌≡◌, take}
use Rattle.std.specs.List.{flat_map}
use Rattle.lower_aggregates.specs.Tables.{flags_of_piece}
use Rattle.lower_aggregates.proofs.table.settable_leaves.Given as goal

abbrev pub invariant-loop-piece : goal.invariant-loop-piece
invariant-loop-piece l = l.flags.items ≡ flat_map flags_of_piece (take l.piece-index l.pieces)
