use Rattle.std.proofs.Common.{◌≡◌, map, take}
use Rattle.std.specs.List.{flat_map}
use Rattle.lower_aggregates.specs.Tables.{leaf_row, piece_rows}
use Rattle.lower_aggregates.proofs.table.leaf_table.Given as goal

abbrev pub invariant-loop-piece : goal.invariant-loop-piece
invariant-loop-piece l = map leaf_row l.table ≡ flat_map (piece_rows l.names) (take l.piece-index l.pieces)
