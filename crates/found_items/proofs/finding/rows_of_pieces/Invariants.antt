use Rattle.std.proofs.Common.{map, take}
use Rattle.lower_aggregates.specs.Held.{held_part}
use Rattle.found_items.specs.PieceRows.{AreRowsOf}
use Rattle.found_items.proofs.finding.rows_of_pieces.Given as goal

abbrev pub invariant-loop-piece : goal.invariant-loop-piece
invariant-loop-piece l = AreRowsOf l.numbers.entries (map held_part (take l.piece-index l.pieces)) l.rows
