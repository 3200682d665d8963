use Rattle.std.proofs.Common.{◌≡◌, ◌+◌, ◌≤◌, drop}
use Rattle.item_lines.specs.Formats.{shows}
use Rattle.found_items.proofs.walk.shown.Given as goal

abbrev pub invariant-loop-piece : goal.invariant-loop-piece
invariant-loop-piece l = record {
  all : l.count + shows (drop l.piece-index l.pieces) ≡ shows l.pieces;
  few : l.count ≤ l.piece-index;
}
