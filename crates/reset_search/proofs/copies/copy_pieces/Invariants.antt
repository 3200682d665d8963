use Rattle.std.proofs.Common.{◌≡◌, take}
use Rattle.reset_search.proofs.copies.copy_pieces.Given as goal

abbrev pub invariant-loop-piece : goal.invariant-loop-piece
invariant-loop-piece l = l.copied ≡ take l.piece-index l.pieces
