use Rattle.print_stop.proofs.Turns.{AtPiece}
use Rattle.print_stop.proofs.text.push_text.Given as goal

abbrev pub invariant-loop-piece : goal.invariant-loop-piece
invariant-loop-piece l = AtPiece l.pieces l.values l.piece-index l.next l.fn.out.items l.out.items
