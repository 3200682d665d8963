use Rattle.std.proofs.Common.{List, ℕ, length, ◌-◌, ◌≤◌}
use Rattle.fir_lexer.specs.declared.pieces.PieceKind.{PieceKind}
use Rattle.fir_layout.specs.Walk.{Ahead}
use Rattle.fir_layout.proofs.Walks.{Going}
use Rattle.fir_layout.proofs.lines.line_end.Given as goal

abbrev pub invariant-loop-at : goal.invariant-loop-at
invariant-loop-at l = record {
  within : l.at ≤ length l.bytes;
  going : (pieces : List (PieceKind × ℕ)) → Ahead l.bytes l.tokens l.fn.start l.fn.next pieces → Going l.bytes l.tokens l.fn.start l.fn.next l.at l.after pieces;
}

abbrev pub decreases-loop-at : goal.decreases-loop-at
decreases-loop-at l = length l.bytes - l.at
