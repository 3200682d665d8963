use Rattle.fir_lexer.proofs.Ends.{GoesOnBelow}
use Rattle.std.proofs.Common.{◌≡◌, get_or}
use Rattle.fir_lexer.proofs.closing.info_rest.Given as goal

abbrev pub invariant-loop-at : goal.invariant-loop-at
invariant-loop-at l = (get_or l.bytes 0 0 ≡ 91) × GoesOnBelow l.bytes l.at
