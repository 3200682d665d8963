use Rattle.std.proofs.Common.{arith}
use Rattle.fir_lexer.proofs.Rests.{piece_longest_of, piece_none_of}
use Rattle.fir_lexer.proofs.pieces.piece.Goals as goal

pub returns-in_default-rest_of-clause-none : goal.returns-in_default-rest_of-clause-none
returns-in_default-rest_of-clause-none c = piece_none_of _ _ (omega arith) c.in-Some.ensures.some c.in_default-rest_of.ensures.none

pub returns-clause-some : goal.returns-clause-some
returns-clause-some c = piece_longest_of _ _ _ _ (omega arith) c.in-Some.ensures.some c.in-Some-rest_of.ensures.some
