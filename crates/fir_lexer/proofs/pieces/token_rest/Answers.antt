use Rattle.fir_lexer.proofs.Rests.{digits_rest}
use Rattle.fir_lexer.proofs.pieces.token_rest.Goals as goal

pub returns-in-Digits-clause-some : goal.returns-in-Digits-clause-some
returns-in-Digits-clause-some c = rw c.in-Digits.is (digits_rest _ _ c.digits_len.ensures)
