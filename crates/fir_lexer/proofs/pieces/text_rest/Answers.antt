use Rattle.std.proofs.Common.{arith}
use Rattle.fir_lexer.proofs.Rests.{text_rest_is, text_rest_over}
use Rattle.fir_lexer.proofs.pieces.text_rest.Goals as goal

pub returns-then-n-line_len-clause-some : goal.returns-then-n-line_len-clause-some
returns-then-n-line_len-clause-some c = text_rest_is _ _ c.in-Some.ensures.some (omega (arith, c.line_len.ensures))

pub returns-else-n-line_len-clause-none : goal.returns-else-n-line_len-clause-none
returns-else-n-line_len-clause-none c = text_rest_over _ _ c.in-Some.ensures.some (omega (arith, c.line_len.ensures))
