use Rattle.fir_lexer.proofs.Rests.{comment_rest}
use Rattle.fir_lexer.proofs.pieces.rest_of.Goals as goal

pub returns-in-Comment-clause-some : goal.returns-in-Comment-clause-some
returns-in-Comment-clause-some c = rw c.in-Comment.is (comment_rest _ _ c.line_len.ensures)
