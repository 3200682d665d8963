use Rattle.std.proofs.Common.{arith}
use Rattle.fir_lexer.proofs.Ends.{closed_at}
use Rattle.fir_lexer.proofs.closing.closing.Goals as goal

pub returns-clause-some : goal.returns-clause-some
returns-clause-some c = closed_at _ _ _ _ _ _ c.loop-unclosed.invariant.follows c.if-unclosed.false (omega arith)
