use Rattle.std.proofs.Common.{arith, rules}
use Rattle.fir_lexer.proofs.Ends.{begin_follows, open_follows, close_follows, outside_follows}
use Rattle.fir_lexer.proofs.closing.pass_in_brackets.Goals as goal

pub returns-in-34-clause-some : goal.returns-in-34-clause-some
returns-in-34-clause-some c = begin_follows _ _ c.requires.any_open (omega arith) (search rules)

pub returns-in-91-clause-some : goal.returns-in-91-clause-some
returns-in-91-clause-some c = open_follows _ _ c.requires.any_open (omega arith) (search rules)

pub returns-in-93-clause-some : goal.returns-in-93-clause-some
returns-in-93-clause-some c = close_follows _ _ c.requires.any_open (omega arith) (search rules)

pub returns-in-len1-up-clause-some : goal.returns-in-len1-up-clause-some
returns-in-len1-up-clause-some c = outside_follows _ _ c.requires.any_open (omega arith) (omega arith) (omega arith) (omega arith)
