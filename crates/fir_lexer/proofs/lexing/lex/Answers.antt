use Rattle.fir_lexer.proofs.Readings.{accepts_from, refuses_from}
use Rattle.fir_lexer.proofs.lexing.lex.Goals as goal

pub returns-clause-accepts : goal.returns-clause-accepts
returns-clause-accepts c = accepts_from (λ v. v.items) c.args.bytes.now _ c.read_tokens.ensures.ok c.read_tokens.ensures.fault

pub returns-clause-refuses : goal.returns-clause-refuses
returns-clause-refuses c = refuses_from (λ v. v.items) c.args.bytes.now _ c.read_tokens.ensures.ok c.read_tokens.ensures.fault
