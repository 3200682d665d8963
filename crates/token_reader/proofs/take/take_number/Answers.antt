use Rattle.fir_grammar.specs.Grammar.{A_number}
use Rattle.token_reader.proofs.take.take_number.Goals as goal

pub returns-in-None-clause-err : goal.returns-in-None-clause-err
returns-in-None-clause-err c = c.refusal_at.ensures A_number c.in-None.ensures.none
