use Rattle.fir_lexer.proofs.Readings.{one_fault, no_tokens}
use Rattle.fir_lexer.proofs.laws.texts_have_one_fault.Goals as goal

pub returns-clause-place : goal.returns-clause-place
returns-clause-place c text at other fault second f g = (one_fault text at other fault second f g).0

pub returns-clause-fault : goal.returns-clause-fault
returns-clause-fault c text at other fault second f g = (one_fault text at other fault second f g).1

pub returns-clause-no_tokens : goal.returns-clause-no_tokens
returns-clause-no_tokens c text at fault tokens f are = no_tokens text at fault tokens f are
