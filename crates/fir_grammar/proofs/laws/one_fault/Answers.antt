use Rattle.fir_grammar.proofs.OneFault.{one_fault as unique}
use Rattle.fir_grammar.proofs.laws.one_fault.Goals as goal

pub returns : goal.returns
returns c = λ text list first second a b. unique text list first second a b
