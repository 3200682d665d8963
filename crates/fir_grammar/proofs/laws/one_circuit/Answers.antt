use Rattle.fir_grammar.proofs.Unique.{one_circuit as unique}
use Rattle.fir_grammar.proofs.laws.one_circuit.Goals as goal

pub returns : goal.returns
returns c = λ text list first second a b. unique text list first second a b
