use Rattle.fir_grammar.proofs.OneFault.{accepted}
use Rattle.fir_grammar.proofs.laws.circuits_have_no_fault.Goals as goal

pub returns : goal.returns
returns c = λ text list circuit fault h shallow f. accepted text list circuit fault h shallow f
