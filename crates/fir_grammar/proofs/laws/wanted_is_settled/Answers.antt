use Rattle.fir_grammar.proofs.Follows.{Stands-settled}
use Rattle.fir_grammar.proofs.laws.wanted_is_settled.Goals as goal

pub returns : goal.returns
returns c = λ symbols h. Stands-settled h
