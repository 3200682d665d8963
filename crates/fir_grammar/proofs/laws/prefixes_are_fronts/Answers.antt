use Rattle.fir_grammar.proofs.Fronts.{Derives-front}
use Rattle.fir_grammar.proofs.laws.prefixes_are_fronts.Goals as goal

pub returns : goal.returns
returns c = λ symbols pieces k d. Derives-front k d
