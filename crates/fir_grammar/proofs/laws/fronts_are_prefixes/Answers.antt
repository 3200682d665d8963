use Rattle.fir_grammar.proofs.Completion.{Front-completes}
use Rattle.fir_grammar.proofs.laws.fronts_are_prefixes.Goals as goal

pub returns : goal.returns
returns c = λ symbols pieces f. Front-completes f
