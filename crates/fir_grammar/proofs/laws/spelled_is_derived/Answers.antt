use Rattle.fir_grammar.specs.Grammar.{done}
use Rattle.fir_grammar.proofs.Fronts.{spelled_derives}
use Rattle.fir_grammar.proofs.laws.spelled_is_derived.Goals as goal

pub returns : goal.returns
returns c = λ text list circuit h. spelled_derives text h.spelled.spelled done
