use Rattle.std.proofs.Common.{[], ◌∷◌, ap}
use Rattle.circuit_texts.specs.StateTexts.{integer_given_from}
use Rattle.circuit_texts.proofs.state_laws.an_input_begins_with_its_value.Goals as goal

pub returns-clause-before : goal.returns-clause-before
returns-clause-before c = λ design name way u v e. ap (integer_given_from (u ∷ []) (record { cycle = 1; input = 0; value = v } ∷ []) 0) e

pub returns-clause-set : goal.returns-clause-set
returns-clause-set c = λ design name way u v e. ap (integer_given_from (u ∷ []) (record { cycle = 1; input = 0; value = v } ∷ []) 1) e
