use Rattle.std.proofs.Common.{[], ◌∷◌, ap}
use Rattle.circuit_run.specs.Traces.{integer_given}
use Rattle.circuit_run.proofs.laws.an_input_keeps_its_last_setting.Goals as goal

pub returns-clause-before : goal.returns-clause-before
returns-clause-before c = λ design name way v w e. ap (integer_given (record { cycle = 1; input = 0; value = v } ∷ record { cycle = 3; input = 0; value = w } ∷ []) 0) e

pub returns-clause-at : goal.returns-clause-at
returns-clause-at c = λ design name way v w e. ap (integer_given (record { cycle = 1; input = 0; value = v } ∷ record { cycle = 3; input = 0; value = w } ∷ []) 1) e

pub returns-clause-behind : goal.returns-clause-behind
returns-clause-behind c = λ design name way v w e. ap (integer_given (record { cycle = 1; input = 0; value = v } ∷ record { cycle = 3; input = 0; value = w } ∷ []) 2) e

pub returns-clause-changed : goal.returns-clause-changed
returns-clause-changed c = λ design name way v w e. ap (integer_given (record { cycle = 1; input = 0; value = v } ∷ record { cycle = 3; input = 0; value = w } ∷ []) 3) e
