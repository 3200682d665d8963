use Rattle.check_laws.proofs.Conditions.{all_typed, conditions_one, resets_one, choices_one, indices_one, operations_typed}
use Rattle.check_laws.proofs.node_laws.operands_have_their_kinds.Goals as goal

pub returns-clause-typed : goal.returns-clause-typed
returns-clause-typed c = all_typed

pub returns-clause-conditions : goal.returns-clause-conditions
returns-clause-conditions c = conditions_one

pub returns-clause-resets : goal.returns-clause-resets
returns-clause-resets c = resets_one

pub returns-clause-choices : goal.returns-clause-choices
returns-clause-choices c = choices_one

pub returns-clause-indices : goal.returns-clause-indices
returns-clause-indices c = indices_one

pub returns-clause-operations : goal.returns-clause-operations
returns-clause-operations c = operations_typed
