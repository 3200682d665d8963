use Rattle.definition_examples.proofs.TwoModules.{passing_settled, passing_row, passing_next}
use Rattle.definition_examples.proofs.runs.instances_pass_values.Goals as goal

pub returns-clause-settled : goal.returns-clause-settled
returns-clause-settled c = passing_settled

pub returns-clause-shown : goal.returns-clause-shown
returns-clause-shown c = passing_row

pub returns-clause-next : goal.returns-clause-next
returns-clause-next c = passing_next
