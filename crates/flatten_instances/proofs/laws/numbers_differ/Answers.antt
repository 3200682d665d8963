use Rattle.flatten_instances.proofs.Uniqueness.{one_number, number_below}
use Rattle.flatten_instances.proofs.laws.numbers_differ.Goals as goal

pub returns-clause-differ : goal.returns-clause-differ
returns-clause-differ c = one_number

pub returns-clause-below : goal.returns-clause-below
returns-clause-below c = number_below
