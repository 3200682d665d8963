use Rattle.definition_examples.proofs.Pairs.{made_of}
use Rattle.definition_examples.proofs.registers.initial_values_count_leaf_by_leaf.Goals as goal

pub returns : goal.returns
returns c = made_of
