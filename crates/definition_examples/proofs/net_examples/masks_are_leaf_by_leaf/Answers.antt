use Rattle.std.proofs.Common.{arith}
use Rattle.std.proofs.lemmas.Grind.{common_steps}
use Rattle.ground_net.specs.declared.ground.Ground.{the_lemmas}
use Rattle.definition_examples.proofs.net_examples.masks_are_leaf_by_leaf.Goals as goal

pub returns-clause-first_leaf : goal.returns-clause-first_leaf
returns-clause-first_leaf c = grind (arith, common_steps, the_lemmas)

pub returns-clause-first_leaf_alone : goal.returns-clause-first_leaf_alone
returns-clause-first_leaf_alone c = grind (arith, common_steps, the_lemmas)

pub returns-clause-second_leaf : goal.returns-clause-second_leaf
returns-clause-second_leaf c = grind (arith, common_steps, the_lemmas)

pub returns-clause-second_leaf_alone : goal.returns-clause-second_leaf_alone
returns-clause-second_leaf_alone c = grind (arith, common_steps, the_lemmas)

pub returns-clause-later_port : goal.returns-clause-later_port
returns-clause-later_port c = grind (arith, common_steps, the_lemmas)

pub returns-clause-later_port_where_masked : goal.returns-clause-later_port_where_masked
returns-clause-later_port_where_masked c = grind (arith, common_steps, the_lemmas)

pub returns-clause-later_leaf : goal.returns-clause-later_leaf
returns-clause-later_leaf c = grind (arith, common_steps, the_lemmas)

pub returns-clause-other_element : goal.returns-clause-other_element
returns-clause-other_element c = grind (arith, common_steps, the_lemmas)
