use Rattle.std.proofs.Common.{arith}
use Rattle.std.proofs.lemmas.Grind.{common_steps}
use Rattle.ground_net.specs.declared.ground.Ground.{the_lemmas}
use Rattle.ground_net.specs.declared.circuit.GroundStmt.{the_lemmas as the_statement_lemmas}
use Rattle.definition_examples.proofs.net_examples.inner_leaves_ask_nothing.Goals as goal

pub returns-clause-asked : goal.returns-clause-asked
returns-clause-asked c = grind (arith, common_steps, the_lemmas, the_statement_lemmas)

pub returns-clause-directly_in : goal.returns-clause-directly_in
returns-clause-directly_in c = grind (arith, common_steps, the_lemmas, the_statement_lemmas)

pub returns-clause-further_in : goal.returns-clause-further_in
returns-clause-further_in c = grind (arith, common_steps, the_lemmas, the_statement_lemmas)

pub returns-clause-outer_condition : goal.returns-clause-outer_condition
returns-clause-outer_condition c = grind (arith, common_steps, the_lemmas, the_statement_lemmas)

pub returns-clause-inner_condition : goal.returns-clause-inner_condition
returns-clause-inner_condition c = grind (arith, common_steps, the_lemmas, the_statement_lemmas)
