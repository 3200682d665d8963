use Rattle.std.proofs.Common.{arith}
use Rattle.std.proofs.lemmas.Grind.{common_steps}
use Rattle.ground_net.specs.declared.ground.Ground.{the_lemmas}
use Rattle.ground_net.specs.declared.circuit.GroundStmt.{the_lemmas as the_statement_lemmas}
use Rattle.definition_examples.proofs.net_examples.covered_connects_are_not_live.Goals as goal

pub returns-clause-covered : goal.returns-clause-covered
returns-clause-covered c = grind (arith, common_steps, the_lemmas, the_statement_lemmas)

pub returns-clause-under_condition : goal.returns-clause-under_condition
returns-clause-under_condition c = grind (arith, common_steps, the_lemmas, the_statement_lemmas)

pub returns-clause-with_conditions : goal.returns-clause-with_conditions
returns-clause-with_conditions c = grind (arith, common_steps, the_lemmas, the_statement_lemmas)

pub returns-clause-covered_by_when : goal.returns-clause-covered_by_when
returns-clause-covered_by_when c = grind (arith, common_steps, the_lemmas, the_statement_lemmas)

pub returns-clause-certain : goal.returns-clause-certain
returns-clause-certain c = grind (arith, common_steps, the_lemmas, the_statement_lemmas)

pub returns-clause-without_else : goal.returns-clause-without_else
returns-clause-without_else c = grind (arith, common_steps, the_lemmas, the_statement_lemmas)

pub returns-clause-conditional : goal.returns-clause-conditional
returns-clause-conditional c = grind (arith, common_steps, the_lemmas, the_statement_lemmas)
