use Rattle.std.proofs.Common.{arith}
use Rattle.std.proofs.lemmas.Grind.{common_steps}
use Rattle.ground_net.specs.declared.ground.Ground.{the_lemmas}
use Rattle.ground_net.specs.declared.circuit.GroundStmt.{the_lemmas as the_statement_lemmas}
use Rattle.definition_examples.proofs.net_examples.last_connects_stay.Goals as goal

pub returns-clause-last : goal.returns-clause-last
returns-clause-last c = grind (arith, common_steps, the_lemmas, the_statement_lemmas)

pub returns-clause-others : goal.returns-clause-others
returns-clause-others c = grind (arith, common_steps, the_lemmas, the_statement_lemmas)

pub returns-clause-others_alone : goal.returns-clause-others_alone
returns-clause-others_alone c = grind (arith, common_steps, the_lemmas, the_statement_lemmas)

pub returns-clause-all_hold : goal.returns-clause-all_hold
returns-clause-all_hold c = grind (arith, common_steps, the_lemmas, the_statement_lemmas)

pub returns-clause-one_fails : goal.returns-clause-one_fails
returns-clause-one_fails c = grind (arith, common_steps, the_lemmas, the_statement_lemmas)

pub returns-clause-over_when : goal.returns-clause-over_when
returns-clause-over_when c = grind (arith, common_steps, the_lemmas, the_statement_lemmas)

pub returns-clause-before_when : goal.returns-clause-before_when
returns-clause-before_when c = grind (arith, common_steps, the_lemmas, the_statement_lemmas)

pub returns-clause-in_when : goal.returns-clause-in_when
returns-clause-in_when c = grind (arith, common_steps, the_lemmas, the_statement_lemmas)
