use Rattle.std.proofs.Common.{arith}
use Rattle.std.proofs.lemmas.Grind.{common_steps}
use Rattle.ground_net.specs.declared.ground.Ground.{the_lemmas}
use Rattle.ground_net.specs.declared.circuit.GroundStmt.{the_lemmas as the_statement_lemmas}
use Rattle.definition_examples.proofs.net_examples.arms_read_the_conditions_before_them.Goals as goal

pub returns-clause-around : goal.returns-clause-around
returns-clause-around c = grind (arith, common_steps, the_lemmas, the_statement_lemmas)

pub returns-clause-within : goal.returns-clause-within
returns-clause-within c = grind (arith, common_steps, the_lemmas, the_statement_lemmas)
