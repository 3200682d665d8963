use Rattle.std.proofs.Common.{arith}
use Rattle.std.proofs.lemmas.Grind.{common_steps}
use Rattle.ground_net.specs.declared.ground.Ground.{the_lemmas}
use Rattle.ground_net.specs.declared.circuit.GroundStmt.{the_lemmas as the_statement_lemmas}
use Rattle.definition_examples.proofs.net_examples.first_arms_count.Goals as goal

pub returns-clause-first : goal.returns-clause-first
returns-clause-first c = grind (arith, common_steps, the_lemmas, the_statement_lemmas)

pub returns-clause-second : goal.returns-clause-second
returns-clause-second c = grind (arith, common_steps, the_lemmas, the_statement_lemmas)

pub returns-clause-neither : goal.returns-clause-neither
returns-clause-neither c = grind (arith, common_steps, the_lemmas, the_statement_lemmas)
