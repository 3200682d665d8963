use Rattle.std.proofs.Common.{arith}
use Rattle.std.proofs.lemmas.Grind.{common_steps}
use Rattle.ground_net.specs.declared.ground.Ground.{the_lemmas}
use Rattle.definition_examples.proofs.net_examples.readwriters_write_in_mode_1.Goals as goal

pub returns-clause-written : goal.returns-clause-written
returns-clause-written c = grind (arith, common_steps, the_lemmas)

pub returns-clause-others : goal.returns-clause-others
returns-clause-others c = grind (arith, common_steps, the_lemmas)

pub returns-clause-read : goal.returns-clause-read
returns-clause-read c = grind (arith, common_steps, the_lemmas)
