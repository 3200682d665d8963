use Rattle.std.proofs.Common.{arith}
use Rattle.std.proofs.lemmas.Grind.{common_steps}
use Rattle.ground_net.specs.declared.ground.Ground.{the_lemmas}
use Rattle.definition_examples.proofs.net_examples.resets_stand_before_drivers.Goals as goal

pub returns-clause-reset_and_driver : goal.returns-clause-reset_and_driver
returns-clause-reset_and_driver c = grind (arith, common_steps, the_lemmas)

pub returns-clause-reset_alone : goal.returns-clause-reset_alone
returns-clause-reset_alone c = grind (arith, common_steps, the_lemmas)

pub returns-clause-driver : goal.returns-clause-driver
returns-clause-driver c = grind (arith, common_steps, the_lemmas)

pub returns-clause-kept : goal.returns-clause-kept
returns-clause-kept c = grind (arith, common_steps, the_lemmas)

pub returns-clause-driver_alone : goal.returns-clause-driver_alone
returns-clause-driver_alone c = grind (arith, common_steps, the_lemmas)

pub returns-clause-neither : goal.returns-clause-neither
returns-clause-neither c = grind (arith, common_steps, the_lemmas)
