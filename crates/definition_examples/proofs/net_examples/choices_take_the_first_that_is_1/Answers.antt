use Rattle.std.proofs.Common.{arith}
use Rattle.std.proofs.lemmas.Grind.{common_steps}
use Rattle.ground_net.specs.declared.ground.Ground.{the_lemmas}
use Rattle.definition_examples.proofs.net_examples.choices_take_the_first_that_is_1.Goals as goal

pub returns-clause-first : goal.returns-clause-first
returns-clause-first c = grind (arith, common_steps, the_lemmas)

pub returns-clause-second : goal.returns-clause-second
returns-clause-second c = grind (arith, common_steps, the_lemmas)

pub returns-clause-third : goal.returns-clause-third
returns-clause-third c = grind (arith, common_steps, the_lemmas)

pub returns-clause-none : goal.returns-clause-none
returns-clause-none c = grind (arith, common_steps, the_lemmas)
