use Rattle.std.proofs.Common.{arith}
use Rattle.std.proofs.lemmas.Grind.{common_steps}
use Rattle.ground_net.specs.declared.ground.Ground.{the_lemmas}
use Rattle.definition_examples.proofs.net_examples.registers_need_their_resets.Goals as goal

pub returns-clause-watched : goal.returns-clause-watched
returns-clause-watched c = grind (arith, common_steps, the_lemmas)

pub returns-clause-with_reset : goal.returns-clause-with_reset
returns-clause-with_reset c = grind (arith, common_steps, the_lemmas)

pub returns-clause-without : goal.returns-clause-without
returns-clause-without c = grind (arith, common_steps, the_lemmas)

pub returns-clause-memory : goal.returns-clause-memory
returns-clause-memory c = grind (arith, common_steps, the_lemmas)
