use Rattle.std.proofs.Common.{arith}
use Rattle.std.proofs.lemmas.Grind.{common_steps}
use Rattle.ground_net.specs.declared.ground.Ground.{the_lemmas}
use Rattle.definition_examples.proofs.net_examples.reads_stand_before_or_after_writes.Goals as goal

pub returns-clause-before : goal.returns-clause-before
returns-clause-before c = grind (arith, common_steps, the_lemmas)

pub returns-clause-before_too : goal.returns-clause-before_too
returns-clause-before_too c = grind (arith, common_steps, the_lemmas)

pub returns-clause-after : goal.returns-clause-after
returns-clause-after c = grind (arith, common_steps, the_lemmas)

pub returns-clause-after_too : goal.returns-clause-after_too
returns-clause-after_too c = grind (arith, common_steps, the_lemmas)

pub returns-clause-after_all : goal.returns-clause-after_all
returns-clause-after_all c = grind (arith, common_steps, the_lemmas)

pub returns-clause-other_memory : goal.returns-clause-other_memory
returns-clause-other_memory c = grind (arith, common_steps, the_lemmas)

pub returns-clause-other_contents : goal.returns-clause-other_contents
returns-clause-other_contents c = grind (arith, common_steps, the_lemmas)
