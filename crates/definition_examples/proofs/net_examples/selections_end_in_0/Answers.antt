use Rattle.std.proofs.Common.{arith}
use Rattle.std.proofs.lemmas.Grind.{common_steps}
use Rattle.ground_net.specs.declared.ground.Ground.{the_lemmas}
use Rattle.definition_examples.proofs.net_examples.selections_end_in_0.Goals as goal

pub returns-clause-first : goal.returns-clause-first
returns-clause-first c = grind (arith, common_steps, the_lemmas)

pub returns-clause-last : goal.returns-clause-last
returns-clause-last c = grind (arith, common_steps, the_lemmas)

pub returns-clause-past : goal.returns-clause-past
returns-clause-past c = grind (arith, common_steps, the_lemmas)

pub returns-clause-empty : goal.returns-clause-empty
returns-clause-empty c = grind (arith, common_steps, the_lemmas)
