use Rattle.std.proofs.Common.{arith}
use Rattle.std.proofs.lemmas.Grind.{common_steps}
use Rattle.ground_net.specs.declared.ground.Ground.{the_lemmas}
use Rattle.definition_examples.proofs.net_examples.addresses_past_the_depth_have_nothing.Goals as goal

pub returns-clause-kept : goal.returns-clause-kept
returns-clause-kept c = grind (arith, common_steps, the_lemmas)

pub returns-clause-first : goal.returns-clause-first
returns-clause-first c = grind (arith, common_steps, the_lemmas)

pub returns-clause-read : goal.returns-clause-read
returns-clause-read c = grind (arith, common_steps, the_lemmas)

pub returns-clause-loaded : goal.returns-clause-loaded
returns-clause-loaded c = grind (arith, common_steps, the_lemmas)

pub returns-clause-last : goal.returns-clause-last
returns-clause-last c = grind (arith, common_steps, the_lemmas)
