use Rattle.std.proofs.Common.{arith}
use Rattle.std.proofs.lemmas.Grind.{common_steps}
use Rattle.ground_net.specs.declared.ground.Ground.{the_lemmas}
use Rattle.part_compile.proofs.frame_laws.chains_keep_one_assignment.Goals as goal

pub returns-clause-first : goal.returns-clause-first
returns-clause-first c = grind (arith, common_steps, the_lemmas)

pub returns-clause-second : goal.returns-clause-second
returns-clause-second c = grind (arith, common_steps, the_lemmas)

pub returns-clause-last : goal.returns-clause-last
returns-clause-last c = grind (arith, common_steps, the_lemmas)

pub returns-clause-live : goal.returns-clause-live
returns-clause-live c = grind (arith, common_steps, the_lemmas)

pub returns-clause-nodes : goal.returns-clause-nodes
returns-clause-nodes c = grind (arith, common_steps, the_lemmas)

pub returns-clause-bound : goal.returns-clause-bound
returns-clause-bound c = grind (arith, common_steps, the_lemmas)
