use Rattle.std.proofs.Common.{arith}
use Rattle.std.proofs.lemmas.Grind.{common_steps}
use Rattle.ground_net.specs.declared.ground.Ground.{the_lemmas}
use Rattle.part_compile.proofs.frame_laws.registers_count_their_resets.Goals as goal

pub returns-clause-driven : goal.returns-clause-driven
returns-clause-driven c = grind (arith, common_steps, the_lemmas)

pub returns-clause-kept : goal.returns-clause-kept
returns-clause-kept c = grind (arith, common_steps, the_lemmas)

pub returns-clause-most : goal.returns-clause-most
returns-clause-most c = grind (arith, common_steps, the_lemmas)

pub returns-clause-crossed : goal.returns-clause-crossed
returns-clause-crossed c = grind (arith, common_steps, the_lemmas)
