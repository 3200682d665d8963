use Rattle.std.proofs.Common.{arith}
use Rattle.std.proofs.lemmas.Grind.{common_steps}
use Rattle.ground_net.specs.declared.ground.Ground.{the_lemmas}
use Rattle.part_compile.proofs.frame_laws.read_assignments_stay.Goals as goal

pub returns-clause-gathered : goal.returns-clause-gathered
returns-clause-gathered c = grind (arith, common_steps, the_lemmas)

pub returns-clause-held : goal.returns-clause-held
returns-clause-held c = grind (arith, common_steps, the_lemmas)

pub returns-clause-shown : goal.returns-clause-shown
returns-clause-shown c = grind (arith, common_steps, the_lemmas)

pub returns-clause-live : goal.returns-clause-live
returns-clause-live c = grind (arith, common_steps, the_lemmas)

pub returns-clause-nodes : goal.returns-clause-nodes
returns-clause-nodes c = grind (arith, common_steps, the_lemmas)
