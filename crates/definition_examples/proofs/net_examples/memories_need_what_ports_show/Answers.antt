use Rattle.std.proofs.Common.{arith}
use Rattle.std.proofs.lemmas.Grind.{common_steps}
use Rattle.ground_net.specs.declared.ground.Ground.{the_lemmas}
use Rattle.definition_examples.proofs.net_examples.memories_need_what_ports_show.Goals as goal

pub returns-clause-writer : goal.returns-clause-writer
returns-clause-writer c = grind (arith, common_steps, the_lemmas)

pub returns-clause-at_once : goal.returns-clause-at_once
returns-clause-at_once c = grind (arith, common_steps, the_lemmas)

pub returns-clause-later : goal.returns-clause-later
returns-clause-later c = grind (arith, common_steps, the_lemmas)

pub returns-clause-both : goal.returns-clause-both
returns-clause-both c = grind (arith, common_steps, the_lemmas)

pub returns-clause-both_at_once : goal.returns-clause-both_at_once
returns-clause-both_at_once c = grind (arith, common_steps, the_lemmas)

pub returns-clause-all : goal.returns-clause-all
returns-clause-all c = grind (arith, common_steps, the_lemmas)
