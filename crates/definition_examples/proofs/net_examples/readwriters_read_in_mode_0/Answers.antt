use Rattle.std.proofs.Common.{arith}
use Rattle.std.proofs.lemmas.Grind.{common_steps}
use Rattle.ground_net.specs.declared.ground.Ground.{the_lemmas}
use Rattle.definition_examples.proofs.net_examples.readwriters_read_in_mode_0.Goals as goal

pub returns-clause-kept : goal.returns-clause-kept
returns-clause-kept c = grind (arith, common_steps, the_lemmas)

pub returns-clause-read : goal.returns-clause-read
returns-clause-read c = grind (arith, common_steps, the_lemmas)
