use Rattle.std.proofs.Common.{arith}
use Rattle.std.proofs.lemmas.Grind.{common_steps}
use Rattle.ground_net.specs.declared.ground.Ground.{the_lemmas}
use Rattle.part_compile.proofs.frame_laws.memories_count_writes_and_captures.Goals as goal

pub returns-clause-writer : goal.returns-clause-writer
returns-clause-writer c = grind (arith, common_steps, the_lemmas)

pub returns-clause-readwriter : goal.returns-clause-readwriter
returns-clause-readwriter c = grind (arith, common_steps, the_lemmas)

pub returns-clause-captured : goal.returns-clause-captured
returns-clause-captured c = grind (arith, common_steps, the_lemmas)

pub returns-clause-at_once : goal.returns-clause-at_once
returns-clause-at_once c = grind (arith, common_steps, the_lemmas)

pub returns-clause-after : goal.returns-clause-after
returns-clause-after c = grind (arith, common_steps, the_lemmas)
