use Rattle.definition_examples.proofs.Leading.{root_late, root_ticking}
use Rattle.definition_examples.proofs.clocks.the_first_clock_input_is_the_root.Goals as goal

pub returns-clause-first : goal.returns-clause-first
returns-clause-first c = root_late

pub returns-clause-no_output : goal.returns-clause-no_output
returns-clause-no_output c = root_ticking
