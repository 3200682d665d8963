use Rattle.std.proofs.Common.{refl}
use Rattle.clap.proofs.OnLiterals.{clap_on_literals}
use Rattle.command_words.proofs.laws.runs_are_read.Goals as goal

pub returns-clause-alone : goal.returns-clause-alone
unfolding clap_on_literals
returns-clause-alone c = refl

pub returns-clause-two_texts : goal.returns-clause-two_texts
unfolding clap_on_literals
returns-clause-two_texts c = refl

pub returns-clause-workers : goal.returns-clause-workers
unfolding clap_on_literals
returns-clause-workers c = refl

pub returns-clause-attached : goal.returns-clause-attached
unfolding clap_on_literals
returns-clause-attached c = refl

pub returns-clause-behind : goal.returns-clause-behind
unfolding clap_on_literals
returns-clause-behind c = refl

pub returns-clause-refined : goal.returns-clause-refined
unfolding clap_on_literals
returns-clause-refined c = refl

pub returns-clause-refined_behind : goal.returns-clause-refined_behind
unfolding clap_on_literals
returns-clause-refined_behind c = refl
