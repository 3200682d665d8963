use Rattle.std.proofs.Common.{refl}
use Rattle.clap.proofs.OnLiterals.{clap_on_literals}
use Rattle.command_words.proofs.laws.logs_are_read.Goals as goal

pub returns-clause-alone : goal.returns-clause-alone
unfolding clap_on_literals
returns-clause-alone c = refl

pub returns-clause-dash : goal.returns-clause-dash
unfolding clap_on_literals
returns-clause-dash c = refl

pub returns-clause-workers : goal.returns-clause-workers
unfolding clap_on_literals
returns-clause-workers c = refl

pub returns-clause-behind : goal.returns-clause-behind
unfolding clap_on_literals
returns-clause-behind c = refl
