use Rattle.std.proofs.Common.{refl}
use Rattle.clap.proofs.OnLiterals.{clap_on_literals}
use Rattle.command_words.proofs.laws.dumps_are_read.Goals as goal

pub returns-clause-alone : goal.returns-clause-alone
unfolding clap_on_literals
returns-clause-alone c = refl

pub returns-clause-leaves : goal.returns-clause-leaves
unfolding clap_on_literals
returns-clause-leaves c = refl

pub returns-clause-around : goal.returns-clause-around
unfolding clap_on_literals
returns-clause-around c = refl

pub returns-clause-behind : goal.returns-clause-behind
unfolding clap_on_literals
returns-clause-behind c = refl
