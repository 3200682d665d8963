use Rattle.std.proofs.Common.{refl}
use Rattle.clap.proofs.OnLiterals.{clap_on_literals}
use Rattle.command_words.proofs.laws.states_are_read.Goals as goal

pub returns-clause-saved : goal.returns-clause-saved
unfolding clap_on_literals
returns-clause-saved c = refl

pub returns-clause-saved_again : goal.returns-clause-saved_again
unfolding clap_on_literals
returns-clause-saved_again c = refl

pub returns-clause-saved_between : goal.returns-clause-saved_between
unfolding clap_on_literals
returns-clause-saved_between c = refl

pub returns-clause-resumed : goal.returns-clause-resumed
unfolding clap_on_literals
returns-clause-resumed c = refl

pub returns-clause-resumed_workers : goal.returns-clause-resumed_workers
unfolding clap_on_literals
returns-clause-resumed_workers c = refl

pub returns-clause-resumed_behind : goal.returns-clause-resumed_behind
unfolding clap_on_literals
returns-clause-resumed_behind c = refl
