use Rattle.std.proofs.Common.{refl}
use Rattle.clap.proofs.OnLiterals.{clap_on_literals}
use Rattle.command_words.proofs.laws.names_are_texts.Goals as goal

pub returns-clause-behind : goal.returns-clause-behind
unfolding clap_on_literals
returns-clause-behind c = λ name. refl

pub returns-clause-both : goal.returns-clause-both
unfolding clap_on_literals
returns-clause-both c = λ circuit stimulus. refl

pub returns-clause-saved : goal.returns-clause-saved
unfolding clap_on_literals
returns-clause-saved c = λ circuit state. refl

pub returns-clause-resumed : goal.returns-clause-resumed
unfolding clap_on_literals
returns-clause-resumed c = λ circuit state. refl

pub returns-clause-logged : goal.returns-clause-logged
unfolding clap_on_literals
returns-clause-logged c = λ circuit. refl
