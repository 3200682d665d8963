use Rattle.std.proofs.Common.{refl}
use Rattle.clap.proofs.OnLiterals.{clap_on_literals}
use Rattle.command_words.proofs.laws.others_are_read.Goals as goal

pub returns-clause-check : goal.returns-clause-check
unfolding clap_on_literals
returns-clause-check c = refl

pub returns-clause-empty_name : goal.returns-clause-empty_name
unfolding clap_on_literals
returns-clause-empty_name c = refl

pub returns-clause-widths : goal.returns-clause-widths
unfolding clap_on_literals
returns-clause-widths c = refl

pub returns-clause-cut : goal.returns-clause-cut
unfolding clap_on_literals
returns-clause-cut c = refl

pub returns-clause-refine : goal.returns-clause-refine
unfolding clap_on_literals
returns-clause-refine c = refl

pub returns-clause-refine_all : goal.returns-clause-refine_all
unfolding clap_on_literals
returns-clause-refine_all c = refl
