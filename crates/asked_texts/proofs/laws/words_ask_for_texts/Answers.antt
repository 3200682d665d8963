use Rattle.std.proofs.Common.{refl}
use Rattle.clap.proofs.OnLiterals.{clap_on_literals}
use Rattle.asked_texts.proofs.laws.words_ask_for_texts.Goals as goal

pub returns-clause-run : goal.returns-clause-run
unfolding clap_on_literals
returns-clause-run c = refl

pub returns-clause-run_two : goal.returns-clause-run_two
unfolding clap_on_literals
returns-clause-run_two c = refl

pub returns-clause-check : goal.returns-clause-check
unfolding clap_on_literals
returns-clause-check c = refl

pub returns-clause-cut : goal.returns-clause-cut
unfolding clap_on_literals
returns-clause-cut c = refl

pub returns-clause-make : goal.returns-clause-make
unfolding clap_on_literals
returns-clause-make c = refl

pub returns-clause-vcd : goal.returns-clause-vcd
unfolding clap_on_literals
returns-clause-vcd c = refl

pub returns-clause-save : goal.returns-clause-save
unfolding clap_on_literals
returns-clause-save c = refl

pub returns-clause-save_on : goal.returns-clause-save_on
unfolding clap_on_literals
returns-clause-save_on c = refl

pub returns-clause-resume : goal.returns-clause-resume
unfolding clap_on_literals
returns-clause-resume c = refl

pub returns-clause-log : goal.returns-clause-log
unfolding clap_on_literals
returns-clause-log c = refl

pub returns-clause-nothing : goal.returns-clause-nothing
unfolding clap_on_literals
returns-clause-nothing c = refl
