use Rattle.std.proofs.Common.{refl}
use Rattle.clap.proofs.OnLiterals.{clap_on_literals}
use Rattle.command_words.proofs.laws.other_words_are_refused.Goals as goal

pub returns-clause-no_words : goal.returns-clause-no_words
unfolding clap_on_literals
returns-clause-no_words c = refl

pub returns-clause-no_command : goal.returns-clause-no_command
unfolding clap_on_literals
returns-clause-no_command c = refl

pub returns-clause-no_name : goal.returns-clause-no_name
unfolding clap_on_literals
returns-clause-no_name c = refl

pub returns-clause-many_workers : goal.returns-clause-many_workers
unfolding clap_on_literals
returns-clause-many_workers c = refl

pub returns-clause-no_number : goal.returns-clause-no_number
unfolding clap_on_literals
returns-clause-no_number c = refl

pub returns-clause-no_value : goal.returns-clause-no_value
unfolding clap_on_literals
returns-clause-no_value c = refl

pub returns-clause-dashed_value : goal.returns-clause-dashed_value
unfolding clap_on_literals
returns-clause-dashed_value c = refl

pub returns-clause-twice : goal.returns-clause-twice
unfolding clap_on_literals
returns-clause-twice c = refl

pub returns-clause-two_names : goal.returns-clause-two_names
unfolding clap_on_literals
returns-clause-two_names c = refl

pub returns-clause-help : goal.returns-clause-help
unfolding clap_on_literals
returns-clause-help c = refl

pub returns-clause-option : goal.returns-clause-option
unfolding clap_on_literals
returns-clause-option c = refl

pub returns-clause-dash : goal.returns-clause-dash
unfolding clap_on_literals
returns-clause-dash c = refl

pub returns-clause-three_texts : goal.returns-clause-three_texts
unfolding clap_on_literals
returns-clause-three_texts c = refl

pub returns-clause-nothing_made : goal.returns-clause-nothing_made
unfolding clap_on_literals
returns-clause-nothing_made c = refl

pub returns-clause-too_many_made : goal.returns-clause-too_many_made
unfolding clap_on_literals
returns-clause-too_many_made c = refl

pub returns-clause-no_cycles : goal.returns-clause-no_cycles
unfolding clap_on_literals
returns-clause-no_cycles c = refl

pub returns-clause-no_size : goal.returns-clause-no_size
unfolding clap_on_literals
returns-clause-no_size c = refl

pub returns-clause-no_circuit : goal.returns-clause-no_circuit
unfolding clap_on_literals
returns-clause-no_circuit c = refl

pub returns-clause-no_dumper : goal.returns-clause-no_dumper
unfolding clap_on_literals
returns-clause-no_dumper c = refl

pub returns-clause-flag_twice : goal.returns-clause-flag_twice
unfolding clap_on_literals
returns-clause-flag_twice c = refl

pub returns-clause-flag_value : goal.returns-clause-flag_value
unfolding clap_on_literals
returns-clause-flag_value c = refl

pub returns-clause-flag_elsewhere : goal.returns-clause-flag_elsewhere
unfolding clap_on_literals
returns-clause-flag_elsewhere c = refl

pub returns-clause-nothing_saved : goal.returns-clause-nothing_saved
unfolding clap_on_literals
returns-clause-nothing_saved c = refl

pub returns-clause-no_circuit_saved : goal.returns-clause-no_circuit_saved
unfolding clap_on_literals
returns-clause-no_circuit_saved c = refl

pub returns-clause-three_saved : goal.returns-clause-three_saved
unfolding clap_on_literals
returns-clause-three_saved c = refl

pub returns-clause-many_savers : goal.returns-clause-many_savers
unfolding clap_on_literals
returns-clause-many_savers c = refl

pub returns-clause-savers_twice : goal.returns-clause-savers_twice
unfolding clap_on_literals
returns-clause-savers_twice c = refl

pub returns-clause-nothing_resumed : goal.returns-clause-nothing_resumed
unfolding clap_on_literals
returns-clause-nothing_resumed c = refl

pub returns-clause-no_state : goal.returns-clause-no_state
unfolding clap_on_literals
returns-clause-no_state c = refl

pub returns-clause-no_state_behind : goal.returns-clause-no_state_behind
unfolding clap_on_literals
returns-clause-no_state_behind c = refl

pub returns-clause-three_resumed : goal.returns-clause-three_resumed
unfolding clap_on_literals
returns-clause-three_resumed c = refl

pub returns-clause-no_resumer : goal.returns-clause-no_resumer
unfolding clap_on_literals
returns-clause-no_resumer c = refl

pub returns-clause-resumers_twice : goal.returns-clause-resumers_twice
unfolding clap_on_literals
returns-clause-resumers_twice c = refl

pub returns-clause-two_logged : goal.returns-clause-two_logged
unfolding clap_on_literals
returns-clause-two_logged c = refl

pub returns-clause-many_loggers : goal.returns-clause-many_loggers
unfolding clap_on_literals
returns-clause-many_loggers c = refl

pub returns-clause-loggers_twice : goal.returns-clause-loggers_twice
unfolding clap_on_literals
returns-clause-loggers_twice c = refl

pub returns-clause-flag_of_save : goal.returns-clause-flag_of_save
unfolding clap_on_literals
returns-clause-flag_of_save c = refl

pub returns-clause-flag_of_resume : goal.returns-clause-flag_of_resume
unfolding clap_on_literals
returns-clause-flag_of_resume c = refl

pub returns-clause-flag_of_log : goal.returns-clause-flag_of_log
unfolding clap_on_literals
returns-clause-flag_of_log c = refl
