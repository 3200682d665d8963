use Rattle.std.proofs.Common.{ap, sym, ◌∙◌}
use Rattle.asked_texts.specs.Commands.{question_of}
use Rattle.sim_top.proofs.AnswersOnce.{same_answers}
use Rattle.sim_top.proofs.laws.workers_change_no_answer.Goals as goal

pub returns-clause-run : goal.returns-clause-run
returns-clause-run c = λ words others workers more refined circuit stimulus one other.
    same_answers words others (ap question_of one ∙ sym (ap question_of other))

pub returns-clause-refined : goal.returns-clause-refined
returns-clause-refined c = λ words others workers more refined plain circuit stimulus one other.
    same_answers words others (ap question_of one ∙ sym (ap question_of other))

pub returns-clause-make : goal.returns-clause-make
returns-clause-make c = λ words others workers more cycles size one other.
    same_answers words others (ap question_of one ∙ sym (ap question_of other))

pub returns-clause-vcd : goal.returns-clause-vcd
returns-clause-vcd c = λ words others workers more circuit leaves one other.
    same_answers words others (ap question_of one ∙ sym (ap question_of other))

pub returns-clause-save : goal.returns-clause-save
returns-clause-save c = λ words others workers more circuit state one other.
    same_answers words others (ap question_of one ∙ sym (ap question_of other))

pub returns-clause-resume : goal.returns-clause-resume
returns-clause-resume c = λ words others workers more circuit state one other.
    same_answers words others (ap question_of one ∙ sym (ap question_of other))

pub returns-clause-log : goal.returns-clause-log
returns-clause-log c = λ words others workers more circuit one other.
    same_answers words others (ap question_of one ∙ sym (ap question_of other))
