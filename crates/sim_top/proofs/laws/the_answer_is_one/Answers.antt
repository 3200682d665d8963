use Rattle.sim_top.proofs.AnswersOnce.{answer_status, answer_bytes}
use Rattle.sim_top.proofs.laws.the_answer_is_one.Goals as goal

pub returns-clause-status : goal.returns-clause-status
returns-clause-status c = answer_status

pub returns-clause-bytes : goal.returns-clause-bytes
returns-clause-bytes c = answer_bytes
