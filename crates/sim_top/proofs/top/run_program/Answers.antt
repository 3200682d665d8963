use Rattle.sim_top.proofs.Replying.{ends_wanting}
use Rattle.sim_top.proofs.Carrying.{ready_few, ended_few, ended_shelf, ended_usage, ended_no_command, ended_complete, carried_ends, carried_answered, carried_unheld, carried_usage, carried_line}
use Rattle.sim_top.proofs.top.run_program.Goals as goal

pub returns-in-Ok-clause-ends : goal.returns-in-Ok-clause-ends
returns-in-Ok-clause-ends g c = λ texts before held written.
    carried_ends _ texts c.in-Ok.task.decision _ before _ _ (c.in-Ok.ensures.answers texts held) c.in-Ok.ensures.ready c.carry_out.ensures.carried c.carry_out.ensures.status written

pub returns-in-Ok-clause-usage : goal.returns-in-Ok-clause-usage
returns-in-Ok-clause-usage g c = λ one. c.in-Ok.ensures.usage (ended_usage _ _ c.carry_out.ensures.status one)

pub returns-in-Ok-clause-no_command : goal.returns-in-Ok-clause-no_command
returns-in-Ok-clause-no_command g c = λ none. ended_no_command _ _ c.carry_out.ensures.status (c.in-Ok.ensures.no_command none)

pub returns-in-Ok-clause-shelf_fault : goal.returns-in-Ok-clause-shelf_fault
returns-in-Ok-clause-shelf_fault g c = λ four. absurd (ended_shelf _ _ (ready_few c.in-Ok.task.decision c.in-Ok.ensures.ready) c.carry_out.ensures.status four)

pub returns-in-Ok-clause-few : goal.returns-in-Ok-clause-few
returns-in-Ok-clause-few g c = ended_few _ _ (ready_few c.in-Ok.task.decision c.in-Ok.ensures.ready) c.carry_out.ensures.status

pub returns-in-Ok-clause-untouched : goal.returns-in-Ok-clause-untouched
returns-in-Ok-clause-untouched g c = λ four. absurd (ended_shelf _ _ (ready_few c.in-Ok.task.decision c.in-Ok.ensures.ready) c.carry_out.ensures.status four)

pub returns-in-Ok-clause-usage_line : goal.returns-in-Ok-clause-usage_line
returns-in-Ok-clause-usage_line g c = λ before written.
    carried_usage c.in-Ok.task.decision _ before _ _ c.in-Ok.ensures.ready c.carry_out.ensures.carried c.carry_out.ensures.status written

pub returns-in-Ok-clause-one_line : goal.returns-in-Ok-clause-one_line
returns-in-Ok-clause-one_line g c = λ before written.
    carried_line c.in-Ok.task.decision _ before _ _ c.in-Ok.ensures.ready c.carry_out.ensures.carried c.carry_out.ensures.status written

pub returns-in-Ok-clause-answered : goal.returns-in-Ok-clause-answered
returns-in-Ok-clause-answered g c = λ texts held.
    carried_answered _ texts c.in-Ok.task.decision _ _ _ (c.in-Ok.ensures.answers texts held) c.carry_out.ensures.carried c.carry_out.ensures.status

pub returns-in-Ok-clause-complete : goal.returns-in-Ok-clause-complete
returns-in-Ok-clause-complete g c = λ held kept.
    ended_complete _ _ _ (ready_few c.in-Ok.task.decision c.in-Ok.ensures.ready) c.carry_out.ensures.status c.carry_out.ensures.rose kept

pub returns-in-Ok-clause-unheld : goal.returns-in-Ok-clause-unheld
returns-in-Ok-clause-unheld g c = λ texts name held needs none.
    carried_unheld _ texts c.in-Ok.task.decision _ _ _ _ name held needs none (c.in-Ok.ensures.answers texts held) c.carry_out.ensures.carried c.carry_out.ensures.status

pub returns-in-Err-NoMemory-clause-ends : goal.returns-in-Err-NoMemory-clause-ends
returns-in-Err-NoMemory-clause-ends g c = λ texts before held written. ends_wanting _ texts before _ written
