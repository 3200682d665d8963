use Rattle.sim_engine.proofs.Once.{only_fault, no_fault, accepted_once, only_laid}
use Rattle.sim_engine.proofs.laws.a_text_is_settled.Goals as goal

pub returns-clause-fault : goal.returns-clause-fault
returns-clause-fault c = only_fault

pub returns-clause-either : goal.returns-clause-either
returns-clause-either c = no_fault

pub returns-clause-accepted : goal.returns-clause-accepted
returns-clause-accepted c = accepted_once

pub returns-clause-laid : goal.returns-clause-laid
returns-clause-laid c = only_laid
