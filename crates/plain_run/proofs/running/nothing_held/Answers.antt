use Rattle.plain_run.proofs.Leading.{held_none}
use Rattle.plain_run.proofs.running.nothing_held.Goals as goal

pub returns : goal.returns
returns c = λ sites. held_none sites _ c.new.ensures c.new-2.ensures c.new-3.ensures
