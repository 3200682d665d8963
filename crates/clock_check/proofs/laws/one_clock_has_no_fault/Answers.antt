use Rattle.clock_check.proofs.Deciding.{has_none}
use Rattle.clock_check.proofs.laws.one_clock_has_no_fault.Goals as goal

pub returns : goal.returns
returns c = has_none
