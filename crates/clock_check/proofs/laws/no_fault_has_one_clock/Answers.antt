use Rattle.clock_check.proofs.Deciding.{one_clock}
use Rattle.clock_check.proofs.laws.no_fault_has_one_clock.Goals as goal

pub returns : goal.returns
returns c = one_clock
