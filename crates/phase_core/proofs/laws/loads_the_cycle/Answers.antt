use Rattle.phase_core.proofs.Runs.{loads_cycle}
use Rattle.phase_core.proofs.laws.loads_the_cycle.Goals as goal

pub returns : goal.returns
returns c = loads_cycle
