use Rattle.width_laws.proofs.Existing.{least_exists, circuit_least}
use Rattle.width_laws.proofs.laws.least_widths_exist.Goals as goal

pub returns-clause-rules : goal.returns-clause-rules
returns-clause-rules c = least_exists

pub returns-clause-circuits : goal.returns-clause-circuits
returns-clause-circuits c = circuit_least
