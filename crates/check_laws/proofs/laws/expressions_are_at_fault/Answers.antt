use Rattle.check_laws.proofs.Faults.{faults_exactly}
use Rattle.check_laws.proofs.Sound.{faultless_parts}
use Rattle.check_laws.proofs.laws.expressions_are_at_fault.Goals as goal

pub returns-clause-faults : goal.returns-clause-faults
returns-clause-faults c = faults_exactly

pub returns-clause-faultless : goal.returns-clause-faultless
returns-clause-faultless c = faultless_parts
