use Rattle.check_laws.proofs.Driving.{ways_agree, no_source_driven}
use Rattle.check_laws.proofs.laws.connects_drive_no_source.Goals as goal

pub returns-clause-ways : goal.returns-clause-ways
returns-clause-ways c = ways_agree

pub returns-clause-driven : goal.returns-clause-driven
returns-clause-driven c = no_source_driven
