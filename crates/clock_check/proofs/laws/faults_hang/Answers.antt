use Rattle.clock_check.proofs.Faulting.{other_hangs, hangs_other}
use Rattle.clock_check.proofs.laws.faults_hang.Goals as goal

pub returns : goal.returns
returns c = λ fitted well place. (
  λ other. other_hangs fitted (c.reached_modules_stand_at_paths.ensures.typed fitted well) place other,
  λ hangs. hangs_other fitted (c.components_are_named.ensures fitted well.names) place hangs,
)
