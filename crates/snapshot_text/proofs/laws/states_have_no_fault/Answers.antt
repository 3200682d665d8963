use Rattle.snapshot_text.proofs.Faultless.{faultless}
use Rattle.snapshot_text.proofs.laws.states_have_no_fault.Goals as goal

pub returns : goal.returns
returns c = faultless
