use Rattle.phase_core.proofs.Runs.{run_sound}
use Rattle.phase_core.proofs.laws.stays_sound.Goals as goal

pub returns : goal.returns
returns c = λ s t steps is. run_sound s is t steps
