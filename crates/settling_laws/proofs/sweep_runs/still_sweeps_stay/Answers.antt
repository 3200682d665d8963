use Rattle.settling_laws.proofs.Stills.{stays_still}
use Rattle.settling_laws.proofs.sweep_runs.still_sweeps_stay.Goals as goal

pub returns : goal.returns
returns c = stays_still
