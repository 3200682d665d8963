use Rattle.settling_laws.proofs.Stills.{still_settled}
use Rattle.settling_laws.proofs.sweep_runs.still_sweeps_are_settled.Goals as goal

pub returns : goal.returns
returns c = λ fitted all well initialized none leaves_of. still_settled fitted all (c.sweeps_settle.ensures fitted all well initialized none leaves_of)
