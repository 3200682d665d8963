use Rattle.settling_laws.proofs.Sames.{settled_alike}
use Rattle.settling_laws.proofs.sweep_runs.same_states_settle_alike.Goals as goal

pub returns : goal.returns
returns c = settled_alike
