use Rattle.settling_laws.proofs.Nexts.{next_alike}
use Rattle.settling_laws.proofs.sweep_runs.same_states_go_on_alike.Goals as goal

pub returns : goal.returns
returns c = next_alike
