use Rattle.settling_laws.proofs.Existence.{swept_settled}
use Rattle.settling_laws.proofs.sweep_laws.sweeps_settle.Goals as goal

pub returns : goal.returns
returns c = λ fitted all well initialized none leaves_of s given. swept_settled fitted well initialized all none leaves_of s given
