use Rattle.settling_laws.proofs.Existence.{one_settled, settled_is_swept}
use Rattle.settling_laws.proofs.sweep_laws.one_settled_by_sweeps.Goals as goal

pub returns-clause-one : goal.returns-clause-one
returns-clause-one c = λ fitted all well initialized none leaves_of s given. one_settled fitted well initialized all none leaves_of s given

pub returns-clause-agrees : goal.returns-clause-agrees
returns-clause-agrees c = λ fitted all well initialized none leaves_of s given rho h x l. settled_is_swept fitted well initialized all none leaves_of s given rho h x l
