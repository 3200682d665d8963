use Rattle.net_laws.proofs.Verdicts.{verdict}
use Rattle.net_laws.proofs.loop_laws.verdicts_are_of_circuits.Goals as goal

pub returns : goal.returns
returns c = λ texts design net serves result v. verdict texts design net serves result v
