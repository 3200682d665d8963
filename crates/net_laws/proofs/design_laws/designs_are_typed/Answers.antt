use Rattle.net_laws.proofs.Accepted.{is_typed}
use Rattle.net_laws.proofs.design_laws.designs_are_typed.Goals as goal

pub returns : goal.returns
returns c = λ fitted well. is_typed fitted well
