use Rattle.reset_search.proofs.Once.{resolved_once}
use Rattle.reset_search.proofs.laws.resolved_circuits_are_one.Goals as goal

pub returns : goal.returns
returns c circuit one other p q = resolved_once circuit one other p q
