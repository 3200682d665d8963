use Rattle.reset_search.proofs.Leading.{ways_reach}
use Rattle.reset_search.proofs.laws.ways_lead_to_what_is_reached.Goals as goal

pub returns : goal.returns
returns c all number graph n p = ways_reach all number graph n p
