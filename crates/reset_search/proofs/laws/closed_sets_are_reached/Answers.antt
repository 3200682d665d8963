use Rattle.reset_search.proofs.Reaching.{reached_is}
use Rattle.reset_search.proofs.laws.closed_sets_are_reached.Goals as goal

pub returns : goal.returns
returns c all found b o only p = reached_is all found (record { begins' = b; onward' = o; only = only }) p
