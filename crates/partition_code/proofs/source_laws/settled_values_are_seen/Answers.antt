use Rattle.partition_code.proofs.Seen.{sees}
use Rattle.partition_code.proofs.source_laws.settled_values_are_seen.Goals as goal

pub returns : goal.returns
returns c = λ net S words inputs frame given rho w of match settled. sees net w words inputs frame given rho match settled S of
