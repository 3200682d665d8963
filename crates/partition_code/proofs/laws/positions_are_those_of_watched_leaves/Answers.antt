use Rattle.std.proofs.Common.{refl}
use Rattle.partition_code.proofs.laws.positions_are_those_of_watched_leaves.Goals as goal

pub returns-clause-sinks : goal.returns-clause-sinks
returns-clause-sinks c = refl

pub returns-clause-positions : goal.returns-clause-positions
returns-clause-positions c = refl
