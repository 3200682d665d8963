use Rattle.depth_laws.proofs.Exactly.{filled_exactly}
use Rattle.depth_laws.proofs.laws.filled_lists_are_shallow_exactly_where_their_trees_are.Goals as goal

pub returns : goal.returns
returns c = filled_exactly
