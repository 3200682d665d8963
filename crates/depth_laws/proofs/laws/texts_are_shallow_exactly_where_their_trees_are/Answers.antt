use Rattle.depth_laws.proofs.Exactly.{shallow_exactly}
use Rattle.depth_laws.proofs.laws.texts_are_shallow_exactly_where_their_trees_are.Goals as goal

pub returns : goal.returns
returns c = shallow_exactly
