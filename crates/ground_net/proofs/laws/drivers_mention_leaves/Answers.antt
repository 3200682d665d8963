use Rattle.ground_net.proofs.Mentioning.{mentions_leaves}
use Rattle.ground_net.proofs.laws.drivers_mention_leaves.Goals as goal

pub returns : goal.returns
returns c = λ net w. mentions_leaves net w
