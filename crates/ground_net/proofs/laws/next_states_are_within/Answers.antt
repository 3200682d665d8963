use Rattle.ground_net.proofs.Ranges.{next_within}
use Rattle.ground_net.proofs.laws.next_states_are_within.Goals as goal

pub returns : goal.returns
returns c = λ net w s instant h inside. next_within net w s instant h inside
