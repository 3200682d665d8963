use Rattle.size_laws.proofs.Indexed.{indexed}
use Rattle.size_laws.proofs.examples.indices_count_with_their_leaves.Goals as goal

pub returns : goal.returns
returns c = λ texts. indexed texts
