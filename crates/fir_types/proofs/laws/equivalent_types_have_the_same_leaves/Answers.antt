use Rattle.fir_types.proofs.Ways.{same_ways}
use Rattle.fir_types.proofs.laws.equivalent_types_have_the_same_leaves.Goals as goal

pub returns : goal.returns
returns c = λ left right e. same_ways e
